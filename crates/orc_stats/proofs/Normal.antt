-- The statistic of cells, and a joined one, is a statistic of its kind within the limits.
use Rattle.std.proofs.Common.{◌≡◌, refl, sym, ◌∙◌, ap, arith, ℕ, ◌+◌, ◌^◌, ◌≤◌, nat_le, nat_lt, le-leb, Bool, true, false, ◌&&◌, if◌then◌else◌, List, [], ◌∷◌, length, map, filter, sum_by, Option, Some, None}
use Rattle.std.proofs.lemmas.List.Sums.{sum_by-cons}
use Rattle.std.specs.List.{filter_map, AllByRecursion}
use Rattle.std.specs.Option.{option_and_then, IfSome}
use Rattle.std.specs.Ordering.{int_cmp, nat_cmp}
use Rattle.orc_values.specs.Cells.{Cell, values}
use Rattle.orc_stats.specs.declared.kind.StatKind.{StatKind}
use Rattle.orc_stats.specs.declared.kind.StatKind.TheVariants as kind
use Rattle.orc_stats.specs.declared.stat.Stat.{Stat}
use Rattle.orc_stats.specs.declared.stat.Body.{Body}
use Rattle.orc_stats.specs.declared.stat.Body.TheVariants as body
use Rattle.orc_stats.specs.Kinds.{is_of, body_is_of}
use Rattle.orc_stats.specs.Statistics.{reduce, bit, least, greatest, total, lengths, children_total, text_cmp, bool_of, values_body, stat}
use Rattle.orc_stats.specs.Joining.{in_limit, trues_total, parts_if_known, has_values, valued_bodies, bodies_joined, trues_of, joined}
use Rattle.orc_stats.specs.Messages.{unknown, few_trues, IsStat}
use Rattle.orc_stats.specs.laws.TallyKinds.{picked_map, few_bits, few_picked}
use Rattle.orc_stats.proofs.Folding.{few_values}
use Rattle.orc_stats.proofs.Parts.{few_ints, few_dates, few_bools, few_texts, few_bins}
use Rattle.orc_stats.proofs.ChildTotals.{few_children}

within : (n : ℕ) (t : Option ℕ) → n ≤ 2 ^ 62 → few_trues t ≡ true → (nat_le n (2 ^ 62) && few_trues t) ≡ true
within n t most few = ap (λ b. b && few_trues t) (le-leb n (2 ^ 62) most) ∙ few

-- ---- joined
few_total : (r : Option ℕ) → few_trues (option_and_then in_limit r) ≡ true
few_total None = refl
few_total (Some n) = limited (nat_le n (2 ^ 62)) refl
  where
    limited : (b : Bool) → nat_le n (2 ^ 62) ≡ b → few_trues (if b then Some n else None) ≡ true
    limited true e = e
    limited false e = refl

few_known : (p : Option (List ℕ)) → few_trues (option_and_then trues_total p) ≡ true
few_known None = refl
few_known (Some ns) = few_total (reduce ◌+◌ ns)

joined_kind : (k : StatKind) (bs : List Body) → body_is_of k (bodies_joined k bs) ≡ true
joined_kind kind.Plain bs = refl
joined_kind kind.Ints bs = refl
joined_kind kind.Bools bs = refl
joined_kind kind.Dates bs = refl
joined_kind kind.Texts bs = refl
joined_kind kind.Bins bs = refl
joined_kind kind.Children bs = refl

joined_trues : (k : StatKind) (bs : List Body) → few_trues (trues_of (bodies_joined k bs)) ≡ true
joined_trues kind.Plain bs = refl
joined_trues kind.Ints bs = refl
joined_trues kind.Bools bs = few_known (parts_if_known (map trues_of bs))
joined_trues kind.Dates bs = refl
joined_trues kind.Texts bs = refl
joined_trues kind.Bins bs = refl
joined_trues kind.Children bs = refl

none_joined : (k : StatKind) → bodies_joined k [] ≡ unknown k
none_joined kind.Plain = refl
none_joined kind.Ints = refl
none_joined kind.Bools = refl
none_joined kind.Dates = refl
none_joined kind.Texts = refl
none_joined kind.Bins = refl
none_joined kind.Children = refl

without_values : (s : Stat) (ss : List Stat) → s.count ≡ 0 → valued_bodies (s ∷ ss) ≡ valued_bodies ss
without_values s ss e = ap (λ n. map (λ t. t.body) (if nat_lt 0 n then s ∷ filter has_values ss else filter has_values ss)) e

no_values : (ss : List Stat) → sum_by (λ s. s.count) ss ≡ 0 → valued_bodies ss ≡ []
no_values [] e = refl
no_values (s ∷ ss) e =
    let both = sym (sum_by-cons (λ (t : Stat). t.count) s ss) ∙ e in
    without_values s ss (omega arith) ∙ no_values ss (omega arith)

pub joined-normal : (k : StatKind) (ss : List Stat) → sum_by (λ s. s.count) ss ≤ 2 ^ 62 → IsStat k (joined k ss)
joined-normal k ss most = record {
  kind = joined_kind k (valued_bodies ss);
  limits = within (sum_by (λ s. s.count) ss) (trues_of (bodies_joined k (valued_bodies ss))) most (joined_trues k (valued_bodies ss));
  empty = λ e. ap (bodies_joined k) (no_values ss e) ∙ none_joined k;
}

-- ---- of cells
cells_kind : (k : StatKind) (cells : List Cell) → body_is_of k (values_body k cells) ≡ true
cells_kind kind.Plain cells = refl
cells_kind kind.Ints cells = refl
cells_kind kind.Bools cells = refl
cells_kind kind.Dates cells = refl
cells_kind kind.Texts cells = refl
cells_kind kind.Bins cells = refl
cells_kind kind.Children cells = refl

few_of : (r : Option ℕ) (n : ℕ) → IfSome r (λ k. k ≤ n) → n ≤ 2 ^ 62 → few_trues r ≡ true
few_of None n few most = refl
few_of (Some k) n few most = le-leb k (2 ^ 62) (omega arith)

cells_trues : (k : StatKind) (cells : List Cell) → length cells ≤ 2 ^ 62 → few_trues (trues_of (values_body k cells)) ≡ true
cells_trues kind.Plain cells most = refl
cells_trues kind.Ints cells most = refl
cells_trues kind.Bools cells most =
    let bs = filter_map bool_of cells in
    let few = few_picked bool_of cells in
    few_of (reduce ◌+◌ (map bit bs)) (length bs) (few_bits bs) (omega arith)
cells_trues kind.Dates cells most = refl
cells_trues kind.Texts cells most = refl
cells_trues kind.Bins cells most = refl
cells_trues kind.Children cells most = refl

nothing : {A : Type 0} (xs : List A) (n : ℕ) → n ≡ length xs → n ≡ 0 → xs ≡ []
nothing [] n e z = refl
nothing (x ∷ xs) n e z = absurd (omega arith)

cells_unknown : (k : StatKind) (cells : List Cell) → AllByRecursion (λ c. is_of k c ≡ true) cells → length (values cells) ≡ 0 → values_body k cells ≡ unknown k
cells_unknown kind.Plain cells h e = refl
cells_unknown kind.Ints cells h e = ap (λ zs. body.Ints (least int_cmp zs) (greatest int_cmp zs) (total zs)) (nothing _ _ (few_ints cells h) e)
cells_unknown kind.Bools cells h e = ap (λ ns. body.Bools (reduce ◌+◌ ns)) (sym (picked_map bit bool_of cells) ∙ nothing _ _ (few_bools cells h) e)
cells_unknown kind.Dates cells h e = ap (λ zs. body.Dates (least int_cmp zs) (greatest int_cmp zs)) (nothing _ _ (few_dates cells h) e)
cells_unknown kind.Texts cells h e = ap (λ ts. body.Texts (least text_cmp ts) (greatest text_cmp ts) (total (lengths ts))) (nothing _ _ (few_texts cells h) e)
cells_unknown kind.Bins cells h e = ap (λ ts. body.Bins (total (lengths ts))) (nothing _ _ (few_bins cells h) e)
cells_unknown kind.Children cells h e = ap (λ ns. body.Children (least nat_cmp ns) (greatest nat_cmp ns) (children_total ns)) (nothing _ _ (few_children cells h) e)

pub stat-normal : (k : StatKind) (cells : List Cell) → AllByRecursion (λ c. is_of k c ≡ true) cells → length cells ≤ 2 ^ 62 → IsStat k (stat k cells)
stat-normal k cells h most = record {
  kind = cells_kind k cells;
  limits = (let few = few_values cells in within (length (values cells)) (trues_of (values_body k cells)) (omega arith) (cells_trues k cells most));
  empty = cells_unknown k cells h;
}

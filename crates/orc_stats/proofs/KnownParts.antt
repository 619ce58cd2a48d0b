-- Statistics of parts that tell less of children, joined.
use Rattle.std.proofs.Common.{◌≡◌, refl, sym, ◌∙◌, ap, ap₂, subst, ℕ, ◌+◌, ◌^◌, ◌≤◌, Bool, true, false, if◌then◌else◌, List, [], ◌∷◌, length, map, filter, flat_map, sum_by, Option, Some, None}
use Rattle.std.proofs.lemmas.List.Sums.{sum_by-cons}
use Rattle.std.specs.List.{list_all, AllByRecursion}
use Rattle.std.specs.Option.{is_some, option_map, option_and_then}
use Rattle.std.specs.Ordering.{nat_cmp}
use Rattle.orc_values.specs.Cells.{Cell, values}
use Rattle.orc_stats.specs.declared.kind.StatKind.{StatKind}
use Rattle.orc_stats.specs.declared.kind.StatKind.TheVariants as kind
use Rattle.orc_stats.specs.declared.stat.Stat.{Stat}
use Rattle.orc_stats.specs.declared.stat.Body.{Body}
use Rattle.orc_stats.specs.Kinds.{is_of}
use Rattle.orc_stats.specs.Statistics.{least, greatest, children_total, has_null, values_body, stat}
use Rattle.orc_stats.specs.Joining.{parts_if_known, of_known, or_known, nulls_joined, least_children, greatest_children, total_children, has_values, valued_bodies, bodies_joined, joined}
use Rattle.orc_stats.specs.Whole.{keeps_sum, without_sum, whole}
use Rattle.orc_stats.specs.Known.{where_known, known_in, known_as, told_body, Part, part_cells, parts_of, told_of, known_whole, known_stats, AllAgree}
use Rattle.orc_stats.specs.Measures.{no_measure}
use Rattle.orc_stats.specs.laws.TallyLaws.{stat_is}
use Rattle.orc_stats.specs.laws.TallyKinds.{children_is}
use Rattle.orc_stats.proofs.Parts.{joined-parts}
use Rattle.orc_stats.proofs.Agreed.{same_agrees}

-- ---- parts that are told of in a list apart have their cells
pub part_cells-parts_of : (told : List (Option Stat)) (cells : List (List Cell)) → part_cells (parts_of told cells) ≡ cells
part_cells-parts_of told [] = refl
part_cells-parts_of [] (p ∷ ps) = ap (λ (z : List (List Cell)). p ∷ z) (part_cells-parts_of [] ps)
part_cells-parts_of (t ∷ ts) (p ∷ ps) = ap (λ (z : List (List Cell)). p ∷ z) (part_cells-parts_of ts ps)

-- ---- counts and nulls are as told in full
known_counts : (k : StatKind) (parts : List Part) → sum_by (λ s. s.count) (known_stats k parts) ≡ sum_by (λ s. s.count) (map (stat k) (part_cells parts))
known_counts k [] = refl
known_counts k (p ∷ ps) =
    sum_by-cons (λ (s : Stat). s.count) (known_as (told_body p.told) (stat k p.cells)) (known_stats k ps)
    ∙ ap (λ n. length (values p.cells) + n) (known_counts k ps)
    ∙ sym (sum_by-cons (λ (s : Stat). s.count) (stat k p.cells) (map (stat k) (part_cells ps)))

known_nulls : (k : StatKind) (parts : List Part) → nulls_joined (map (λ s. s.nulls) (known_stats k parts)) ≡ nulls_joined (map (λ s. s.nulls) (map (stat k) (part_cells parts)))
known_nulls k [] = refl
known_nulls k (p ∷ ps) = ap (or_known (Some (has_null p.cells))) (known_nulls k ps)

-- ---- a word of parts, where each is known
none_where : {A : Type 0} (b : Bool) → (let none : Option A = None in none ≡ (if b then none else none))
none_where true = refl
none_where false = refl

more_where : (b : Bool) (x : ℕ) (q : Option (List ℕ)) → option_map (λ xs. x ∷ xs) (if b then q else None) ≡ (if b then option_map (λ xs. x ∷ xs) q else None)
more_where true x q = refl
more_where false x q = refl

then_where : (f : List ℕ → Option ℕ) (b : Bool) (q : Option (List ℕ)) → option_and_then f (if b then q else None) ≡ (if b then option_and_then f q else None)
then_where f true q = refl
then_where f false q = refl

one_more : (o r : Option ℕ) (q : Option (List ℕ)) (ps : List (Option ℕ))
    → option_and_then (λ x. option_map (λ xs. x ∷ xs) (where_known ps q)) (where_known (o ∷ []) r) ≡ where_known (o ∷ ps) (option_and_then (λ x. option_map (λ xs. x ∷ xs) q) r)
one_more None r q ps = refl
one_more (Some y) None q ps = none_where (list_all is_some ps)
one_more (Some y) (Some x) q ps = more_where (list_all is_some ps) x q

module _ (part : Body → Option ℕ) (is : (o : Body) (p : List Cell) → part (known_in (o ∷ []) (values_body kind.Children p)) ≡ where_known (part o ∷ []) (part (values_body kind.Children p))) where
  step : (v : Bool) (p : Part) (s t : Stat) (ss ts : List Stat) (ps : List Part) → part s.body ≡ where_known (part (told_body p.told) ∷ []) (part t.body)
      → parts_if_known (map part (map (λ x. x.body) ss)) ≡ where_known (map part (map (λ (q : Part). told_body q.told) ps)) (parts_if_known (map part (map (λ x. x.body) ts)))
      → parts_if_known (map part (map (λ x. x.body) (if v then s ∷ ss else ss))) ≡ where_known (map part (map (λ (q : Part). told_body q.told) (if v then p ∷ ps else ps))) (parts_if_known (map part (map (λ x. x.body) (if v then t ∷ ts else ts))))
  step false p s t ss ts ps e h = h
  step true p s t ss ts ps e h =
      ap₂ (λ (r : Option ℕ) (q : Option (List ℕ)). option_and_then (λ x. option_map (λ xs. x ∷ xs) q) r) e h
      ∙ one_more (part (told_body p.told)) (part t.body) (parts_if_known (map part (map (λ x. x.body) ts))) (map part (map (λ (q : Part). told_body q.told) ps))

  parts_known : (parts : List Part)
      → parts_if_known (map part (valued_bodies (known_stats kind.Children parts))) ≡ where_known (map part (told_of kind.Children parts)) (parts_if_known (map part (valued_bodies (map (stat kind.Children) (part_cells parts)))))
  parts_known [] = refl
  parts_known (p ∷ ps) =
      step (has_values (stat kind.Children p.cells)) p (known_as (told_body p.told) (stat kind.Children p.cells)) (stat kind.Children p.cells) _ _
      (filter (λ (q : Part). has_values (stat kind.Children q.cells)) ps) (is (told_body p.told) p.cells) (parts_known ps)

  word_known : (f : List ℕ → Option ℕ) (parts : List Part)
      → of_known f (map part (valued_bodies (known_stats kind.Children parts))) ≡ where_known (map part (told_of kind.Children parts)) (of_known f (map part (valued_bodies (map (stat kind.Children) (part_cells parts)))))
  word_known f parts =
      ap (option_and_then f) (parts_known parts)
      ∙ then_where f (list_all is_some (map part (told_of kind.Children parts))) (parts_if_known (map part (valued_bodies (map (stat kind.Children) (part_cells parts)))))

children_known : (parts : List Part)
    → bodies_joined kind.Children (valued_bodies (known_stats kind.Children parts)) ≡ known_in (told_of kind.Children parts) (bodies_joined kind.Children (valued_bodies (map (stat kind.Children) (part_cells parts))))
children_known parts = children_is
    (word_known least_children (λ o p. refl) (least nat_cmp) parts)
    (word_known greatest_children (λ o p. refl) (greatest nat_cmp) parts)
    (word_known total_children (λ o p. refl) children_total parts)

-- ---- of other kinds nothing is left out
module _ (k : StatKind) (stays : (bs : List Body) (p : List Cell) → known_in bs (values_body k p) ≡ values_body k p) (whole_stays : (bs : List Body) (p : List Cell) → known_in bs (without_sum (values_body k p)) ≡ without_sum (values_body k p)) where
  all_stay : (parts : List Part) → known_stats k parts ≡ map (stat k) (part_cells parts)
  all_stay [] = refl
  all_stay (p ∷ ps) = ap₂ (λ (s : Stat) (ss : List Stat). s ∷ ss) (stat_is no_measure refl refl (stays (told_body p.told ∷ []) p.cells)) (all_stay ps)

  either : (b : Bool) (bs : List Body) (p : List Cell) → (if b then values_body k p else without_sum (values_body k p)) ≡ known_in bs (if b then values_body k p else without_sum (values_body k p))
  either true bs p = sym (stays bs p)
  either false bs p = sym (whole_stays bs p)

  other_known : (parts : List Part) → AllByRecursion (AllByRecursion (λ c. is_of k c ≡ true)) (part_cells parts)
      → length (flat_map (λ p. p) (part_cells parts)) ≤ 2 ^ 62 → joined k (known_stats k parts) ≡ known_whole k parts
  other_known parts h most =
      ap (joined k) (all_stay parts) ∙ joined-parts k (part_cells parts) h most
      ∙ stat_is no_measure refl refl (either (list_all (λ p. keeps_sum (stat k p)) (part_cells parts)) (told_of k parts) (flat_map (λ p. p) (part_cells parts)))

-- ---- each kind
pub joined-known : (k : StatKind) (parts : List Part) → AllByRecursion (AllByRecursion (λ c. is_of k c ≡ true)) (part_cells parts)
    → length (flat_map (λ p. p) (part_cells parts)) ≤ 2 ^ 62 → joined k (known_stats k parts) ≡ known_whole k parts
joined-known kind.Plain parts h most = other_known kind.Plain (λ bs p. refl) (λ bs p. refl) parts h most
joined-known kind.Ints parts h most = other_known kind.Ints (λ bs p. refl) (λ bs p. refl) parts h most
joined-known kind.Bools parts h most = other_known kind.Bools (λ bs p. refl) (λ bs p. refl) parts h most
joined-known kind.Dates parts h most = other_known kind.Dates (λ bs p. refl) (λ bs p. refl) parts h most
joined-known kind.Texts parts h most = other_known kind.Texts (λ bs p. refl) (λ bs p. refl) parts h most
joined-known kind.Bins parts h most = other_known kind.Bins (λ bs p. refl) (λ bs p. refl) parts h most
joined-known kind.Children parts h most =
    stat_is no_measure (known_counts kind.Children parts) (known_nulls kind.Children parts) (children_known parts)
    ∙ ap (λ (s : Stat). known_to (told_of kind.Children parts) s) (joined-parts kind.Children (part_cells parts) h most)
  where
    known_to : List Body → Stat → Stat
    known_to bs s = record { count = s.count; nulls = s.nulls; body = known_in bs s.body }

-- so of cells, and what is told of them in a list apart
pub joined-told : (k : StatKind) (told : List (Option Stat)) (parts : List (List Cell)) → AllByRecursion (AllByRecursion (λ c. is_of k c ≡ true)) parts
    → length (flat_map (λ p. p) parts) ≤ 2 ^ 62 → joined k (known_stats k (parts_of told parts)) ≡ known_whole k (parts_of told parts)
joined-told k told parts h most =
    let same = sym (part_cells-parts_of told parts) in
    joined-known k (parts_of told parts)
    (subst (λ (cs : List (List Cell)). AllByRecursion (AllByRecursion (λ c. is_of k c ≡ true)) cs) same h)
    (subst (λ (cs : List (List Cell)). length (flat_map (λ p. p) cs) ≤ 2 ^ 62) same most)

agreed : (k : StatKind) (ss : List Stat) (parts : List (List Cell)) → AllAgree k ss parts → ss ≡ known_stats k (parts_of (map (λ s. Some s) ss) parts)
agreed k [] [] h = refl
agreed k [] (p ∷ ps) h = absurd h
agreed k (s ∷ ss) [] h = absurd h
agreed k (s ∷ ss) (p ∷ ps) h = ap₂ (λ (x : Stat) (xs : List Stat). x ∷ xs) h.0 (agreed k ss ps h.1)

pub joined-agreed : (k : StatKind) (ss : List Stat) (parts : List (List Cell)) → AllByRecursion (AllByRecursion (λ c. is_of k c ≡ true)) parts
    → length (flat_map (λ p. p) parts) ≤ 2 ^ 62 → AllAgree k ss parts → joined k ss ≡ known_whole k (parts_of (map (λ s. Some s) ss) parts)
joined-agreed k ss parts h most all = ap (joined k) (agreed k ss parts all) ∙ joined-told k (map (λ s. Some s) ss) parts h most

all_same : (k : StatKind) (parts : List (List Cell)) → AllAgree k (map (stat k) parts) parts
all_same k [] = tt
all_same k (p ∷ ps) = (same_agrees (stat k p), all_same k ps)

twice : (k : StatKind) (parts : List (List Cell)) → map (λ p. Some (stat k p)) parts ≡ map (λ s. Some s) (map (stat k) parts)
twice k [] = refl
twice k (p ∷ ps) = ap (λ (ts : List (Option Stat)). Some (stat k p) ∷ ts) (twice k ps)

pub all-told : (k : StatKind) (parts : List (List Cell)) → AllByRecursion (AllByRecursion (λ c. is_of k c ≡ true)) parts
    → length (flat_map (λ p. p) parts) ≤ 2 ^ 62 → known_whole k (parts_of (map (λ p. Some (stat k p)) parts) parts) ≡ whole k parts
all-told k parts h most =
    ap (λ (ts : List (Option Stat)). known_whole k (parts_of ts parts)) (twice k parts)
    ∙ sym (joined-agreed k (map (stat k) parts) parts h most (all_same k parts))
    ∙ joined-parts k parts h most

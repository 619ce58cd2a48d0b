-- The statistics of parts, joined, are the statistic of the whole, but for a sum that a part has lost.
use Rattle.std.proofs.Common.{◌≡◌, refl, sym, ◌∙◌, ap, ℕ, suc, ◌+◌, ◌^◌, ◌≤◌, ℤ, pos, Bool, true, false, ◌||◌, if◌then◌else◌, List, [], ◌∷◌, length, length-append, map, flat_map, sum_by, Option, Some, None}
use Rattle.std.proofs.lemmas.List.Sums.{sum_by-cons}
use Rattle.std.proofs.lemmas.List.Folds.{list_any-append}
use Rattle.std.specs.List.{filter_map, list_all, AllByRecursion}
use Rattle.std.specs.Option.{option_map, option_and_then}
use Rattle.std.specs.Ordering.{int_cmp, nat_cmp, flip_args}
use Rattle.orc_values.proofs.Together.{values-append}
use Rattle.orc_values.specs.Cells.{bool, int, date, text, bytes, Cell, null, leaf, list, struct, pairs, values}
use Rattle.orc_stats.specs.declared.kind.StatKind.{StatKind}
use Rattle.orc_stats.specs.declared.kind.StatKind.TheVariants as kind
use Rattle.orc_stats.specs.declared.stat.Stat.{Stat}
use Rattle.orc_stats.specs.declared.stat.Body.{Body}
use Rattle.orc_stats.specs.declared.stat.Body.TheVariants as body
use Rattle.orc_stats.specs.Kinds.{is_of}
use Rattle.orc_stats.specs.Statistics.{lower, reduce, text_cmp, total, lengths, bit, int_of, date_of, bool_of, text_of, bytes_of, children_of, has_null, values_body, stat}
use Rattle.orc_stats.specs.Joining.{or_known, in_limit, nulls_joined, least_int, greatest_int, least_date, greatest_date, least_text, greatest_text, trues_of, least_children, greatest_children, valued_bodies, bodies_joined, joined}
use Rattle.orc_stats.specs.Whole.{without_sum, keeps_sum, whole}
use Rattle.orc_stats.specs.Orders.{nat_sums, lower_ints, higher_ints, lower_texts, higher_texts, lower_nats, higher_nats}
use Rattle.orc_stats.specs.Measures.{no_measure}
use Rattle.orc_stats.specs.laws.TallyLaws.{stat_is}
use Rattle.orc_stats.specs.laws.TallyKinds.{ints_is, dates_is, texts_is, children_is, picked_map, trues_kept}
use Rattle.orc_stats.proofs.Words.{word, word_in, sum_word}
use Rattle.orc_stats.proofs.ChildTotals.{few_children, total_word}

-- counts and nulls, of any kind
whole_count : (k : StatKind) (parts : List (List Cell)) → sum_by (λ s. s.count) (map (stat k) parts) ≡ length (values (flat_map (λ p. p) parts))
whole_count k [] = refl
whole_count k (p ∷ ps) =
    let rest = flat_map (λ q. q) ps in
    sum_by-cons (λ (s : Stat). s.count) (stat k p) (map (stat k) ps)
    ∙ ap (λ n. length (values p) + n) (whole_count k ps)
    ∙ sym (ap length (values-append p rest) ∙ length-append (values p) (values rest))

either_null : (a b : Bool) → or_known (Some a) (Some b) ≡ Some (a || b)
either_null true b = refl
either_null false b = refl

whole_nulls : (k : StatKind) (parts : List (List Cell)) → nulls_joined (map (λ s. s.nulls) (map (stat k) parts)) ≡ Some (has_null (flat_map (λ p. p) parts))
whole_nulls k [] = refl
whole_nulls k (p ∷ ps) =
    let rest = flat_map (λ q. q) ps in
    ap (or_known (Some (has_null p))) (whole_nulls k ps)
    ∙ either_null (has_null p) (has_null rest)
    ∙ ap Some (sym (list_any-append _ p rest))

whole_is : (k : StatKind) (parts : List (List Cell))
    → (let cells = flat_map (λ p. p) parts in
    bodies_joined k (valued_bodies (map (stat k) parts)) ≡ (if list_all (λ p. keeps_sum (stat k p)) parts then values_body k cells else without_sum (values_body k cells)))
    → joined k (map (stat k) parts) ≡ whole k parts
whole_is k parts e = stat_is no_measure (whole_count k parts) (whole_nulls k parts) e

-- as many values of a kind as cells that aren't null
pub few_ints : (p : List Cell) → AllByRecursion (λ c. is_of kind.Ints c ≡ true) p → length (values p) ≡ length (filter_map int_of p)
few_ints [] h = refl
few_ints (null ∷ p) h = few_ints p h.1
few_ints (leaf (int z) ∷ p) h = ap suc (few_ints p h.1)
few_ints (leaf _ ∷ p) h = cc
few_ints (list cs ∷ p) h = cc
few_ints (struct cs ∷ p) h = cc
few_ints (pairs ps ∷ p) h = cc

pub few_dates : (p : List Cell) → AllByRecursion (λ c. is_of kind.Dates c ≡ true) p → length (values p) ≡ length (filter_map date_of p)
few_dates [] h = refl
few_dates (null ∷ p) h = few_dates p h.1
few_dates (leaf (date z) ∷ p) h = ap suc (few_dates p h.1)
few_dates (leaf _ ∷ p) h = cc
few_dates (list cs ∷ p) h = cc
few_dates (struct cs ∷ p) h = cc
few_dates (pairs ps ∷ p) h = cc

pub few_bools : (p : List Cell) → AllByRecursion (λ c. is_of kind.Bools c ≡ true) p → length (values p) ≡ length (filter_map (λ c. option_map bit (bool_of c)) p)
few_bools [] h = refl
few_bools (null ∷ p) h = few_bools p h.1
few_bools (leaf (bool z) ∷ p) h = ap suc (few_bools p h.1)
few_bools (leaf _ ∷ p) h = cc
few_bools (list cs ∷ p) h = cc
few_bools (struct cs ∷ p) h = cc
few_bools (pairs ps ∷ p) h = cc

pub few_texts : (p : List Cell) → AllByRecursion (λ c. is_of kind.Texts c ≡ true) p → length (values p) ≡ length (filter_map text_of p)
few_texts [] h = refl
few_texts (null ∷ p) h = few_texts p h.1
few_texts (leaf (text z) ∷ p) h = ap suc (few_texts p h.1)
few_texts (leaf _ ∷ p) h = cc
few_texts (list cs ∷ p) h = cc
few_texts (struct cs ∷ p) h = cc
few_texts (pairs ps ∷ p) h = cc

pub few_bins : (p : List Cell) → AllByRecursion (λ c. is_of kind.Bins c ≡ true) p → length (values p) ≡ length (filter_map bytes_of p)
few_bins [] h = refl
few_bins (null ∷ p) h = few_bins p h.1
few_bins (leaf (bytes z) ∷ p) h = ap suc (few_bins p h.1)
few_bins (leaf _ ∷ p) h = cc
few_bins (list cs ∷ p) h = cc
few_bins (struct cs ∷ p) h = cc
few_bins (pairs ps ∷ p) h = cc

-- the lengths of what is picked
length_picked : (pick : Cell → Option (List ℕ)) (p : List Cell) → length (filter_map pick p) ≡ length (filter_map (λ c. option_map (λ t. pos (length t)) (pick c)) p)
length_picked pick p = sym (ap length (picked_map (λ t. pos (length t)) pick p) ∙ length_map (λ t. pos (length t)) (filter_map pick p))
  where
    length_map : {X Y : Type 0} (f : X → Y) (xs : List X) → length (map f xs) ≡ length xs
    length_map f [] = refl
    length_map f (x ∷ xs) = ap suc (length_map f xs)

lengths_picked : (pick : Cell → Option (List ℕ)) (p : List Cell) → total (lengths (filter_map pick p)) ≡ total (filter_map (λ c. option_map (λ t. pos (length t)) (pick c)) p)
lengths_picked pick p = ap total (sym (picked_map (λ t. pos (length t)) pick p))

-- ---- a kind each
ints_parts : (parts : List (List Cell)) → AllByRecursion (AllByRecursion (λ c. is_of kind.Ints c ≡ true)) parts → joined kind.Ints (map (stat kind.Ints) parts) ≡ whole kind.Ints parts
ints_parts parts h = whole_is kind.Ints parts
    (ints_is
    (word (lower int_cmp) lower_ints kind.Ints least_int int_of (λ p. refl) few_ints parts h)
    (word (lower (flip_args int_cmp)) higher_ints kind.Ints greatest_int int_of (λ p. refl) few_ints parts h)
    (sum_word kind.Ints int_of (λ p. refl) (λ p. refl) few_ints parts h)
    ∙ stands (list_all (λ p. keeps_sum (stat kind.Ints p)) parts) _ _ _)
  where
    stands : (b : Bool) (l g s : Option ℤ) → body.Ints l g (if b then s else None) ≡ (if b then body.Ints l g s else body.Ints l g None)
    stands true l g s = refl
    stands false l g s = refl

texts_parts : (parts : List (List Cell)) → AllByRecursion (AllByRecursion (λ c. is_of kind.Texts c ≡ true)) parts → joined kind.Texts (map (stat kind.Texts) parts) ≡ whole kind.Texts parts
texts_parts parts h = whole_is kind.Texts parts
    (texts_is
    (word (lower text_cmp) lower_texts kind.Texts least_text text_of (λ p. refl) few_texts parts h)
    (word (lower (flip_args text_cmp)) higher_texts kind.Texts greatest_text text_of (λ p. refl) few_texts parts h)
    (sum_word kind.Texts (λ c. option_map (λ t. pos (length t)) (text_of c)) (lengths_picked text_of) (λ p. refl) (λ p few. few_texts p few ∙ length_picked text_of p) parts h
    ∙ ap (λ s. if list_all (λ p. keeps_sum (stat kind.Texts p)) parts then s else None) (sym (lengths_picked text_of (flat_map (λ p. p) parts))))
    ∙ stands (list_all (λ p. keeps_sum (stat kind.Texts p)) parts) _ _ _)
  where
    stands : (b : Bool) (l g : Option (List ℕ)) (s : Option ℤ) → body.Texts l g (if b then s else None) ≡ (if b then body.Texts l g s else body.Texts l g None)
    stands true l g s = refl
    stands false l g s = refl

bins_parts : (parts : List (List Cell)) → AllByRecursion (AllByRecursion (λ c. is_of kind.Bins c ≡ true)) parts → joined kind.Bins (map (stat kind.Bins) parts) ≡ whole kind.Bins parts
bins_parts parts h = whole_is kind.Bins parts
    (ap body.Bins
    (sum_word kind.Bins (λ c. option_map (λ t. pos (length t)) (bytes_of c)) (lengths_picked bytes_of) (λ p. refl) (λ p few. few_bins p few ∙ length_picked bytes_of p) parts h
    ∙ ap (λ s. if list_all (λ p. keeps_sum (stat kind.Bins p)) parts then s else None) (sym (lengths_picked bytes_of (flat_map (λ p. p) parts))))
    ∙ stands (list_all (λ p. keeps_sum (stat kind.Bins p)) parts) _)
  where
    stands : (b : Bool) (s : Option ℤ) → body.Bins (if b then s else None) ≡ (if b then body.Bins s else body.Bins None)
    stands true s = refl
    stands false s = refl

-- of a kind without a sum nothing is lost
either_way : (b : Bool) (x : Body) → x ≡ (if b then x else x)
either_way true x = refl
either_way false x = refl

dates_parts : (parts : List (List Cell)) → AllByRecursion (AllByRecursion (λ c. is_of kind.Dates c ≡ true)) parts → joined kind.Dates (map (stat kind.Dates) parts) ≡ whole kind.Dates parts
dates_parts parts h = whole_is kind.Dates parts
    (dates_is
    (word (lower int_cmp) lower_ints kind.Dates least_date date_of (λ p. refl) few_dates parts h)
    (word (lower (flip_args int_cmp)) higher_ints kind.Dates greatest_date date_of (λ p. refl) few_dates parts h)
    ∙ either_way (list_all (λ p. keeps_sum (stat kind.Dates p)) parts) (values_body kind.Dates (flat_map (λ p. p) parts)))

bools_parts : (parts : List (List Cell)) → AllByRecursion (AllByRecursion (λ c. is_of kind.Bools c ≡ true)) parts → length (flat_map (λ p. p) parts) ≤ 2 ^ 62
    → joined kind.Bools (map (stat kind.Bools) parts) ≡ whole kind.Bools parts
bools_parts parts h most = whole_is kind.Bools parts
    (ap body.Bools
    (word_in ◌+◌ nat_sums kind.Bools trues_of (λ c. option_map bit (bool_of c)) (λ p. ap (reduce ◌+◌) (sym (picked_map bit bool_of p))) few_bools in_limit parts h
    ∙ ap (λ ns. option_and_then in_limit (reduce ◌+◌ ns)) (picked_map bit bool_of (flat_map (λ p. p) parts))
    ∙ trues_kept (flat_map (λ p. p) parts) most)
    ∙ either_way (list_all (λ p. keeps_sum (stat kind.Bools p)) parts) (values_body kind.Bools (flat_map (λ p. p) parts)))

plain_parts : (parts : List (List Cell)) → joined kind.Plain (map (stat kind.Plain) parts) ≡ whole kind.Plain parts
plain_parts parts = whole_is kind.Plain parts (either_way (list_all (λ p. keeps_sum (stat kind.Plain p)) parts) body.Plain)

-- where a part's total doesn't fit, that of all doesn't
children_parts : (parts : List (List Cell)) → AllByRecursion (AllByRecursion (λ c. is_of kind.Children c ≡ true)) parts → joined kind.Children (map (stat kind.Children) parts) ≡ whole kind.Children parts
children_parts parts h = whole_is kind.Children parts
    (children_is
    (word (lower nat_cmp) lower_nats kind.Children least_children children_of (λ p. refl) few_children parts h)
    (word (lower (flip_args nat_cmp)) higher_nats kind.Children greatest_children children_of (λ p. refl) few_children parts h)
    (total_word parts h)
    ∙ either_way (list_all (λ p. keeps_sum (stat kind.Children p)) parts) (values_body kind.Children (flat_map (λ p. p) parts)))

pub joined-parts : (k : StatKind) (parts : List (List Cell)) → AllByRecursion (AllByRecursion (λ c. is_of k c ≡ true)) parts → length (flat_map (λ p. p) parts) ≤ 2 ^ 62
    → joined k (map (stat k) parts) ≡ whole k parts
joined-parts kind.Plain parts h most = plain_parts parts
joined-parts kind.Ints parts h most = ints_parts parts h
joined-parts kind.Bools parts h most = bools_parts parts h most
joined-parts kind.Dates parts h most = dates_parts parts h
joined-parts kind.Texts parts h most = texts_parts parts h
joined-parts kind.Bins parts h most = bins_parts parts h
joined-parts kind.Children parts h most = children_parts parts h

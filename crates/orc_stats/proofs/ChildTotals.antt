-- The total of children of all cells, by those of the parts.
use Rattle.std.proofs.Common.{◌≡◌, refl, sym, ◌∙◌, ap, ap₂, subst, arith, ℕ, suc, ◌+◌, ◌^◌, ◌≤◌, nat_lt, ltb-false, Bool, true, false, if◌then◌else◌, List, [], ◌∷◌, ◌++◌, length, map, flat_map, Option, Some, None, ◌⊎◌, inl, inr}
use Rattle.std.proofs.lemmas.List.Elements.{filter_map-append}
use Rattle.std.specs.List.{filter_map, AllByRecursion}
use Rattle.std.specs.Option.{option_and_then}
use Rattle.orc_values.specs.Cells.{Cell, null, leaf, list, struct, pairs, values}
use Rattle.orc_stats.specs.declared.kind.StatKind.TheVariants as kind
use Rattle.orc_stats.specs.declared.seen.Seen.{Seen}
use Rattle.orc_stats.specs.declared.seen.Seen.TheVariants.{Nothing, Known, Unknown}
use Rattle.orc_stats.specs.Kinds.{is_of}
use Rattle.orc_stats.specs.Statistics.{onto, reduce, in_u64, children_of, children_total, values_body, stat}
use Rattle.orc_stats.specs.Joining.{of_known, total_children, has_values, valued_bodies}
use Rattle.orc_stats.specs.Seen.{both, seen_of, known_of, value_seen}
use Rattle.orc_stats.specs.Orders.{nat_sums, both_orderly}
use Rattle.orc_stats.specs.Tallies.{parts_together}
use Rattle.orc_stats.specs.Measures.{nat_totals}
use Rattle.orc_stats.specs.laws.TallyLaws.{unknown_stays, known_value, known_all_in}
use Rattle.orc_stats.proofs.Words.{positive, appended, valued}

pub few_children : (p : List Cell) → AllByRecursion (λ c. is_of kind.Children c ≡ true) p → length (values p) ≡ length (filter_map children_of p)
few_children [] h = refl
few_children (null ∷ p) h = few_children p h.1
few_children (leaf _ ∷ p) h = cc
few_children (list cs ∷ p) h = ap suc (few_children p h.1)
few_children (struct cs ∷ p) h = cc
few_children (pairs ps ∷ p) h = ap suc (few_children p h.1)

-- what is known of a total, and the exact one: the same, or one that doesn't fit
Totals : Seen ℕ → Option ℕ → Type 0
Totals s r = (s ≡ value_seen r) ⊎ ((s ≡ Unknown) × (n : ℕ) × (r ≡ Some n) × 2 ^ 64 ≤ n)

-- no less with more
large : (n : ℕ) (q r : Option ℕ) → 2 ^ 64 ≤ n → both ◌+◌ (Known n) (value_seen q) ≡ value_seen r → (m : ℕ) × (r ≡ Some m) × 2 ^ 64 ≤ m
large n None None h e = absurd cc
large n None (Some m) h e = let same : n ≡ m = cc in (m, refl, omega (arith, h, same))
large n (Some k) None h e = absurd cc
large n (Some k) (Some m) h e = let same : n + k ≡ m = cc in (m, refl, omega (arith, h, same))

one_total : (c : ℕ) (ns : List ℕ) → c ≡ length ns → Totals (if nat_lt 0 c then seen_of (children_total ns) else Nothing) (reduce ◌+◌ ns)
unfolding Totals
one_total c [] e = inl (rw e refl)
one_total c (n ∷ ns) e = rw (positive c (length ns) e) (fits (onto ◌+◌ n (reduce ◌+◌ ns)) (nat_lt (onto ◌+◌ n (reduce ◌+◌ ns)) (2 ^ 64)) refl)
  where
    fits : (n : ℕ) (b : Bool) → nat_lt n (2 ^ 64) ≡ b → (seen_of (if b then Some n else None) ≡ Known n) ⊎ ((seen_of (if b then Some n else None) ≡ Unknown) × (m : ℕ) × (◌≡◌ {A = Option ℕ} (Some n) (Some m)) × 2 ^ 64 ≤ m)
    fits n true h = inl refl
    fits n false h = inr (refl, n, refl, ltb-false n (2 ^ 64) h)

both_totals : (s t : Seen ℕ) (xs ys : List ℕ) → Totals s (reduce ◌+◌ xs) → Totals t (reduce ◌+◌ ys) → Totals (both ◌+◌ s t) (reduce ◌+◌ (xs ++ ys))
unfolding Totals
both_totals s t xs ys (inl e) (inl f) = inl (ap₂ (both ◌+◌) e f ∙ appended ◌+◌ nat_sums xs ys)
both_totals s t xs ys (inr (e, n, f, le)) u =
    let sum : both ◌+◌ (Known n) (value_seen (reduce ◌+◌ ys)) ≡ value_seen (reduce ◌+◌ (xs ++ ys))
    = ap (λ (r : Option ℕ). both ◌+◌ (value_seen r) (value_seen (reduce ◌+◌ ys))) (sym f) ∙ appended ◌+◌ nat_sums xs ys in
    let more = large n (reduce ◌+◌ ys) (reduce ◌+◌ (xs ++ ys)) le sum in
    inr (ap (λ (x : Seen ℕ). both ◌+◌ x t) e ∙ unknown_stays ◌+◌ nat_sums t, more.0, more.1, more.2)
both_totals s t xs ys (inl e) (inr (u, n, f, le)) =
    let sum : both ◌+◌ (Known n) (value_seen (reduce ◌+◌ xs)) ≡ value_seen (reduce ◌+◌ (xs ++ ys))
    = (both_orderly ◌+◌ nat_sums).comm (Known n) (value_seen (reduce ◌+◌ xs))
    ∙ ap (λ (r : Option ℕ). both ◌+◌ (value_seen (reduce ◌+◌ xs)) (value_seen r)) (sym f) ∙ appended ◌+◌ nat_sums xs ys in
    let more = large n (reduce ◌+◌ xs) (reduce ◌+◌ (xs ++ ys)) le sum in
    inr ((both_orderly ◌+◌ nat_sums).comm s t ∙ ap (λ (x : Seen ℕ). both ◌+◌ x s) u ∙ unknown_stays ◌+◌ nat_sums s, more.0, more.1, more.2)

none_total : Totals Nothing None
unfolding Totals
none_total = inl refl

all_totals : (parts : List (List Cell)) → AllByRecursion (AllByRecursion (λ c. is_of kind.Children c ≡ true)) parts
    → Totals (parts_together nat_totals (map (λ b. seen_of (total_children b)) (valued_bodies (map (stat kind.Children) parts)))) (reduce ◌+◌ (filter_map children_of (flat_map (λ p. p) parts)))
all_totals [] h = none_total
all_totals (p ∷ ps) h =
    let rest = flat_map (λ (q : List Cell). q) ps in
    subst (λ (s : Seen ℕ). Totals s (reduce ◌+◌ (filter_map children_of (p ++ rest)))) (sym (valued ◌+◌ nat_sums (λ b. seen_of (total_children b)) kind.Children p ps))
    (subst (λ (ns : List ℕ). Totals (both ◌+◌ (if has_values (stat kind.Children p) then seen_of (total_children (values_body kind.Children p)) else Nothing)
    (parts_together nat_totals (map (λ b. seen_of (total_children b)) (valued_bodies (map (stat kind.Children) ps))))) (reduce ◌+◌ ns)) (sym (filter_map-append children_of p rest))
    (both_totals _ _ (filter_map children_of p) (filter_map children_of rest) (one_total (length (values p)) (filter_map children_of p) (few_children p h.0)) (all_totals ps h.1)))

in_room : (s : Seen ℕ) (r : Option ℕ) → Totals s r → option_and_then in_u64 (known_of s) ≡ option_and_then in_u64 r
unfolding Totals
in_room s r (inl e) = ap (λ x. option_and_then in_u64 (known_of x)) e ∙ ap (option_and_then in_u64) (known_value ◌+◌ nat_sums r)
in_room s r (inr (e, n, f, le)) = rw (e, f) (too_large n le)
  where
    too_large : (n : ℕ) → 2 ^ 64 ≤ n → None ≡ in_u64 n
    too_large n h = grind (arith, h)

pub total_word : (parts : List (List Cell)) → AllByRecursion (AllByRecursion (λ c. is_of kind.Children c ≡ true)) parts
    → of_known children_total (map total_children (valued_bodies (map (stat kind.Children) parts))) ≡ children_total (filter_map children_of (flat_map (λ p. p) parts))
total_word parts h =
    sym (known_all_in ◌+◌ nat_sums in_u64 total_children (valued_bodies (map (stat kind.Children) parts)))
    ∙ in_room _ _ (all_totals parts h)

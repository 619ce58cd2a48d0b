-- One part of the statistics of lists of cells, put together, is that of all the cells.
use Rattle.std.proofs.Common.{◌≡◌, refl, sym, ◌∙◌, ap, ap₂, arith, ℕ, suc, nat_lt, lt-ltb, ℤ, ◌+ℤ◌, Bool, true, false, not, ◌||◌, ◌&&◌, if◌then◌else◌, List, [], ◌∷◌, ◌++◌, length, map, filter, flat_map, Option, Some, None}
use Rattle.std.proofs.lemmas.List.Elements.{filter_map-append}
use Rattle.std.specs.List.{filter_map, list_all, AllByRecursion}
use Rattle.std.specs.Option.{is_some, option_and_then}
use Rattle.orc_values.specs.Fits.{signed_fits}
use Rattle.orc_values.specs.Cells.{Cell, values}
use Rattle.orc_stats.specs.declared.kind.StatKind.{StatKind}
use Rattle.orc_stats.specs.declared.stat.Stat.{Stat}
use Rattle.orc_stats.specs.declared.stat.Body.{Body}
use Rattle.orc_stats.specs.declared.seen.Seen.{Seen}
use Rattle.orc_stats.specs.declared.seen.Seen.TheVariants.{Nothing, Known, Unknown}
use Rattle.orc_stats.specs.Kinds.{is_of}
use Rattle.orc_stats.specs.Statistics.{onto, reduce, exact_total, total, in_64, values_body, stat}
use Rattle.orc_stats.specs.Joining.{of_known, sum_of, has_values, valued_bodies}
use Rattle.orc_stats.specs.Whole.{has_sum, keeps_sum}
use Rattle.orc_stats.specs.Seen.{both, seen_of, known_of, value_seen}
use Rattle.orc_stats.specs.Orders.{IsOrderly, both_orderly, int_sums}
use Rattle.orc_stats.specs.Tallies.{parts_together}
use Rattle.orc_stats.specs.Measures.{seen_joins, int_totals}
use Rattle.orc_stats.specs.laws.TallyLaws.{value_onto, unknown_stays, known_value, known_all, known_all_in}

pub positive : (n k : ℕ) → n ≡ suc k → nat_lt 0 n ≡ true
positive n k e = lt-ltb 0 n (omega arith)

module _ {A : Type 0} (op : A → A → A) (o : IsOrderly op) where
  -- two lists, one after the other
  pub appended : (xs ys : List A) → both op (value_seen (reduce op xs)) (value_seen (reduce op ys)) ≡ value_seen (reduce op (xs ++ ys))
  appended [] ys = refl
  appended (x ∷ xs) ys =
      ap (λ s. both op s (value_seen (reduce op ys))) (sym (value_onto op o x (reduce op xs)))
      ∙ (both_orderly op o).assoc (Known x) (value_seen (reduce op xs)) (value_seen (reduce op ys))
      ∙ ap (both op (Known x)) (appended xs ys)
      ∙ value_onto op o x (reduce op (xs ++ ys))

  valued_more : (f : Body → Seen A) (b : Bool) (s : Stat) (ss : List Stat)
      → parts_together (seen_joins op o) (map f (map (λ t. t.body) (if b then s ∷ ss else ss))) ≡ both op (if b then f s.body else Nothing) (parts_together (seen_joins op o) (map f (map (λ t. t.body) ss)))
  valued_more f true s ss = refl
  valued_more f false s ss = refl

  -- a part adds what its body has, where it has values
  pub valued : (f : Body → Seen A) (k : StatKind) (p : List Cell) (ps : List (List Cell))
      → parts_together (seen_joins op o) (map f (valued_bodies (map (stat k) (p ∷ ps))))
      ≡ both op (if has_values (stat k p) then f (values_body k p) else Nothing) (parts_together (seen_joins op o) (map f (valued_bodies (map (stat k) ps))))
  valued f k p ps = valued_more f (has_values (stat k p)) (stat k p) (filter has_values (map (stat k) ps))

  value_same : (n : ℕ) (xs : List A) → n ≡ length xs → (if nat_lt 0 n then seen_of (reduce op xs) else Nothing) ≡ value_seen (reduce op xs)
  value_same n [] e = rw e refl
  value_same n (x ∷ xs) e = rw (positive n (length xs) e) refl

  -- where a body's part is its values' put together
  module _ (k : StatKind) (part : Body → Option A) (pick : Cell → Option A)
      (is : (p : List Cell) → part (values_body k p) ≡ reduce op (filter_map pick p))
      (few : (p : List Cell) → AllByRecursion (λ c. is_of k c ≡ true) p → length (values p) ≡ length (filter_map pick p)) where
    part_same : (p : List Cell) → AllByRecursion (λ c. is_of k c ≡ true) p
        → (if has_values (stat k p) then seen_of (part (values_body k p)) else Nothing) ≡ value_seen (reduce op (filter_map pick p))
    part_same p h = ap (λ r. if has_values (stat k p) then seen_of r else Nothing) (is p) ∙ value_same (length (values p)) (filter_map pick p) (few p h)

    parts_same : (parts : List (List Cell)) → AllByRecursion (AllByRecursion (λ c. is_of k c ≡ true)) parts
        → parts_together (seen_joins op o) (map (λ b. seen_of (part b)) (valued_bodies (map (stat k) parts))) ≡ value_seen (reduce op (filter_map pick (flat_map (λ p. p) parts)))
    parts_same [] h = refl
    parts_same (p ∷ ps) h =
        valued (λ b. seen_of (part b)) k p ps
        ∙ ap₂ (both op) (part_same p h.0) (parts_same ps h.1)
        ∙ appended (filter_map pick p) (filter_map pick (flat_map (λ q. q) ps))
        ∙ ap (λ xs. value_seen (reduce op xs)) (sym (filter_map-append pick p (flat_map (λ q. q) ps)))

    pub word : (parts : List (List Cell)) → AllByRecursion (AllByRecursion (λ c. is_of k c ≡ true)) parts
        → of_known (reduce op) (map part (valued_bodies (map (stat k) parts))) ≡ reduce op (filter_map pick (flat_map (λ p. p) parts))
    word parts h =
        sym (known_all op o part (valued_bodies (map (stat k) parts)))
        ∙ ap known_of (parts_same parts h)
        ∙ known_value op o (reduce op (filter_map pick (flat_map (λ p. p) parts)))

    -- the same where what is put together has a limit
    pub word_in : (f : A → Option A) (parts : List (List Cell)) → AllByRecursion (AllByRecursion (λ c. is_of k c ≡ true)) parts
        → of_known (λ xs. option_and_then f (reduce op xs)) (map part (valued_bodies (map (stat k) parts)))
        ≡ option_and_then f (reduce op (filter_map pick (flat_map (λ p. p) parts)))
    word_in f parts h =
        sym (known_all_in op o f part (valued_bodies (map (stat k) parts)))
        ∙ ap (λ s. option_and_then f (known_of s)) (parts_same parts h)
        ∙ ap (option_and_then f) (known_value op o (reduce op (filter_map pick (flat_map (λ p. p) parts))))

-- ---- a sum, which a part has lost where its total doesn't fit
lost_on : (x : Seen ℤ) → both ◌+ℤ◌ x Unknown ≡ Unknown
lost_on Nothing = refl
lost_on (Known z) = refl
lost_on Unknown = refl

sum_fits : (b : Bool) (z : ℤ) → seen_of (if b then Some z else None) ≡ (if is_some (if b then Some z else None) then Known z else Unknown)
sum_fits true z = refl
sum_fits false z = refl

sum_same : (n : ℕ) (zs : List ℤ) → n ≡ length zs
    → (if nat_lt 0 n then seen_of (total zs) else Nothing) ≡ (if not (nat_lt 0 n) || is_some (total zs) then value_seen (exact_total zs) else Unknown)
sum_same n [] e = rw e refl
sum_same n (z ∷ zs) e = rw (positive n (length zs) e) (sum_fits (signed_fits 63 (onto ◌+ℤ◌ z (exact_total zs))) (onto ◌+ℤ◌ z (exact_total zs)))

sums_appended : (c d : Bool) (xs ys : List ℤ)
    → both ◌+ℤ◌ (if c then value_seen (exact_total xs) else Unknown) (if d then value_seen (exact_total ys) else Unknown)
    ≡ (if c && d then value_seen (exact_total (xs ++ ys)) else Unknown)
sums_appended true true xs ys = appended ◌+ℤ◌ int_sums xs ys
sums_appended true false xs ys = lost_on (value_seen (exact_total xs))
sums_appended false d xs ys = unknown_stays ◌+ℤ◌ int_sums (if d then value_seen (exact_total ys) else Unknown)

fitting : (b : Bool) (r : Option ℤ) → option_and_then in_64 (known_of (if b then value_seen r else Unknown)) ≡ (if b then option_and_then in_64 r else None)
fitting true r = ap (option_and_then in_64) (known_value ◌+ℤ◌ int_sums r)
fitting false r = refl

module _ (k : StatKind) (pick : Cell → Option ℤ)
    (is : (p : List Cell) → sum_of (values_body k p) ≡ total (filter_map pick p))
    (has : (p : List Cell) → has_sum (values_body k p) ≡ is_some (sum_of (values_body k p)))
    (few : (p : List Cell) → AllByRecursion (λ c. is_of k c ≡ true) p → length (values p) ≡ length (filter_map pick p)) where
  sum_counted : (p : List Cell) → AllByRecursion (λ c. is_of k c ≡ true) p
      → (if has_values (stat k p) then seen_of (sum_of (values_body k p)) else Nothing)
      ≡ (if keeps_sum (stat k p) then value_seen (exact_total (filter_map pick p)) else Unknown)
  sum_counted p h =
      ap (λ r. if has_values (stat k p) then seen_of r else Nothing) (is p)
      ∙ sum_same (length (values p)) (filter_map pick p) (few p h)
      ∙ ap (λ b. if not (has_values (stat k p)) || b then value_seen (exact_total (filter_map pick p)) else Unknown) (sym (has p ∙ ap is_some (is p)))

  sums_counted : (parts : List (List Cell)) → AllByRecursion (AllByRecursion (λ c. is_of k c ≡ true)) parts
      → parts_together int_totals (map (λ b. seen_of (sum_of b)) (valued_bodies (map (stat k) parts)))
      ≡ (if list_all (λ p. keeps_sum (stat k p)) parts then value_seen (exact_total (filter_map pick (flat_map (λ p. p) parts))) else Unknown)
  sums_counted [] h = refl
  sums_counted (p ∷ ps) h =
      let c = keeps_sum (stat k p) in
      let d = list_all (λ q. keeps_sum (stat k q)) ps in
      let rest = flat_map (λ q. q) ps in
      valued ◌+ℤ◌ int_sums (λ b. seen_of (sum_of b)) k p ps
      ∙ ap₂ (both ◌+ℤ◌) (sum_counted p h.0) (sums_counted ps h.1)
      ∙ sums_appended c d (filter_map pick p) (filter_map pick rest)
      ∙ ap (λ zs. if c && d then value_seen (exact_total zs) else Unknown) (sym (filter_map-append pick p rest))

  pub sum_word : (parts : List (List Cell)) → AllByRecursion (AllByRecursion (λ c. is_of k c ≡ true)) parts
      → of_known total (map sum_of (valued_bodies (map (stat k) parts)))
      ≡ (if list_all (λ p. keeps_sum (stat k p)) parts then total (filter_map pick (flat_map (λ p. p) parts)) else None)
  sum_word parts h =
      sym (known_all_in ◌+ℤ◌ int_sums in_64 sum_of (valued_bodies (map (stat k) parts)))
      ∙ ap (λ s. option_and_then in_64 (known_of s)) (sums_counted parts h)
      ∙ fitting (list_all (λ p. keeps_sum (stat k p)) parts) (exact_total (filter_map pick (flat_map (λ p. p) parts)))

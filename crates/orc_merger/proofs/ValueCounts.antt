-- How many values columns have, stripe by stripe.
use Rattle.std.proofs.Common.{◌≡◌, ◌≢◌, ℕ, zero, suc, ◌+◌, ◌<◌, ◌≤◌, ◌⊎◌, inl, inr, List, [], ◌∷◌, ◌++◌, length, take, drop, set, replicate, min, refl, sym, ap, ◌∙◌, subst, arith, slice_index_or, get_or-set_same, get_or-set_other}
use Rattle.std.specs.Prelude.{sum_by}
use Rattle.std.specs.List.{All}
use Rattle.std.proofs.lemmas.List.{take_more, append-nil, length-take-le}
use Rattle.std.proofs.lemmas.List.Sums.{sum_by-cons, sum_by-append}
use Rattle.std.proofs.lemmas.List.Concat.{flat_map-append}
use Rattle.std.proofs.lemmas.List.Elements.{All-from_get_or}
use Rattle.orc_stats.specs.declared.stat.Stat.{Stat}
use Rattle.orc_tail.specs.Statistics.{column_stats}
use Rattle.orc_merger.specs.Counts.{AreCounts, column_count}

-- the values of a column in a stripe
abbrev pub count_at : ℕ → List Stat → ℕ
count_at c stats = sum_by (λ (s : Stat). s.count) (take 1 (drop c stats))

count_below : (ys zs : List Stat) (c : ℕ) → c < length ys → count_at c (ys ++ zs) ≡ count_at c ys
count_below [] zs c lt = absurd (omega (arith, lt))
count_below (y ∷ ys) zs zero lt = refl
count_below (y ∷ ys) zs (suc c) lt = count_below ys zs c (omega (arith, lt))

pub count_above : (ys : List Stat) (c : ℕ) → length ys ≤ c → count_at c ys ≡ 0
count_above [] zero le = refl
count_above [] (suc c) le = refl
count_above (y ∷ ys) zero le = absurd (omega (arith, le))
count_above (y ∷ ys) (suc c) le = count_above ys c (omega (arith, le))

count_here : (ys : List Stat) (x : Stat) → count_at (length ys) (ys ++ x ∷ []) ≡ x.count
count_here [] x = sum_by-cons (λ (s : Stat). s.count) x [] ∙ omega arith
count_here (y ∷ ys) x = count_here ys x

pub column_count-append : (c : ℕ) (xs ys : List (List Stat)) → column_count c (xs ++ ys) ≡ column_count c xs + column_count c ys
column_count-append c xs ys =
    let f : List Stat → List Stat = λ (s : List Stat). take 1 (drop c s) in
    ap (sum_by (λ (s : Stat). s.count)) (flat_map-append f xs ys) ∙ sum_by-append (λ (s : Stat). s.count) (column_stats c xs) (column_stats c ys)

pub column_count-push : (c : ℕ) (before : List (List Stat)) (stats : List Stat) → column_count c (before ++ stats ∷ []) ≡ column_count c before + count_at c stats
column_count-push c before stats =
    column_count-append c before (stats ∷ [])
    ∙ ap (λ (xs : List Stat). column_count c before + sum_by (λ (s : Stat). s.count) xs) (append-nil (take 1 (drop c stats)))

-- a stripe's column more
count_next : (stats : List Stat) (i c : ℕ) (d : Stat) → i < length stats → c ≢ i → count_at c (take (i + 1) stats) ≡ count_at c (take i stats)
count_next stats i c d lt ne =
    let l : length (take i stats) ≡ i = length-take-le i stats (omega (arith, lt)) in
    let whole : take (i + 1) stats ≡ take i stats ++ slice_index_or stats i d ∷ [] = take_more stats i d lt in
    elim (below_or_above c i ne) [
      | inl below ↦ ap (count_at c) whole ∙ count_below (take i stats) (slice_index_or stats i d ∷ []) c (omega (arith, below, l))
      | inr above ↦
          let m : length (take (i + 1) stats) ≡ i + 1 = length-take-le (i + 1) stats (omega (arith, lt)) in
          count_above (take (i + 1) stats) c (omega (arith, above, m)) ∙ sym (count_above (take i stats) c (omega (arith, above, l)))
    ]
  where
    below_or_above : (c i : ℕ) → c ≢ i → (c < i) ⊎ (i < c)
    below_or_above zero zero ne = absurd (ne refl)
    below_or_above zero (suc i) ne = inl (omega arith)
    below_or_above (suc c) zero ne = inr (omega arith)
    below_or_above (suc c) (suc i) ne = elim (below_or_above c i (λ e. ne (ap suc e))) [ inl b ↦ inl (omega (arith, b)) | inr a ↦ inr (omega (arith, a)) ]

count_same : (stats : List Stat) (i : ℕ) (d : Stat) → i < length stats → count_at i (take (i + 1) stats) ≡ (slice_index_or stats i d).count
count_same stats i d lt =
    let l : length (take i stats) ≡ i = length-take-le i stats (omega (arith, lt)) in
    ap (count_at i) (take_more stats i d lt) ∙ ap (λ n. count_at n (take i stats ++ slice_index_or stats i d ∷ [])) (sym l) ∙ count_here (take i stats) (slice_index_or stats i d)

equal_or_not : (c i : ℕ) → (c ≡ i) ⊎ (c ≢ i)
equal_or_not zero zero = inl refl
equal_or_not zero (suc i) = inr (λ e. omega (arith, e))
equal_or_not (suc c) zero = inr (λ e. omega (arith, e))
equal_or_not (suc c) (suc i) = elim (equal_or_not c i) [ inl e ↦ inl (ap suc e) | inr n ↦ inr (λ e. n (omega (arith, e))) ]

-- the number of one column is raised
pub counted_more : (counts : List ℕ) (stats : List Stat) (i : ℕ) (d : Stat) (b : ℕ → ℕ) → length stats ≤ length counts → i < length stats
    → ((c : ℕ) → slice_index_or counts c 0 ≡ min (b c + count_at c (take i stats)) 18446744073709551615)
    → (c : ℕ) → slice_index_or (set counts i (min (slice_index_or counts i 0 + (slice_index_or stats i d).count) 18446744073709551615)) c 0 ≡ min (b c + count_at c (take (i + 1) stats)) 18446744073709551615
counted_more counts stats i d b wide lt h c =
    let n : ℕ = min (slice_index_or counts i 0 + (slice_index_or stats i d).count) 18446744073709551615 in
    elim (equal_or_not c i) [
      | inl e ↦
          let none : count_at i (take i stats) ≡ 0 = count_above (take i stats) i (omega (arith, length-take-le i stats (omega (arith, lt)))) in
          let old : slice_index_or counts i 0 ≡ min (b i + count_at i (take i stats)) 18446744073709551615 = h i in
          let now : count_at i (take (i + 1) stats) ≡ (slice_index_or stats i d).count = count_same stats i d lt in
          let got : slice_index_or (set counts i n) i 0 ≡ n = get_or-set_same counts i n 0 (omega (arith, wide, lt)) in
          let all : n ≡ min (b i + count_at i (take (i + 1) stats)) 18446744073709551615 = omega (arith, none, old, now) in
          subst (λ k. slice_index_or (set counts i n) k 0 ≡ min (b k + count_at k (take (i + 1) stats)) 18446744073709551615) (sym e) (got ∙ all)
      | inr ne ↦ get_or-set_other counts i c n 0 ne ∙ h c ∙ ap (λ k. min (b c + k) 18446744073709551615) (sym (count_next stats i c d lt ne))
    ]

pub counts_more : (counts : List ℕ) (before : List (List Stat)) (stats : List Stat) → ((c : ℕ) → slice_index_or counts c 0 ≡ min (column_count c before + count_at c stats) 18446744073709551615)
    → AreCounts counts (before ++ stats ∷ [])
counts_more counts before stats h c = h c ∙ ap (λ k. min k 18446744073709551615) (sym (column_count-push c before stats))

pub widened : (xs : List ℕ) (k c : ℕ) → slice_index_or (xs ++ replicate k 0) c 0 ≡ slice_index_or xs c 0
widened [] zero c = refl
widened [] (suc k) zero = refl
widened [] (suc k) (suc c) = widened [] k c
widened (x ∷ xs) k zero = refl
widened (x ∷ xs) k (suc c) = widened xs k c

-- where the columns have few values, the numbers are small
pub few_counts : (counts : List ℕ) (stats : List (List Stat)) → AreCounts counts stats → ((c : ℕ) → column_count c stats ≤ 4611686018427387904)
    → All (λ n. n ≤ 4611686018427387904) counts
few_counts counts stats are few =
    All-from_get_or (λ n. n ≤ 4611686018427387904) counts 0 (λ c lt.
    let is : slice_index_or counts c 0 ≡ min (column_count c stats) 18446744073709551615 = are c in
    omega (arith, is, few c))

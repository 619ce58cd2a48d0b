-- How many cells columns have, with a row more.
use Rattle.std.proofs.Common.{◌≡◌, ℕ, zero, suc, ◌+◌, ◌-◌, ◌<◌, ◌^◌, true, ltb, List, [], ◌∷◌, ◌++◌, length, get_or, replicate, refl, sym, ap, ◌∙◌, arith, length-append}
use Rattle.std.proofs.lemmas.Bool.{ltb-true, and_parts}
use Rattle.orc_values.specs.Shapes.{Shape, width}
use Rattle.orc_values.specs.Cells.{Cell}
use Rattle.orc_values.specs.Columns.{cells}
use Rattle.orc_values.proofs.Together.{cells-append}
use Rattle.orc_stripe_writer.specs.WrittenStripe.{AreFew}
use Rattle.orc_file_writer.specs.Counts.{with_row, are_few}
use Rattle.orc_values.proofs.NoCells.{no_rows}

pub few_at : (ns : List ℕ) (i d : ℕ) → i < length ns → are_few ns ≡ true → get_or ns i d < 2 ^ 31
few_at [] i d h f = absurd (omega arith)
few_at (n ∷ ns) zero d h f = ltb-true n (2 ^ 31) (and_parts (ltb n (2 ^ 31)) (are_few ns) f).0
few_at (n ∷ ns) (suc i) d h f = few_at ns i d (omega arith) (and_parts (ltb n (2 ^ 31)) (are_few ns) f).1

pub length-with_row : (s : Shape) (c : ℕ) (row : Cell) (ns : List ℕ) → length (with_row s c row ns) ≡ length ns
length-with_row s c row [] = refl
length-with_row s c row (n ∷ ns) = ap suc (length-with_row s (c + 1) row ns)

pub with_row_at : (s : Shape) (c i : ℕ) (row : Cell) (ns : List ℕ) → i < length ns → get_or (with_row s c row ns) i 0 ≡ get_or ns i 0 + length (cells s (c + i) (row ∷ []))
with_row_at s c i row [] h = absurd (omega arith)
with_row_at s c zero row (n ∷ ns) h = let e : c ≡ c + 0 = omega arith in ap (λ k. n + length (cells s k (row ∷ []))) e
with_row_at s c (suc i) row (n ∷ ns) h = let e : (c + 1) + i ≡ c + suc i = omega arith in with_row_at s (c + 1) i row ns (omega arith) ∙ ap (λ k. get_or ns i 0 + length (cells s k (row ∷ []))) e

-- the counts are those of the rows
abbrev pub AreCounts : Shape → List ℕ → List Cell → Type 0
AreCounts s counts rows = (c : ℕ) → c < width s → get_or counts c 0 ≡ length (cells s c rows)

pub counts_more : (s : Shape) (counts : List ℕ) (rows : List Cell) (row : Cell) → length counts ≡ width s → AreCounts s counts rows → AreCounts s (with_row s 0 row counts) (rows ++ row ∷ [])
counts_more s counts rows row w h c l =
    let e : 0 + c ≡ c = omega arith in
    with_row_at s 0 c row counts (omega (arith, w)) ∙ ap (λ k. get_or counts c 0 + length (cells s k (row ∷ []))) e ∙ ap (λ n. n + length (cells s c (row ∷ []))) (h c l) ∙ sym (length-append (cells s c rows) (cells s c (row ∷ []))) ∙ ap length (sym (cells-append s c rows (row ∷ [])))

pub few_cells : (s : Shape) (counts : List ℕ) (rows : List Cell) → length counts ≡ width s → AreCounts s counts rows → are_few counts ≡ true → AreFew s rows
few_cells s counts rows w h f c l = let n = h c l in let m = few_at counts c 0 (omega (arith, w)) f in omega (arith, n, m)

zero_at : (n i : ℕ) → get_or (replicate n zero) i zero ≡ zero
zero_at zero i = refl
zero_at (suc n) zero = refl
zero_at (suc n) (suc i) = zero_at n i

pub counts_none : (s : Shape) → AreCounts s (replicate (width s) 0) []
counts_none s c l = zero_at (width s) c ∙ ap length (sym (no_rows s c))

pub few_none : (n : ℕ) → are_few (replicate n 0) ≡ true
few_none zero = refl
few_none (suc n) = few_none n

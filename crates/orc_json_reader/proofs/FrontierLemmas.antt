-- Rows that are read over old ones: those before a frontier, and null behind it.
use Rattle.std.proofs.Common.{◌≡◌, ℕ, zero, suc, ◌<◌, List, [], ◌∷◌, length, replicate, Option, None, refl, ap, arith}
use Rattle.std.proofs.Math.ListN.{set}
use Rattle.orc_values.specs.declared.value.Value.{Value}
use Rattle.orc_json_reader.specs.Frontier.{read_up_to}

pub read_up_to-length : (n : ℕ) (rows : List (Option Value)) → length (read_up_to n rows) ≡ length rows
read_up_to-length n [] = refl
read_up_to-length zero (q ∷ rows) = ap suc (read_up_to-length zero rows)
read_up_to-length (suc n) (q ∷ rows) = ap suc (read_up_to-length n rows)

-- no row is read
pub read_up_to-none : (rows : List (Option Value)) → read_up_to 0 rows ≡ replicate (length rows) None
read_up_to-none [] = refl
read_up_to-none (q ∷ rows) = ap (λ (xs : List (Option Value)). None ∷ xs) (read_up_to-none rows)

-- all rows are
pub read_up_to-all : (rows : List (Option Value)) → read_up_to (length rows) rows ≡ rows
read_up_to-all [] = refl
read_up_to-all (q ∷ rows) = ap (λ (xs : List (Option Value)). q ∷ xs) (read_up_to-all rows)

-- the row at the frontier moves it
pub read_up_to-next : (i : ℕ) (rows : List (Option Value)) (r : Option Value) → read_up_to (suc i) (set rows i r) ≡ set (read_up_to i rows) i r
read_up_to-next i [] r = refl
read_up_to-next zero (q ∷ rows) r = refl
read_up_to-next (suc i) (q ∷ rows) r = ap (λ (xs : List (Option Value)). q ∷ xs) (read_up_to-next i rows r)

-- a row before it doesn't
pub read_up_to-before : (n i : ℕ) (rows : List (Option Value)) (r : Option Value) → i < n → read_up_to n (set rows i r) ≡ set (read_up_to n rows) i r
read_up_to-before n i [] r lt = refl
read_up_to-before zero i (q ∷ rows) r lt = absurd (omega arith)
read_up_to-before (suc n) zero (q ∷ rows) r lt = refl
read_up_to-before (suc n) (suc i) (q ∷ rows) r lt = ap (λ (xs : List (Option Value)). q ∷ xs) (read_up_to-before n i rows r (omega arith))

-- the row at the frontier is null already
pub read_up_to-null : (i : ℕ) (rows : List (Option Value)) → set (read_up_to i rows) i None ≡ read_up_to i rows
read_up_to-null i [] = refl
read_up_to-null zero (q ∷ rows) = refl
read_up_to-null (suc i) (q ∷ rows) = ap (λ (xs : List (Option Value)). q ∷ xs) (read_up_to-null i rows)

-- Lists of bytes.
use Rattle.std.proofs.Common.{◌≡◌, ℕ, zero, suc, ◌<◌, List, [], ◌∷◌, get_or, true, lt-ltb, ltb-true, ltb, refl, arith}
use Rattle.std.proofs.lemmas.Bool.{and_parts}
use Rattle.orc_values.specs.Fits.{are_bytes}

pub all_bytes : (bs : List ℕ) → ((i : ℕ) → get_or bs i 0 < 256) → are_bytes bs ≡ true
all_bytes [] h = refl
all_bytes (b ∷ bs) h = rw (lt-ltb b 256 (h 0), all_bytes bs (λ i. h (suc i))) refl

pub bytes_below : (bs : List ℕ) → are_bytes bs ≡ true → (i : ℕ) → get_or bs i 0 < 256
bytes_below [] h i = omega arith
bytes_below (b ∷ bs) h zero = ltb-true b 256 (and_parts (ltb b 256) (are_bytes bs) h).0
bytes_below (b ∷ bs) h (suc i) = bytes_below bs (and_parts (ltb b 256) (are_bytes bs) h).1 i

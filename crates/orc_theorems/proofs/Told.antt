-- What devices tell, and answers of calls.
use Rattle.std.proofs.Common.{◌≡◌, ◌∙◌, ℕ, List, [], ◌∷◌, Option, Some, refl, sym, ap}
use Rattle.orc_io.specs.Devices.{appended}

-- what an output has got that had got nothing
pub bytes_are : (o p : Option (List ℕ)) (first bytes : List ℕ) → o ≡ Some [] → p ≡ Some first → p ≡ appended o bytes → bytes ≡ first
bytes_are o p first bytes empty is told =
    let same : Some first ≡ Some bytes = sym is ∙ told ∙ ap (λ x. appended x bytes) empty in
    cc

pub two_told : (a b : Option (List ℕ)) (x y first second : List ℕ) → a ≡ Some x → x ≡ first → b ≡ Some y → y ≡ second
    → a ∷ b ∷ [] ≡ Some first ∷ Some second ∷ []
two_told a b x y first second p q r s = rw (p, q, r, s) refl

pub pair_told : (a b : Option (List ℕ)) (x y : List ℕ) → a ≡ Some x → b ≡ Some y → a ∷ b ∷ [] ≡ Some x ∷ Some y ∷ []
pair_told a b x y p q = rw (p, q) refl

pub three_told : (a b c : Option (List ℕ)) (x y z : List ℕ) → a ≡ Some x → b ≡ Some y → c ≡ Some z
    → a ∷ b ∷ c ∷ [] ≡ Some x ∷ Some y ∷ Some z ∷ []
three_told a b c x y z p q r = rw (p, q, r) refl

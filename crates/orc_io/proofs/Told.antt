-- Bytes that are told: what is said of them, and that they stay.
use Rattle.std.proofs.Common.{◌≡◌, ℕ, List, Option, Some, subst, refl, None}
use Rattle.std.specs.Prelude.{IfSome}
use Rattle.std.specs.Io.KnownBytes.{Keeps}

-- what is said of the bytes that are told
pub at_told : (told : Option (List ℕ)) (bytes : List ℕ) (P : List ℕ → Type 0) → told ≡ Some bytes → IfSome told P → P bytes
at_told told bytes P e h = subst (λ (o : Option (List ℕ)). IfSome o P) e h

pub keeps_itself : (known : Option (List ℕ)) → Keeps known known
keeps_itself None = tt
keeps_itself (Some bytes) = refl

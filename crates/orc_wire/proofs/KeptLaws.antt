-- Whether bytes that are fields with kept numbers are so from a higher number on, too.
use Rattle.std.specs.Prelude.{ℕ, ◌^◌, List, [], ◌∷◌, ◌⊎◌}
use Rattle.std.specs.List.{AllByRecursion}
use Rattle.std.proofs.Common.{subst, inl, inr, arith}
use Rattle.std.proofs.lemmas.Bool.{cases_lt}
use Rattle.orc_wire.specs.Fields.{Item}
use Rattle.orc_wire.specs.laws.SpellsLaws.{one_fields}
use Rattle.orc_wire.specs.Canonical.{IsBetween}
use Rattle.orc_wire.specs.CanonicalKinds.{AreKept}

abbrev AreFrom : ℕ → List Item → Type 0
AreFrom n fields = AllByRecursion (IsBetween n (2 ^ 29)) fields

from_or_not : (m n : ℕ) (fields : List Item) → AreFrom m fields → AreFrom n fields ⊎ (AreFrom n fields → ⊥)
from_or_not m n [] are = inl tt
from_or_not m n (item ∷ fields) are = elim (cases_lt item.number n) [
  | inl low ↦ inr (λ k. let least = k.0.least in omega (arith, low, least))
  | inr high ↦ elim (from_or_not m n fields are.1) [
    | inl all ↦ inl (let most = are.0.most in record { least = high; most = most }, all)
    | inr none ↦ inr (λ k. none k.1)
  ]
]

pub kept_or_not : (m n : ℕ) (bytes : List ℕ) → AreKept m bytes → AreKept n bytes ⊎ (AreKept n bytes → ⊥)
kept_or_not m n bytes kept = elim (from_or_not m n kept.fields kept.from) [
  | inl all ↦ inl (record { fields = kept.fields; are = kept.are; from = all })
  | inr none ↦ inr (λ k. none (subst (AreFrom n) (one_fields 0 k.fields kept.fields bytes k.are kept.are) k.from))
]

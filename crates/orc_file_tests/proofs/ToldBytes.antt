-- What a source that tells its bytes answers.
use Rattle.std.proofs.Common.{◌≡◌, Result, Ok, Err, inl, inr, ap}
use Rattle.std.specs.Prelude.{◌⊎◌, MatchResult}
use Rattle.orc_tail.specs.declared.fault.FileFault.{FileFault}

-- one of two refusals, where the other never comes
pub only_one : {T : Type 0} (r : Result T FileFault) (P : T → Type 0) (one other : FileFault)
    → MatchResult r P (λ fault. (fault ≡ one) ⊎ (fault ≡ other)) → (r ≡ Err other → ⊥) → MatchResult r P (λ fault. fault ≡ one)
only_one (Ok x) P one other h never = h
only_one (Err fault) P one other h never = elim h [ inl e ↦ e | inr e ↦ absurd (never (ap Err e)) ]

-- Why a file isn't checked, and what is out then.
use Rattle.std.proofs.Common.{◌≡◌, List, ℕ, ◌+◌, [], ◌∷◌, Option, Some, None, ◌⊎◌, inl, inr, ap, subst}
use Rattle.std.specs.Option.{IfSome}
use Rattle.orc_values.specs.Cells.{Cell}
use Rattle.orc_values.specs.Shapes.{Shape}
use Rattle.orc_wire.specs.declared.stripe_info.StripeInfo.{StripeInfo}
use Rattle.orc_file_reader.specs.FileRows.{FileIs, FirstRefused}
use Rattle.orc_tail.specs.Tails.{ReadFault}
use Rattle.orc_tail.specs.declared.tail.Tail.{Tail}
use Rattle.orc_tail.specs.declared.fault.FileFault.{FileFault}
use Rattle.orc_tail.specs.declared.fault.FileFault.TheVariants.{WriteFailed, SourceFailed, OutOfMemory}
use Rattle.orc_cli_output.proofs.OpenFaults.{never_output}
use Rattle.orc_cli_output.specs.Output.{write_failed}
use Rattle.orc_cli_output.specs.declared.fault.CliFault.TheVariants.{File}
use Rattle.orc_cli_check.specs.Lines.{IsSourceOrMemory}
use Rattle.orc_check.specs.Checking.{CheckFault}
use Rattle.orc_cli_output.proofs.OutputLemmas.{same_file}

-- ---- what a refusal isn't

never_refused : (s : Shape) (bytes : List ℕ) (n : ℕ) (infos : List StripeInfo) → FirstRefused s bytes n infos WriteFailed → ⊥
never_refused s bytes n [] h = h
never_refused s bytes n (i ∷ is) (inl h) = let e = h.1 in cc
never_refused s bytes n (i ∷ is) (inr h) = never_refused s bytes (n + 1) is h.2

never_failed : (bytes : List ℕ) → CheckFault bytes WriteFailed → ⊥
never_failed bytes (inl h) = never_output bytes h
never_failed bytes (inr h) = never_refused h.0.schema bytes 0 h.0.stripes h.2

-- checking writes nothing
pub no_output : (told : Option (List ℕ)) (why : FileFault) (P : List ℕ → Type 0) → ReadFault told why (λ bytes. CheckFault bytes why) → File why ≡ write_failed → IfSome told P
no_output None why P h failed = tt
no_output (Some bytes) why P (inl memory) failed = cc
no_output (Some bytes) why P (inr (inl source)) failed = cc
no_output (Some bytes) why P (inr (inr bad)) failed = absurd (never_failed bytes (subst (CheckFault bytes) (same_file why WriteFailed failed) bad))

-- a file of rows is refused for what is outside of it
pub outside_found : (told : Option (List ℕ)) (why : FileFault) → IfSome told (λ bytes. (tail : Tail) (rows : List Cell) → FileIs bytes tail rows → (why ≡ OutOfMemory) ⊎ (why ≡ SourceFailed))
    → IfSome told (λ bytes. (tail : Tail) (rows : List Cell) → FileIs bytes tail rows → (File why ≡ write_failed) ⊎ IsSourceOrMemory (File why))
outside_found None why h = tt
outside_found (Some bytes) why h = λ tail rows is. elim (h tail rows is) [
  | inl memory ↦ inr (inr (ap File memory))
  | inr source ↦ inr (inl (ap File source))
]

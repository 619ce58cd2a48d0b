-- What a file's description is made of, and why a file isn't shown.
use Rattle.std.proofs.Common.{◌≡◌, List, ℕ, String, Global, string_bytes, rules, Option, Some, None, ◌⊎◌, inl, inr, ap, subst}
use Rattle.std.specs.Option.{IfSome}
use Rattle.serde_json.specs.Data.{string}
use Rattle.serde_json.specs.View.{view}
use Rattle.serde_json.specs.declared.value.Value.{String as JsonString, the_lemmas}
use Rattle.orc_tail.specs.Tails.{IsTail, TailOpenFault, ReadFault}
use Rattle.orc_tail.specs.declared.tail.Tail.{Tail}
use Rattle.orc_tail.specs.declared.fault.FileFault.{FileFault}
use Rattle.orc_tail.specs.declared.fault.FileFault.TheVariants.{WriteFailed, SourceFailed, OutOfMemory}
use Rattle.orc_cli_output.proofs.OpenFaults.{never_output}
use Rattle.orc_cli_output.specs.Output.{IsOutsideFile, IsWantOfMemory, write_failed}
use Rattle.orc_cli_output.specs.declared.fault.CliFault.{CliFault}
use Rattle.orc_cli_output.specs.declared.fault.CliFault.TheVariants.{File}
use Rattle.orc_cli_show.specs.Show.{IsWantOfShow}
use Rattle.orc_cli_output.proofs.OutputLemmas.{same_file}

pub view-String : (s : String Global) → view (JsonString s) ≡ string (string_bytes s)
view-String s = search (rules, the_lemmas)

-- what is said of the tail that was found
pub of_tail : (told : Option (List ℕ)) (tail : Tail) (P : Tail → Type 0) → IfSome told (λ bytes. IsTail bytes tail) → P tail → IfSome told (λ bytes. (t : Tail) × IsTail bytes t × P t)
of_tail None tail P is p = tt
of_tail (Some bytes) tail P is p = (tail, is, p)

-- a file is not opened for what is outside of it
pub outside_open : (told : Option (List ℕ)) (why : FileFault) → IfSome told (λ bytes. (tail : Tail) → IsTail bytes tail → (why ≡ OutOfMemory) ⊎ (why ≡ SourceFailed))
    → IfSome told (λ bytes. (tail : Tail) → IsTail bytes tail → IsOutsideFile (File why))
outside_open None why h = tt
outside_open (Some bytes) why h = λ tail is. elim (h tail is) [
  | inl memory ↦ inr (inr (inl (ap File memory)))
  | inr source ↦ inr (inl (ap File source))
]

-- opening writes nothing
pub no_output : (told : Option (List ℕ)) (why : FileFault) (P : List ℕ → Type 0) → ReadFault told why (λ bytes. TailOpenFault bytes why) → File why ≡ write_failed → IfSome told P
no_output None why P h failed = tt
no_output (Some bytes) why P (inl memory) failed = cc
no_output (Some bytes) why P (inr (inl source)) failed = cc
no_output (Some bytes) why P (inr (inr bad)) failed = absurd (never_output bytes (subst (TailOpenFault bytes) (same_file why WriteFailed failed) bad))

-- ---- whose want of memory it is

pub show_memory : (fault : CliFault) → IsWantOfShow fault → IsWantOfMemory fault
show_memory fault (inl e) = inr (inr (inr e))
show_memory fault (inr e) = inl e

pub output_want : (fault : CliFault) → fault ≡ write_failed → IsWantOfMemory fault → IsWantOfShow fault
output_want fault failed (inl e) = inr e
output_want fault failed (inr (inl e)) = absurd (cc)
output_want fault failed (inr (inr (inl e))) = absurd (cc)
output_want fault failed (inr (inr (inr e))) = inl e

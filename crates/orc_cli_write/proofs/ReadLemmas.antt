-- Rows pushed of lines that were read.
use Rattle.std.specs.Prelude.{◌≡◌, ℕ, ◌+◌, Bool, true, false, List, [], ◌++◌, Option, Some, None, Err, ◌⊎◌}
use Rattle.std.proofs.Common.{refl, ap, ◌∙◌, subst, inl, inr}
use Rattle.std.specs.Option.{IfSome}
use Rattle.orc_values.specs.Shapes.{Shape}
use Rattle.orc_values.specs.Cells.{Cell}
use Rattle.orc_cli_write.specs.Lines.{LineSpellsRows, AreRowsOfLines}
use Rattle.orc_tail.specs.declared.fault.FileFault.TheVariants as file
use Rattle.orc_cli_write.specs.Writes.{IsOfWriter, IsWantOfLines, EndsAtLine, EndsInLines}
use Rattle.orc_types.specs.Schemas.{HasText}
use Rattle.orc_cli_write.specs.Reads.{HasRead, line_failures, refusal_of, BeginWith, EndsReading}
use Rattle.orc_cli_write.specs.declared.line_fault.LineFault.{LineFault}
use Rattle.orc_cli_write.specs.declared.line_fault.LineFault.TheVariants.{Failed, OutOfMemory}
use Rattle.orc_cli_write.proofs.LinesLemmas.{Leads, leads_none, leads_both, leads_read, ends_read, all_read, begun_read}
use Rattle.orc_cli_write.proofs.WriteLaws.{only_outside}
use Rattle.orc_cli_output.specs.Output.{IsOutputOrMemory, IsWantOfMemory, IsOfSource}
use Rattle.orc_cli_output.specs.declared.fault.CliFault.{CliFault}
use Rattle.orc_cli_output.specs.declared.fault.CliFault.TheVariants.{File}

-- ---- where the input tells its bytes: what is left of them, and what the rows pushed lead to

-- the bytes before lead to those that are left, with these rows
abbrev pub HasLed : Shape → Option (List ℕ) → Option (List ℕ) → List Cell → Type 0
HasLed s told left own = IfSome told (λ bytes. (rest : List ℕ) × (left ≡ Some rest) × Leads s bytes rest own)

pub led_none : (s : Shape) (told : Option (List ℕ)) → HasLed s told told []
led_none s None = tt
led_none s (Some bytes) = (bytes, refl, leads_none s bytes)

-- what was read of the rest, where it was told first
abbrev pub ReadOf : Bool → Option (List ℕ) → List ℕ → Option (List ℕ) → Type 0
ReadOf found left line new = IfSome left (λ bytes. HasRead found bytes line new)

read_of : (found : Bool) (left new : Option (List ℕ)) (line rest : List ℕ) → left ≡ Some rest → ReadOf found left line new → HasRead found rest line new
read_of found left new line rest e h = subst (λ (o : Option (List ℕ)). ReadOf found o line new) e h

pub led_line : (s : Shape) (told left new : Option (List ℕ)) (line : List ℕ) (own more : List Cell) → HasLed s told left own → ReadOf true left line new → LineSpellsRows s line more → HasLed s told new (own ++ more)
led_line s None left new line own more p r spells = tt
led_line s (Some bytes) left new line own more p r spells =
    let h = read_of true left new line p.0 p.1 r in
    (h.0, h.1, leads_both s bytes p.0 h.0 own more p.2 (leads_read s p.0 line h.0 more h.2 h.3 spells))

pub led_all : (s : Shape) (told left new : Option (List ℕ)) (line : List ℕ) (own : List Cell) → HasLed s told left own → ReadOf false left line new → IfSome told (λ bytes. AreRowsOfLines s bytes own)
led_all s None left new line own p r = tt
led_all s (Some bytes) left new line own p r =
    let none : p.0 ≡ [] = read_of false left new line p.0 p.1 r in
    all_read s bytes own (subst (λ (t : List ℕ). Leads s bytes t own) none p.2)

pub led_ends : (A : List ℕ → Type 0) (s : Shape) (told left new : Option (List ℕ)) (line : List ℕ) (own more : List Cell) (fault : CliFault) → HasLed s told left own → ReadOf true left line new
    → (line ≡ [] → ⊥) → EndsAtLine s line fault more → IfSome told (λ bytes. EndsInLines s bytes fault (own ++ more) ⊎ A bytes)
led_ends A s None left new line own more fault p r some ends = tt
led_ends A s (Some bytes) left new line own more fault p r some ends =
    let h = read_of true left new line p.0 p.1 r in
    inl (ends_read s bytes p.0 line h.0 own more fault p.2 h.2 some h.3 ends)

pub led_begun : (A : List ℕ → Type 0) (s : Shape) (told left : Option (List ℕ)) (own : List Cell) (B : Type 0) → HasLed s told left own → B → IfSome told (λ bytes. A bytes ⊎ (B × BeginWith s bytes own))
led_begun A s None left own B p b = tt
led_begun A s (Some bytes) left own B p b = inr (b, begun_read s bytes p.0 own p.2)

-- ---- which refusals there are not

pub source_no_limit : {A : Type 0} (fault : CliFault) → IsOfSource fault → fault ≡ File file.Limit → A
source_no_limit fault (inl e) q = absurd (cc)
source_no_limit fault (inr (inl e)) q = absurd (cc)
source_no_limit fault (inr (inr (inl e))) q = absurd (cc)
source_no_limit fault (inr (inr (inr (inl e)))) q = absurd (cc)
source_no_limit fault (inr (inr (inr (inr e)))) q = absurd (cc)

want_no_source : {A : Type 0} (fault : CliFault) → IsWantOfMemory fault → fault ≡ File file.SourceFailed → A
want_no_source fault (inl e) q = absurd (cc)
want_no_source fault (inr (inl e)) q = absurd (cc)
want_no_source fault (inr (inr (inl e))) q = absurd (cc)
want_no_source fault (inr (inr (inr e))) q = absurd (cc)

pub writer_no_source : {A : Type 0} (fault : CliFault) → IsOfWriter fault → fault ≡ File file.SourceFailed → A
writer_no_source fault (inl e) q = absurd (cc)
writer_no_source fault (inr (inl e)) q = absurd (cc)
writer_no_source fault (inr (inr e)) q = want_no_source fault e q

-- ---- a line that isn't there

pub line_of_source : (why : LineFault) → IsOfSource (refusal_of why)
line_of_source Failed = inl refl
line_of_source OutOfMemory = inr (inl refl)

pub next_want : (why : LineFault) → IsWantOfMemory (refusal_of why) → IsWantOfLines (refusal_of why)
next_want Failed want = want_no_source (File file.SourceFailed) want refl
next_want OutOfMemory want = inr refl

-- and how it counts, behind lines that were there
pub next_failed : (why : LineFault) (first before after : ℕ) → before ≡ first → after ≡ line_failures {T = Bool} (Err why) before → refusal_of why ≡ File file.SourceFailed → after ≡ first + 1
next_failed Failed first before after e h q = h ∙ ap (λ (n : ℕ). n + 1) e
next_failed OutOfMemory first before after e h q = absurd (cc)

pub next_kept : (why : LineFault) (first before after : ℕ) → before ≡ first → after ≡ line_failures {T = Bool} (Err why) before → (refusal_of why ≡ File file.SourceFailed) ⊎ (after ≡ first)
next_kept Failed first before after e h = inl refl
next_kept OutOfMemory first before after e h = inr (h ∙ e)

-- ---- why no file is written, where the input tells its bytes

of_source : (fault : CliFault) → IsOfSource fault → IsOfWriter fault ⊎ (fault ≡ File file.SourceFailed)
of_source fault (inl e) = inr e
of_source fault (inr want) = inl (inr (inr want))

pub only_read : (told : Option (List ℕ)) (text : List ℕ) (t : Shape) (fault : CliFault) (own : List Cell) → HasText t text
    → IfSome told (λ bytes. EndsInLines t bytes fault own ⊎ (IsOfSource fault × BeginWith t bytes own))
    → IfSome told (λ bytes. (s : Shape) (rows : List Cell) → HasText s text → AreRowsOfLines s bytes rows → IsOfWriter fault ⊎ (fault ≡ File file.SourceFailed))
only_read None text t fault own k e = tt
only_read (Some bytes) text t fault own k (inl e) = λ s rows h r. inl (only_outside text bytes s t fault own rows h k r e)
only_read (Some bytes) text t fault own k (inr e) = λ s rows h r. of_source fault e.0

pub ends_reading : (told : Option (List ℕ)) (s : Shape) (fault : CliFault) (own : List Cell) → IfSome told (λ bytes. EndsInLines s bytes fault own ⊎ (IsOfSource fault × BeginWith s bytes own))
    → IfSome told (λ bytes. EndsReading s bytes fault own)
ends_reading None s fault own e = tt
ends_reading (Some bytes) s fault own (inl e) = inl (inl e)
ends_reading (Some bytes) s fault own (inr e) = inr e

pub ends_behind_all : (told : Option (List ℕ)) (s : Shape) (fault : CliFault) (own : List Cell) → IfSome told (λ bytes. AreRowsOfLines s bytes own) → IsOfWriter fault
    → IfSome told (λ bytes. EndsReading s bytes fault own)
ends_behind_all None s fault own h w = tt
ends_behind_all (Some bytes) s fault own h w = inl (inr (inr (h, w)))

pub ends_before_all : (told : Option (List ℕ)) (s : Shape) (fault : CliFault) → IsOutputOrMemory fault → IfSome told (λ bytes. EndsReading s bytes fault [])
ends_before_all None s fault out = tt
ends_before_all (Some bytes) s fault out = inl (inr (inl (refl, out)))

-- What is printed of a file of which nothing is found, from a group on.
use Rattle.std.proofs.Common.{◌≡◌, ◌⊎◌, ℕ, List, [], ◌∷◌, length, Option, Some, None, drop, inl, inr, refl, ap, subst, arith}
use Rattle.std.specs.Prelude.{IfSome}
use Rattle.std.specs.Borrow.{Bor}
use Rattle.std.specs.Io.KnownBytes.{Appends}
use Rattle.orc_values.specs.Cells.{Cell}
use Rattle.orc_file_reader.specs.FileRows.{FileIs}
use Rattle.orc_tail.specs.Tails.{IsTail, tail_tests}
use Rattle.orc_tail.specs.declared.tail.Tail.{Tail}
use Rattle.orc_tail.specs.declared.fault.FileFault.{FileFault}
use Rattle.orc_tail.specs.declared.fault.FileFault.TheVariants.{SourceFailed, OutOfMemory}
use Rattle.orc_file_reader.proofs.RowLemmas.{one_file}
use Rattle.orc_check.specs.Findings.{Findings}
use Rattle.orc_check.specs.declared.finding.Finding.{Finding}
use Rattle.orc_cli_output.specs.Output.{IsOutsideFile}
use Rattle.orc_cli_output.specs.declared.fault.CliFault.{CliFault}
use Rattle.orc_cli_output.specs.declared.fault.CliFault.TheVariants.{File}
use Rattle.orc_cli_rows.specs.Rows.{row_lines, HaveJson}
use Rattle.orc_cli_rows.specs.FromGroup.{IsStartText, AreLinesFromGroup, EndsFrom}
use Rattle.orc_cli_rows.specs.Printed.{IsAsked, ArePrinted, RefusesPlace}
use Rattle.orc_theorems.specs.Places.{IsPlace, rows_before}
use Rattle.orc_theorems.specs.Inputs.{AreFound}
use Rattle.orc_theorems.specs.BeforeGroups.{FileDiffersOnlyBefore}
use Rattle.orc_theorems.proofs.FoundLemmas.{OneFile}
use Rattle.orc_io.proofs.Told.{at_told}

-- what the theorem says of lines
abbrev pub LinesLaw : Type 0
LinesLaw = (bytes : List ℕ) (tail : Tail) (rows : List Cell) (stripe group : ℕ) (lines : List ℕ) → FileIs bytes tail rows → Findings bytes tail rows []
    → AreLinesFromGroup bytes tail stripe group lines → lines ≡ row_lines tail.schema (drop (rows_before tail stripe group) rows)

pub printed_from : LinesLaw → (bytes : List ℕ) (from : Bor (List ℕ)) (old new : Option (List ℕ)) (found : List Finding) → found ≡ [] → AreFound bytes found
    → (start : _) → IsAsked (Some from) start → ArePrinted bytes start old new
    → (tail : Tail) × (rows : List Cell) × (stripe : ℕ) × (group : ℕ) × FileIs bytes tail rows × IsStartText from.now stripe group
    × Appends old new (row_lines tail.schema (drop (rows_before tail stripe group) rows))
printed_from law bytes from old new found none is None asked p = absurd asked
printed_from law bytes from old new found none is (Some start) asked p =
    let f : AreFound bytes [] = subst (λ (fs : List Finding). AreFound bytes fs) none is in
    let one : p.0 ≡ f.0 = (tail_tests bytes).one p.0 f.0 p.2 f.2.tail_is in
    let there : AreLinesFromGroup bytes f.0 start.stripe start.group p.1 = subst (λ (t : Tail). AreLinesFromGroup bytes t start.stripe start.group p.1) one p.3 in
    let lines = law bytes f.0 f.1 start.stripe start.group p.1 f.2 f.3 there in
    (f.0, f.1, start.stripe, start.group, f.2, asked, subst (λ (l : List ℕ). Appends old new l) lines p.4)

-- the same of a source that tells the bytes
pub printed_told : LinesLaw → (told : Option (List ℕ)) (bytes : List ℕ) (from : Bor (List ℕ)) (old new : Option (List ℕ)) (found : List Finding) → told ≡ Some bytes
    → found ≡ [] → AreFound bytes found → IfSome told (λ b. (start : _) × IsAsked (Some from) start × ArePrinted b start old new)
    → (tail : Tail) × (rows : List Cell) × (stripe : ℕ) × (group : ℕ) × FileIs bytes tail rows × IsStartText from.now stripe group
    × Appends old new (row_lines tail.schema (drop (rows_before tail stripe group) rows))
printed_told law told bytes from old new found e none is h =
    let w = at_told told bytes (λ (b : List ℕ). (start : _) × IsAsked (Some from) start × ArePrinted b start old new) e h in
    printed_from law bytes from old new found none is w.0 w.1 w.2

pub none_there : (found : List Finding) → length found ≡ 0 → found ≡ []
none_there [] e = refl
none_there (f ∷ found) e = absurd (omega (arith, e))

-- ---- refused for nothing of the file's

-- what the theorem says of refusals
abbrev pub OnlyLaw : Type 0
OnlyLaw = (bytes : List ℕ) (tail : Tail) (rows : List Cell) (stripe group : ℕ) (old new : Option (List ℕ)) (fault : CliFault) → FileIs bytes tail rows → Findings bytes tail rows []
    → IsPlace tail stripe group → HaveJson tail.schema rows → EndsFrom bytes tail stripe group old new fault → IsOutsideFile fault

-- a check of a file is refused for nothing that is the file's
pub check_outside : (why : FileFault) → (why ≡ OutOfMemory) ⊎ (why ≡ SourceFailed) → IsOutsideFile (File why)
check_outside why (inl e) = inr (inr (inl (ap (λ (w : FileFault). File w) e)))
check_outside why (inr e) = inr (inl (ap (λ (w : FileFault). File w) e))

-- the place that a text names is one of the file's
abbrev pub ArePlaces : Bor (List ℕ) → Tail → Type 0
ArePlaces from tail = (stripe group : ℕ) → IsStartText from.now stripe group → IsPlace tail stripe group

refused_from : OnlyLaw → (bytes : List ℕ) (from : Bor (List ℕ)) (old new : Option (List ℕ)) (fault : CliFault) (tail : Tail) (rows : List Cell) (stripe group : ℕ) → AreFound bytes []
    → FileIs bytes tail rows → HaveJson tail.schema rows → IsStartText from.now stripe group → ArePlaces from tail → RefusesPlace bytes (Some from) old new fault → IsOutsideFile fault
refused_from law bytes from old new fault tail rows stripe group none is have asked places (inl (unasked, kept)) = absurd (unasked.1 (Some (record { stripe = stripe; group = group })) asked)
refused_from law bytes from old new fault tail rows stripe group none is have asked places (inr (None, named, refused)) = absurd named
refused_from law bytes from old new fault tail rows stripe group none is have asked places (inr (Some start, named, inl (inl bad, kept))) =
    absurd ((tail_tests bytes).none tail bad.0 bad.2 is.tail_is)
refused_from law bytes from old new fault tail rows stripe group none is have asked places (inr (Some start, named, inl (inr source, kept))) = inr source
refused_from law bytes from old new fault tail rows stripe group none is have asked places (inr (Some start, named, inr (t, opened, ends))) =
    let one : t ≡ tail = (tail_tests bytes).one t tail opened is.tail_is in
    let same = one_file bytes none.0 tail none.1 rows none.2 is in
    let found : Findings bytes tail rows [] = subst (λ (r : List Cell). Findings bytes tail r []) same.1 (subst (λ (u : Tail). Findings bytes u none.1 []) same.0 none.3) in
    law bytes tail rows start.stripe start.group old new fault is found (places start.stripe start.group named) have
    (subst (λ (u : Tail). EndsFrom bytes u start.stripe start.group old new fault) one ends)

pub refused_told : OnlyLaw → (told : Option (List ℕ)) (bytes : List ℕ) (from : Bor (List ℕ)) (old new : Option (List ℕ)) (fault : CliFault) (found : List Finding) → told ≡ Some bytes
    → found ≡ [] → AreFound bytes found → IfSome told (λ b. RefusesPlace b (Some from) old new fault)
    → (tail : Tail) (rows : List Cell) (stripe group : ℕ) → FileIs bytes tail rows → HaveJson tail.schema rows → IsStartText from.now stripe group → ArePlaces from tail → IsOutsideFile fault
refused_told law told bytes from old new fault found e none are h tail rows stripe group is have asked places =
    refused_from law bytes from old new fault tail rows stripe group (subst (λ (fs : List Finding). AreFound bytes fs) none are) is have asked places
    (at_told told bytes (λ (b : List ℕ). RefusesPlace b (Some from) old new fault) e h)

-- ---- another file

-- what the theorem says of lines of a file that differs only before a group
abbrev pub AloneLaw : Type 0
AloneLaw = (bytes other : List ℕ) (tail : Tail) (rows : List Cell) (stripe group : ℕ) (lines : List ℕ) → FileIs bytes tail rows → Findings bytes tail rows []
    → FileDiffersOnlyBefore bytes tail stripe group other → AreLinesFromGroup other tail stripe group lines → lines ≡ row_lines tail.schema (drop (rows_before tail stripe group) rows)

other_from : AloneLaw → (bytes other : List ℕ) (from : Bor (List ℕ)) (old new : Option (List ℕ)) → AreFound bytes [] → (start : _) → IsAsked (Some from) start → ArePrinted other start old new
    → (tail : Tail) × (lines : List ℕ) × (stripe : ℕ) × (group : ℕ) × IsTail other tail × IsStartText from.now stripe group × AreLinesFromGroup other tail stripe group lines × Appends old new lines
    × ((rows : List Cell) → FileIs bytes tail rows → FileDiffersOnlyBefore bytes tail stripe group other → lines ≡ row_lines tail.schema (drop (rows_before tail stripe group) rows))
other_from law bytes other from old new none None asked p = absurd asked
other_from law bytes other from old new none (Some start) asked p = (
  p.0,
  p.1,
  start.stripe,
  start.group,
  p.2,
  asked,
  p.3,
  p.4,
  λ rows is differs.
      let same = one_file bytes none.0 p.0 none.1 rows none.2 is in
      let found : Findings bytes p.0 rows [] = subst (λ (r : List Cell). Findings bytes p.0 r []) same.1 (subst (λ (u : Tail). Findings bytes u none.1 []) same.0 none.3) in
      law bytes other p.0 rows start.stripe start.group p.1 is found differs p.3,
)

pub other_told : AloneLaw → (told : Option (List ℕ)) (bytes other : List ℕ) (from : Bor (List ℕ)) (old new : Option (List ℕ)) (found : List Finding) → told ≡ Some other
    → found ≡ [] → AreFound bytes found → IfSome told (λ b. (start : _) × IsAsked (Some from) start × ArePrinted b start old new)
    → (tail : Tail) × (lines : List ℕ) × (stripe : ℕ) × (group : ℕ) × IsTail other tail × IsStartText from.now stripe group × AreLinesFromGroup other tail stripe group lines × Appends old new lines
    × ((rows : List Cell) → FileIs bytes tail rows → FileDiffersOnlyBefore bytes tail stripe group other → lines ≡ row_lines tail.schema (drop (rows_before tail stripe group) rows))
other_told law told bytes other from old new found e none is h =
    let w = at_told told other (λ (b : List ℕ). (start : _) × IsAsked (Some from) start × ArePrinted b start old new) e h in
    other_from law bytes other from old new (subst (λ (fs : List Finding). AreFound bytes fs) none is) w.0 w.1 w.2

-- what the theorem says of why it is refused
abbrev pub AloneOnlyLaw : Type 0
AloneOnlyLaw = (bytes other : List ℕ) (tail : Tail) (rows : List Cell) (stripe group : ℕ) (old new : Option (List ℕ)) (fault : CliFault) → FileIs bytes tail rows → Findings bytes tail rows []
    → FileDiffersOnlyBefore bytes tail stripe group other → IsPlace tail stripe group → HaveJson tail.schema rows → EndsFrom other tail stripe group old new fault → IsOutsideFile fault

-- the place that a text names is one of the file's, and the other file differs from it only before this place
abbrev pub ArePlacesBefore : List ℕ → List ℕ → Bor (List ℕ) → Tail → Type 0
ArePlacesBefore bytes other from tail = (n g : ℕ) → IsStartText from.now n g → IsPlace tail n g × FileDiffersOnlyBefore bytes tail n g other

other_refuses : AloneOnlyLaw → OneFile → (bytes other : List ℕ) (from : Bor (List ℕ)) (old new : Option (List ℕ)) (fault : CliFault) (tail : Tail) (rows : List Cell) (stripe group : ℕ) → AreFound bytes []
    → FileIs bytes tail rows → HaveJson tail.schema rows → IsTail other tail → IsStartText from.now stripe group → ArePlacesBefore bytes other from tail
    → RefusesPlace other (Some from) old new fault → IsOutsideFile fault
other_refuses law one bytes other from old new fault tail rows stripe group none is have opens asked places (inl (unasked, kept)) =
    absurd (unasked.1 (Some (record { stripe = stripe; group = group })) asked)
other_refuses law one bytes other from old new fault tail rows stripe group none is have opens asked places (inr (None, named, refused)) = absurd named
other_refuses law one bytes other from old new fault tail rows stripe group none is have opens asked places (inr (Some start, named, inl (inl bad, kept))) =
    absurd ((tail_tests other).none tail bad.0 bad.2 opens)
other_refuses law one bytes other from old new fault tail rows stripe group none is have opens asked places (inr (Some start, named, inl (inr source, kept))) = inr source
other_refuses law one bytes other from old new fault tail rows stripe group none is have opens asked places (inr (Some start, named, inr (t, opened, ends))) =
    let its : t ≡ tail = (tail_tests other).one t tail opened opens in
    let same = one bytes none.0 tail none.1 rows none.2 is in
    let found : Findings bytes tail rows [] = subst (λ (r : List Cell). Findings bytes tail r []) same.1 (subst (λ (u : Tail). Findings bytes u none.1 []) same.0 none.3) in
    let place = places start.stripe start.group named in
    law bytes other tail rows start.stripe start.group old new fault is found place.1 place.0 have
    (subst (λ (u : Tail). EndsFrom other u start.stripe start.group old new fault) its ends)

pub other_refused : AloneOnlyLaw → OneFile → (told : Option (List ℕ)) (bytes other : List ℕ) (from : Bor (List ℕ)) (old new : Option (List ℕ)) (fault : CliFault) (found : List Finding) → told ≡ Some other
    → found ≡ [] → AreFound bytes found → IfSome told (λ b. RefusesPlace b (Some from) old new fault)
    → (tail : Tail) (rows : List Cell) (stripe group : ℕ) → FileIs bytes tail rows → HaveJson tail.schema rows → IsTail other tail → IsStartText from.now stripe group
    → ArePlacesBefore bytes other from tail → IsOutsideFile fault
other_refused law one told bytes other from old new fault found e none are h tail rows stripe group is have opens asked places =
    other_refuses law one bytes other from old new fault tail rows stripe group (subst (λ (fs : List Finding). AreFound bytes fs) none are) is have opens asked places
    (at_told told other (λ (b : List ℕ). RefusesPlace b (Some from) old new fault) e h)

-- What is found of a file that two files are joined into.
use Rattle.std.proofs.Common.{◌≡◌, ℕ, ◌<◌, List, [], ◌∷◌, length, Option, Some, Result, Ok, Err, subst}
use Rattle.std.specs.Prelude.{IfSome, IfErr, MatchResult}
use Rattle.orc_values.specs.Cells.{Cell}
use Rattle.orc_file_reader.specs.FileRows.{FileIs, rows_together}
use Rattle.orc_tail.specs.declared.tail.Tail.{Tail}
use Rattle.orc_tail.specs.declared.fault.FileFault.{FileFault}
use Rattle.orc_file_reader.proofs.RowLemmas.{one_file}
use Rattle.orc_check.specs.Findings.{Findings}
use Rattle.orc_check.specs.declared.finding.Finding.{Finding}
use Rattle.orc_merger.specs.Merging.{IsMerge}
use Rattle.orc_merger.specs.Outcomes.{WroteMerge}
use Rattle.orc_theorems.specs.Inputs.{AreWithoutFinding, AreFound}
use Rattle.orc_theorems.proofs.StepLemmas.{merge_of}
use Rattle.orc_io.proofs.Told.{at_told}

-- what the theorem says of one merge
abbrev pub MergedLaw : Type 0
MergedLaw = (files : List (List ℕ)) (tail : Tail) (out : List ℕ) (parts : List (List Cell)) → IsMerge files tail out → length out < 18446744073709551616
    → AreWithoutFinding files parts → FileIs out tail (rows_together parts) × Findings out tail (rows_together parts) []

-- a file has one list of findings
abbrev pub OneList : Type 0
OneList = (bytes : List ℕ) (tail : Tail) (rows : List Cell) (a b : List Finding) → Findings bytes tail rows a → Findings bytes tail rows b → a ≡ b

without : (bytes : List ℕ) (found : List Finding) → found ≡ [] → AreFound bytes found → AreFound bytes []
without bytes found none is = subst (λ (f : List Finding). AreFound bytes f) none is

pub nothing_found : MergedLaw → OneList → (a b out : List ℕ) (tail : Tail) (f g found : List Finding)
    → AreFound a f → AreFound b g → WroteMerge (a ∷ b ∷ []) tail (Some []) (Some out) → AreFound out found
    → f ≡ [] → g ≡ [] → found ≡ []
nothing_found merged one a b out tail f g found in_a in_b w in_out f_none g_none =
    let x = without a f f_none in_a in
    let y = without b g g_none in_b in
    let m = merge_of (a ∷ b ∷ []) tail out w in
    let is = merged (a ∷ b ∷ []) tail out (x.1 ∷ y.1 ∷ []) m.0 m.1 ((x.0, x.2, x.3), ((y.0, y.2, y.3), tt)) in
    let same = one_file out tail in_out.0 (rows_together (x.1 ∷ y.1 ∷ [])) in_out.1 is.0 in_out.2 in
    let none : Findings out in_out.0 in_out.1 [] = subst (λ (rows : List Cell). Findings out in_out.0 rows []) same.1
    (subst (λ (t : Tail). Findings out t (rows_together (x.1 ∷ y.1 ∷ [])) []) same.0 is.1) in
    one out in_out.0 in_out.1 found [] in_out.3 none

-- bytes are a file of one tail and one list of rows
abbrev pub OneFile : Type 0
OneFile = (bytes : List ℕ) (t u : Tail) (a b : List Cell) → FileIs bytes t a → FileIs bytes u b → (t ≡ u) × (a ≡ b)

-- what is found of a file without findings is nothing
pub none_found_of : OneFile → OneList → (bytes : List ℕ) (tail : Tail) (rows : List Cell) (found : List Finding) → FileIs bytes tail rows → Findings bytes tail rows []
    → AreFound bytes found → found ≡ []
none_found_of file list bytes tail rows found is none are =
    let same = file bytes are.0 tail are.1 rows are.2 is in
    let its : Findings bytes tail rows found = subst (λ (r : List Cell). Findings bytes tail r found) same.1 (subst (λ (t : Tail). Findings bytes t are.1 found) same.0 are.3) in
    list bytes tail rows found [] its none

-- ---- checking one file

pub only_err : {T E : Type 0} (r : Result T E) (P : T → Type 0) (Q : E → Type 0) → MatchResult r P Q → IfErr r Q
only_err (Ok x) P Q h = tt
only_err (Err e) P Q h = h

-- a file that is told is refused only so
pub told_only : {T : Type 0} (P : List ℕ → Tail → List Cell → T → Type 0) (Q : FileFault → Type 0) (told : Option (List ℕ)) (bytes : List ℕ) (r : Result T FileFault) → told ≡ Some bytes
    → IfSome told (λ b. (tail : Tail) (rows : List Cell) → FileIs b tail rows → MatchResult r (P b tail rows) Q)
    → (tail : Tail) (rows : List Cell) → FileIs bytes tail rows → IfErr r Q
told_only P Q told bytes r e h tail rows is =
    only_err r (P bytes tail rows) Q (at_told told bytes (λ (b : List ℕ). (t : Tail) (rs : List Cell) → FileIs b t rs → MatchResult r (P b t rs) Q) e h tail rows is)

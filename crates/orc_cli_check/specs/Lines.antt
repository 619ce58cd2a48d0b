-- What `check` prints of a file: its findings, one per line.
use Rattle.std.specs.Prelude.{◌≡◌, ℕ, List, [], ◌∷◌, ◌++◌, ◌⊎◌}
use Rattle.std.specs.List.{flat_map}
use Rattle.orc_values.specs.Cells.{Cell}
use Rattle.orc_file_reader.specs.FileRows.{FileIs}
use Rattle.orc_tail.specs.declared.tail.Tail.{Tail}
use Rattle.orc_tail.specs.declared.fault.FileFault.{FileFault}
use Rattle.orc_tail.specs.declared.fault.FileFault.TheVariants.{SourceFailed, OutOfMemory}
use Rattle.orc_cli_output.specs.declared.fault.CliFault.{CliFault}
use Rattle.orc_cli_output.specs.declared.fault.CliFault.TheVariants.{File}
use Rattle.orc_check.specs.Checking.{CheckFault}
use Rattle.orc_check.specs.FindingText.{finding_text}
use Rattle.orc_check.specs.Findings.{Findings}
use Rattle.orc_check.specs.declared.finding.Finding.{Finding}

-- the line of a finding: its text and a line end
abbrev pub finding_line : Finding → List ℕ
finding_line finding = finding_text finding ++ 10 ∷ []

-- the lines of findings, in order
abbrev pub finding_lines : List Finding → List ℕ
finding_lines found = flat_map finding_line found

-- the bytes are a file with some rows, and this holds for its list of findings
abbrev pub IsFoundOf : List ℕ → (List Finding → Type 0) → Type 0
IsFoundOf bytes Holds =
    (tail : Tail) × (rows : List Cell) × (found : List Finding)
    × FileIs bytes tail rows × Findings bytes tail rows found × Holds found

-- the source failed, or memory ran out, as a fault of the layer of files
abbrev pub IsSourceOrMemory : CliFault → Type 0
IsSourceOrMemory fault = (fault ≡ File SourceFailed) ⊎ (fault ≡ File OutOfMemory)

-- the want of memory that `check` may fail with: that of the layer of files, in which the program's own counts too
abbrev pub IsWantOfCheck : CliFault → Type 0
IsWantOfCheck fault = fault ≡ File OutOfMemory

-- why a file isn't checked: a fault of its bytes, a failed source, or want of memory
abbrev pub IsNotChecked : List ℕ → CliFault → Type 0
IsNotChecked bytes fault = ((why : FileFault) × (fault ≡ File why) × CheckFault bytes why) ⊎ IsSourceOrMemory fault

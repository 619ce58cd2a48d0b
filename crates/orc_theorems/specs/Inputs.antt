-- Files without findings, and the findings of a file (own).
use Rattle.std.specs.Prelude.{ℕ, List, []}
use Rattle.std.specs.List.{AllZip}
use Rattle.orc_values.specs.Cells.{Cell}
use Rattle.orc_file_reader.specs.FileRows.{FileIs}
use Rattle.orc_tail.specs.declared.tail.Tail.{Tail}
use Rattle.orc_check.specs.Findings.{Findings}
use Rattle.orc_check.specs.declared.finding.Finding.{Finding}

-- each input is a file with these rows and no findings
abbrev pub AreWithoutFinding : List (List ℕ) → List (List Cell) → Type 0
AreWithoutFinding =
    AllZip (λ (bytes : List ℕ) (rows : List Cell). (tail : Tail) × FileIs bytes tail rows × Findings bytes tail rows [])

-- the bytes are a file with some rows, and these are its findings
abbrev pub AreFound : List ℕ → List Finding → Type 0
AreFound bytes found = (tail : Tail) × (rows : List Cell) × FileIs bytes tail rows × Findings bytes tail rows found

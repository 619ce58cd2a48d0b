-- Why calls that write, read and join files fail (own).
use Rattle.std.specs.Prelude.{◌≡◌, ◌⊎◌, false, List, [], ◌∷◌, ◌++◌, ℕ}
use Rattle.orc_values.specs.Cells.{Cell}
use Rattle.orc_values.specs.Shapes.{Shape}
use Rattle.orc_values.specs.Fits as fitting
use Rattle.orc_row_batch.specs.declared.options.Options.{Options}
use Rattle.orc_tail.specs.declared.fault.FileFault.{FileFault}
use Rattle.orc_tail.specs.declared.fault.FileFault.TheVariants.{Limit, RowShape, SourceFailed, WriteFailed, OutOfMemory}
use Rattle.orc_file_writer.specs.Writing.{WrittenStripe, AreWrittenStripes, AreFull, rows_of, infos_of, PassesBytes}
use Rattle.orc_file_writer.specs.RowLimits.{PassesByRows}
use Rattle.orc_check.specs.Checking.{CheckFault}
use Rattle.orc_merger.specs.Faults.{IsDeviceFault}
use Rattle.orc_merger.specs.Outcomes.{IsAnswer}
use Rattle.orc_theorems.specs.Groupings.{first_two, IsStepAnswer}
use Rattle.orc_theorems.specs.WrittenIndexes.{WasWritten}
use Rattle.orc_theorems.specs.declared.fault.CallFault.{CallFault}
use Rattle.orc_theorems.specs.declared.fault.CallFault.TheVariants.{File, Merge}

-- one of the rows doesn't fit the schema
pub record HasMisfit (s : Shape) (rows : List Cell) : Type 0 where
  pub front : List Cell
  pub row : Cell
  pub rest : List Cell
  pub rows_are : rows ≡ front ++ row ∷ rest
  pub misfit : fitting.fits row s ≡ false

-- with one of the rows, after those before it, a limit of stripes, of rows or of a column's cells in a stripe would be
-- exceeded
pub record PassesAtRow (options : Options) (s : Shape) (rows : List Cell) : Type 0 where
  pub front : List Cell
  pub row : Cell
  pub rest : List Cell
  pub rows_are : rows ≡ front ++ row ∷ rest
  pub passes : PassesByRows options s front row

-- The first of the rows fill stripes. With one stripe more, of the rows after these, the stripes would have too many
-- bytes.
pub record PassesAtStripe (options : Options) (s : Shape) (rows : List Cell) : Type 0 where
  pub stripes_written : List WrittenStripe
  pub are : AreWrittenStripes options s 3 stripes_written
  pub full : AreFull options.stripe_rows stripes_written
  pub last : List Cell
  pub rest : List Cell
  pub rows_are : rows ≡ rows_of stripes_written ++ (last ++ rest)
  pub passes : PassesBytes options s (infos_of stripes_written) last

-- why rows aren't written: the output or memory failed, a row doesn't fit the schema, or a limit would be exceeded
abbrev pub IsWriteFault : Options → Shape → List Cell → FileFault → Type 0
IsWriteFault options s rows fault =
    (fault ≡ WriteFailed)
    ⊎ ((fault ≡ OutOfMemory)
    ⊎ (((fault ≡ RowShape) × HasMisfit s rows)
    ⊎ ((fault ≡ Limit) × (PassesAtRow options s rows ⊎ PassesAtStripe options s rows))))

-- why a file isn't read: memory or the source failed, or the bytes are no file with rows for this reason
abbrev pub IsReadFault : List ℕ → FileFault → Type 0
IsReadFault bytes fault = (fault ≡ OutOfMemory) ⊎ ((fault ≡ SourceFailed) ⊎ CheckFault bytes fault)

-- memory or the source failed
abbrev pub IsSourceFault : FileFault → Type 0
IsSourceFault fault = (fault ≡ OutOfMemory) ⊎ (fault ≡ SourceFailed)

-- why two files aren't read and joined: one of them isn't read, or they aren't merged
abbrev pub IsJoinFault : List ℕ → List ℕ → CallFault → Type 0
IsJoinFault first second (File why) = IsReadFault first why ⊎ IsReadFault second why
IsJoinFault first second (Merge why) = IsAnswer (first ∷ second ∷ []) why

-- why three files aren't joined in two steps and checked: a step is refused, or memory or a source failed
abbrev pub IsStepsFault : List ℕ → List ℕ → List ℕ → CallFault → Type 0
IsStepsFault first second third (File why) = IsSourceFault why
IsStepsFault first second third (Merge why) = IsStepAnswer (first_two first second third) why

-- why rows aren't appended to a file: it isn't read, the rows aren't written, or what was written isn't merged with it
abbrev pub IsAppendFault : List ℕ → Options → Shape → List Cell → CallFault → Type 0
IsAppendFault file options s rows (File why) = IsReadFault file why ⊎ IsWriteFault options s rows why
IsAppendFault file options s rows (Merge why) =
    (written : List ℕ) × WasWritten written rows × IsAnswer (file ∷ written ∷ []) why

-- memory, a source or the output failed
abbrev pub IsOutsideFiles : CallFault → Type 0
IsOutsideFiles (File why) = IsSourceFault why
IsOutsideFiles (Merge why) = IsDeviceFault why

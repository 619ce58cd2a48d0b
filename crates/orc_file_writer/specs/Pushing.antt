-- What each push of a row to a writer promises, about the writer before and after it, the row and the answer (this
-- project's).
use Rattle.std.specs.Prelude.{◌≡◌, ◌+◌, ◌≤◌, ◌⊎◌, ◌↔◌, ◌++◌, ◌∷◌, [], ℕ, List, Option, length, true, false, Result, IfErr, OnOk, OnErr, IsErrOf}
use Rattle.orc_values.specs.Cells.{Cell}
use Rattle.orc_values.specs.Fits as fitting
use Rattle.orc_row_batch.specs.Batch.{kept_rows}
use Rattle.orc_io.specs.Leaves.{LeavesSink}
use Rattle.orc_io.specs.declared.sink.Sink.{Ghosts}
use Rattle.orc_tail.specs.declared.fault.FileFault.{FileFault}
use Rattle.orc_tail.specs.declared.fault.FileFault.TheVariants as fault
use Rattle.orc_file_writer.specs.Counts.{PassesLimit}
use Rattle.orc_file_writer.specs.Writing.{Progress, HasTaken, HasPushed, IsCutOff, PassesBytes}
use Rattle.orc_file_writer.specs.RowLimits.{PassesByRows}
use Rattle.orc_file_writer.specs.Progress.{progress}
use Rattle.orc_file_writer.specs.declared.writer.Writer.{Writer}

-- a push that succeeds adds its row at the end of the rows pushed
abbrev pub AddsRow : {T : Type 0} → Progress → Progress → Cell → Result T FileFault → Type 0
AddsRow old new row result = (first : Option (List ℕ)) (rows : List Cell) → HasPushed old first rows
    → OnOk result (HasPushed new first (rows ++ row ∷ []))

-- What a push promises besides. `told` and `failures` give the output's known bytes and its count of failures.
pub record TakesRow {W : Type 0} {ghosts : Ghosts W} {T : Type 0} (told : W → Option (List ℕ)) (failures : W → ℕ)
    (old new : Writer W ghosts) (row : Cell) (result : Result T FileFault) : Type 0 where
  -- If the writer counted as many bytes as the output had got, it still does after the push, whatever the answer.
  pub taken : (first : Option (List ℕ)) → HasTaken first (told old.out) old.written
      → HasTaken first (told new.out) new.written
  -- The writer keeps its schema and its options.
  pub same : (new.schema ≡ old.schema) × (new.options ≡ old.options)
  -- The error is Failed if and only if the writer had failed before.
  pub failed : IsErrOf result fault.Failed ↔ (old.failed ≡ true)
  -- If the writer had not failed, the error is RowShape if and only if the row doesn't fit.
  pub shape : old.failed ≡ false → (IsErrOf result fault.RowShape ↔ (fitting.fits row old.schema ≡ false))
  -- If the writer had not failed, the row fits, and with it a limit of stripes, of rows or of a column's cells would be
  -- exceeded, the error is Limit and the writer has not failed.
  pub limit : old.failed ≡ false → fitting.fits row old.schema ≡ true
      → (PassesLimit old.schema old.infos.items old.total old.counts.items row
      → IsErrOf result fault.Limit × (new.failed ≡ false))
  -- A Limit after which the writer has not failed comes only if one of these limits would be exceeded.
  pub only_limit : IsErrOf result fault.Limit → new.failed ≡ false
      → PassesLimit old.schema old.infos.items old.total old.counts.items row
  -- By the writer's counts one of these limits would be exceeded if and only if it would by the rows pushed.
  pub counted : (first : Option (List ℕ)) (rows : List Cell) → HasPushed (progress told old) first rows
      → (PassesLimit old.schema old.infos.items old.total old.counts.items row
      ↔ PassesByRows old.options old.schema rows row)
  -- A Limit after which the writer has failed comes only if the limit of the stripes' bytes would be exceeded with the
  -- stripe that ends with this row.
  pub long : IsErrOf result fault.Limit → new.failed ≡ true
      → PassesBytes old.options old.schema old.infos.items (kept_rows old.schema old.batch ++ row ∷ [])
  -- A Limit after which the writer has failed comes only if this row fills its stripe.
  pub full : IsErrOf result fault.Limit → new.failed ≡ true
      → old.options.stripe_rows ≤ length (kept_rows old.schema old.batch) + 1
  -- An error is Failed, RowShape, Limit, WriteFailed or OutOfMemory.
  pub refused : IfErr result (λ e. (e ≡ fault.Failed)
      ⊎ ((e ≡ fault.RowShape) ⊎ ((e ≡ fault.Limit) ⊎ ((e ≡ fault.WriteFailed) ⊎ (e ≡ fault.OutOfMemory)))))
  -- After RowShape the writer has not failed.
  pub shape_stays : IsErrOf result fault.RowShape → new.failed ≡ false
  -- If a push fails and the writer has not failed by it, then its output, stripes, statistics, rows and counts are
  -- unchanged.
  pub unchanged : OnErr result (new.failed ≡ old.failed → (new.out ≡ old.out) × (new.written ≡ old.written)
      × (new.infos ≡ old.infos) × (new.stats ≡ old.stats) × (new.batch ≡ old.batch) × (new.counts ≡ old.counts)
      × (new.total ≡ old.total) × (new.failed ≡ old.failed))
  -- The writer has failed after WriteFailed, after OutOfMemory, and if it had failed before; it has not failed after a
  -- success.
  pub write_fails : IsErrOf result fault.WriteFailed → new.failed ≡ true
  pub memory_fails : IsErrOf result fault.OutOfMemory → new.failed ≡ true
  pub stays_failed : old.failed ≡ true → new.failed ≡ true
  pub ok : OnOk result (new.failed ≡ false)
  -- If the output's bytes are known and the writer fails by this push, the output has got a prefix of a file of the
  -- first n of the rows pushed, this row included, for some n.
  pub cut : (first : Option (List ℕ)) (rows : List Cell) → HasPushed (progress told old) first rows
      → old.failed ≡ false → new.failed ≡ true
      → IsCutOff old.options old.schema first (told new.out) (rows ++ row ∷ [])
  -- The output's count of failures rises by one with WriteFailed, and is unchanged after a success and after any other
  -- error.
  pub out : LeavesSink failures fault.WriteFailed old.out new.out result

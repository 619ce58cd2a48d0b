-- What pushing the rows of lines does to the writer, whatever the lines are.
use Rattle.std.specs.Prelude.{◌≡◌, ℕ, false, Result, OnOk}
use Rattle.orc_io.specs.Leaves.{LeavesSink}
use Rattle.orc_io.specs.declared.sink.Sink.{Ghosts}
use Rattle.orc_file_writer.specs.declared.writer.Writer.{Writer}
use Rattle.orc_cli_output.specs.Output as output
use Rattle.orc_cli_output.specs.declared.fault.CliFault.{CliFault}

-- A writer before and after a call, with the number of failures of its output.
pub record LeavesWriter {W : Type 0} {ghosts : Ghosts W} {T : Type 0} (failures : W → ℕ) (old new : Writer W ghosts)
    (result : Result T CliFault) : Type 0 where
  -- The schema and the options are unchanged.
  pub same : (new.schema ≡ old.schema) × (new.options ≡ old.options)
  -- If the call succeeds and the writer had not failed before, then it has not failed.
  pub ready : OnOk result (old.failed ≡ false → new.failed ≡ false)
  -- The output's count of failures rises by one with `WriteFailed`, and stays the same after a success and after any
  -- other error.
  pub out : LeavesSink failures output.write_failed old.out new.out result

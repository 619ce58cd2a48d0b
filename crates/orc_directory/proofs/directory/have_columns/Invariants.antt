use Rattle.std.proofs.Common.{◌≡◌, drop}
use Rattle.orc_directory.specs.Directory as spec
use Rattle.orc_directory.proofs.directory.have_columns.Given as goal

-- those that are left decide
abbrev pub invariant-loop-stream : goal.invariant-loop-stream
invariant-loop-stream l = spec.have_columns l.width (drop l.stream-index l.streams) ≡ spec.have_columns l.width l.streams

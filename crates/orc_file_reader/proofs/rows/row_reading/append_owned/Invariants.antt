use Rattle.std.proofs.Common.{◌≡◌, ◌++◌, drop}
use Rattle.orc_values.specs.Views.{views}
use Rattle.orc_file_reader.proofs.rows.row_reading.append_owned.Given as goal

-- with those that are left it is all of them
abbrev pub invariant-loop-row : goal.invariant-loop-row
invariant-loop-row l = record {
  done : views l.rows.items ++ views (drop l.row-index l.from) ≡ views l.initial.rows.items ++ views l.from;
}

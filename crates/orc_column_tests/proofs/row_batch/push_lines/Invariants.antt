use Rattle.std.proofs.Common.{◌≡◌, length}
use Rattle.orc_column_tests.proofs.row_batch.push_lines.Given as goal

-- there are as many columns as before
abbrev pub invariant-loop-line : goal.invariant-loop-line
invariant-loop-line l = length l.batch.columns.items ≡ length l.initial.batch.columns.items

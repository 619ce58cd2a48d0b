use Rattle.std.proofs.Common.{drop}
use Rattle.orc_stripe_writer.proofs.LastColumn.{Looking}
use Rattle.orc_stripe_writer.proofs.column_streams.stream_bytes.Given as goal

abbrev pub invariant-loop-line : goal.invariant-loop-line
invariant-loop-line l = Looking l.fn.column l.fn.kind l.fn.lines (drop l.line-index l.fn.lines) l.fn.bytes l.left

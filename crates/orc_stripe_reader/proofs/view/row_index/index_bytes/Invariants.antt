use Rattle.std.proofs.Common.{drop}
use Rattle.orc_stripe_reader.proofs.IndexBytes.{Looking}
use Rattle.orc_stripe_reader.proofs.view.row_index.index_bytes.Given as goal

abbrev pub invariant-loop-stream : goal.invariant-loop-stream
invariant-loop-stream l = Looking l.column l.streams (drop l.stream-index l.streams) l.bytes l.left

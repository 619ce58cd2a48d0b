use Rattle.std.proofs.Common.{drop}
use Rattle.orc_directory.proofs.LocatedLemmas.{Searches}
use Rattle.orc_directory.proofs.located.locate.Given as goal

abbrev pub invariant-loop-stream : goal.invariant-loop-stream
invariant-loop-stream l = Searches l.columns l.stream-items (drop l.stream-index l.stream-items) l.bytes l.left l.slices.items

use Rattle.std.proofs.Common.{drop}
use Rattle.orc_stripe_reader.proofs.IndexTextLemmas.{LooksFor}
use Rattle.orc_stripe_reader.proofs.view.index_texts.index_texts.Given as goal

abbrev pub invariant-loop-stream : goal.invariant-loop-stream
invariant-loop-stream l = LooksFor l.columns l.streams (drop l.stream-index l.streams) l.bytes l.left l.texts.items

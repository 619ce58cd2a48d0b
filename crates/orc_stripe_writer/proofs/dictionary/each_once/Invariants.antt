use Rattle.std.proofs.Common.{take}
use Rattle.orc_stripe_writer.proofs.EachOnceLemmas.{AreFound}
use Rattle.orc_stripe_writer.proofs.dictionary.each_once.Given as goal

abbrev pub invariant-loop-item : goal.invariant-loop-item
invariant-loop-item g l = AreFound g.met.K.Eq.laws (take l.item-index l.items) l.seen.keys l.few.items

use Rattle.std.proofs.Common.{◌<◌, length, arith}
use Rattle.std.proofs.lemmas.List.{take_all}
use Rattle.orc_bits.proofs.PackedLemmas.{fit_more}
use Rattle.orc_column_tests.proofs.bits.packed.fill.Goals as goal

pub loop-i-preserved : goal.loop-i-preserved
loop-i-preserved c =
    let lt : c.loop-i.i < length c.loop-i.places = omega arith in
    fit_more c.args.width c.loop-i.i _ c.loop-i.places lt c.loop-i.invariant c.with_ends.ensures

pub returns : goal.returns
returns c = rw (take_all c.loop-i.i c.loop-i.places (omega arith)) at c.loop-i.invariant

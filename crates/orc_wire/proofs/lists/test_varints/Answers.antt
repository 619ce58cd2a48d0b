use Rattle.std.proofs.Common.{[], ◌+◌, arith, refl, length-drop}
use Rattle.orc_wire.proofs.ListLemmas.{has_next, has_large}
use Rattle.orc_wire.proofs.lists.test_varints.Goals as goal

pub loop-at-init : goal.loop-at-init
loop-at-init c = record { within = omega arith; has = ([], refl) }

pub returns-then-value-most-clause-fault : goal.returns-then-value-most-clause-fault
returns-then-value-most-clause-fault c =
    let is = rw c.split_at.ensures.back at c.in-Ok.ensures.found in
    has_large (c.args.most + 1) c.args.bytes.now c.loop-at.at c.in-Ok.found.1 c.in-Ok.found.0 c.args.place c.loop-at.invariant.has is (omega arith)

pub loop-at-preserved : goal.loop-at-preserved
loop-at-preserved c =
    let is = rw c.split_at.ensures.back at c.in-Ok.ensures.found in
    let within = rw c.split_at.ensures.back at c.in-Ok.ensures.within in
    record {
      within = omega (arith, within, length-drop c.loop-at.at c.args.bytes.now);
      has = has_next (c.args.most + 1) c.args.bytes.now c.loop-at.at c.in-Ok.found.1 c.in-Ok.found.0 c.loop-at.invariant.has is (omega arith);
    }

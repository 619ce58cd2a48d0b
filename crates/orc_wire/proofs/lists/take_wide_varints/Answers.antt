use Rattle.std.proofs.Common.{arith, ◌^◌, length-drop}
use Rattle.orc_wire.proofs.ListLemmas.{appends_next}
use Rattle.orc_wire.proofs.lists.take_wide_varints.Goals as goal

pub loop-at-preserved : goal.loop-at-preserved
loop-at-preserved c =
    let is = rw c.split_at.ensures.back at c.in-Ok.ensures.found in
    let within = rw c.split_at.ensures.back at c.in-Ok.ensures.within in
    record {
      within = omega (arith, within, length-drop c.loop-at.at c.args.bytes.now);
      appends = appends_next (2 ^ 64) c.args.slot.now c.loop-at.slot c.push.new.self c.args.bytes.now c.loop-at.at c.in-Ok.found.1 c.in-Ok.found.0 c.loop-at.invariant.appends is is.fits c.in_ok-push.ensures.ok;
    }

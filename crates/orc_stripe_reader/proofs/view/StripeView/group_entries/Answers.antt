use Rattle.std.proofs.Common.{◌<◌, [], ◌∷◌, length, length-append, ap, arith}
use Rattle.orc_values.specs.Shapes.{width}
use Rattle.orc_stripe_reader.proofs.GroupTurned.{one_more_entry, one_more_only}
use Rattle.orc_stripe_reader.proofs.view.StripeView.group_entries.Goals as goal

pub loop-column-preserved : goal.loop-column-preserved
loop-column-preserved c =
    let old = c.loop-column.entries.items in
    let h = c.loop-column.invariant in
    let new = c.in_ok-push-in-Ok.ensures.items in (
      omega (arith, h.0, ap length new, length-append old (c.in-Ok.entry ∷ [])),
      one_more_entry c.args.self.now c.args.group old c.push.new.self.items c.in-Ok.entry c.loop-column.column new h.0 h.1 c.in-Ok.ensures.found,
      one_more_only c.args.self.now c.args.group old c.push.new.self.items c.in-Ok.entry c.loop-column.column new h.0 h.2 c.in-Ok.ensures.only,
    )

pub returns-in-Err-clause-refused : goal.returns-in-Err-clause-refused
returns-in-Err-clause-refused c = λ h.
    let lt : c.loop-column.column < width c.args.self.now.schema = rw (← c.self.view_is) (omega (arith, c.loop-column-test.true, c.width-column-end.ensures.same)) in
    let k = h c.loop-column.column lt in
    c.in-Err.ensures.only k.0 k.1

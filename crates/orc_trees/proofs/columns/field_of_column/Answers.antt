use Rattle.std.proofs.Common.{suc, add-one, add-zero, ◌<◌, ◌≤◌, length, ap, arith}
use Rattle.orc_values.specs.Shapes.{width, widths}
use Rattle.orc_values.specs.Views.{shape, fields}
use Rattle.orc_values.proofs.ByColumn.{width_within, located_here, located_more, past_more, located_next}
use Rattle.orc_trees.proofs.columns.field_of_column.Goals as goal

pub width_of-width-requires : goal.width_of-width-requires
width_of-width-requires c =
    let w = width_within c.deref-field-items.result.now c.loop-i.i c.field-item.result c.loop-i-test.true c.field-item.is in
    let e = ap (λ fs. widths (fields fs)) c.deref-field-items.ensures.value in
    omega (arith, w, e, c.requires)

pub returns-then-left-width-clause-some : goal.returns-then-left-width-clause-some
returns-then-left-width-clause-some c =
    let few : c.loop-i.left < width (shape c.field-item.result.tree) = omega (arith, c.if-left-width.true, c.width_of-width.ensures) in
    let h = c.loop-i.invariant.found 0 c.loop-i.left (located_here c.deref-field-items.result.now c.loop-i.i c.loop-i.left c.field-item.result c.loop-i-test.true c.field-item.is few) in
    (omega (arith, c.loop-i-test.true, ap length c.deref-field-items.ensures.value), rw (c.deref-field-items.ensures.value, add-zero) at h)

pub loop-i-preserved : goal.loop-i-preserved
loop-i-preserved c =
    let w : width (shape c.field-item.result.tree) ≤ c.loop-i.left = omega (arith, c.if-left-width.false, c.width_of-width.ensures) in
    rw (add-one, c.width_of-width.ensures) record {
      found = λ j d l. located_next c.deref-field-items.result.now c.args.column c.loop-i.i j d (c.loop-i.invariant.found (suc j) d
          (located_more c.deref-field-items.result.now c.loop-i.i c.loop-i.left c.field-item.result c.loop-i-test.true c.field-item.is w j d l));
      past = λ p. c.loop-i.invariant.past (past_more c.deref-field-items.result.now c.loop-i.i c.loop-i.left c.field-item.result c.loop-i-test.true c.field-item.is w p);
    }

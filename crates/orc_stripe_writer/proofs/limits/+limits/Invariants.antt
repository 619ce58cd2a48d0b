use Rattle.std.proofs.Common.{◌+◌, ◌*◌, map}
use Rattle.orc_values.specs.Cells.{parts, values}
use Rattle.orc_values.specs.Lent.{lent_cells}
use Rattle.orc_values.specs.Shapes.{width, widths}
use Rattle.orc_values.specs.Views.{shape, fields as fields_view}
use Rattle.orc_stripe_writer.proofs.SubtreeLemmas.{FewFrom}
use Rattle.orc_stripe_writer.proofs.limits.+limits.Given as goal

abbrev pub decreases-columns_are_few : goal.decreases-columns_are_few
decreases-columns_are_few l = 2 * width (shape l.tree.now)

abbrev pub decreases-pairs_are_few : goal.decreases-pairs_are_few
decreases-pairs_are_few l = 2 * (width (shape l.key.now) + width (shape l.value.now)) + 1

abbrev pub decreases-fields_are_few : goal.decreases-fields_are_few
decreases-fields_are_few l = 2 * widths (fields_view l.fields.now) + 1

abbrev pub invariant-fields_are_few-loop-place : goal.invariant-fields_are_few-loop-place
invariant-fields_are_few-loop-place l = FewFrom l.fields (map parts (values (lent_cells l.structs))) l.place

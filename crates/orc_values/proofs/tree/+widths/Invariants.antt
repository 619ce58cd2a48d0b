use Rattle.std.proofs.Common.{◌+◌, ◌*◌}
use Rattle.orc_values.specs.Shapes.{width, widths}
use Rattle.orc_values.specs.Views.{shape, fields}
use Rattle.orc_values.proofs.tree.+widths.Given as goal

abbrev pub decreases-width_of : goal.decreases-width_of
decreases-width_of l = 2 * width (shape l.tree.now)

abbrev pub decreases-widths_of : goal.decreases-widths_of
decreases-widths_of l = 2 * widths (fields l.fields.now) + 1

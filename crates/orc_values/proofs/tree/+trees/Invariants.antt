use Rattle.std.proofs.Common.{◌+◌, ◌*◌}
use Rattle.orc_values.specs.Shapes.{width, widths}
use Rattle.orc_values.specs.Views.{shape, fields}
use Rattle.orc_values.proofs.tree.+trees.Given as goal

abbrev pub decreases-tree_at : goal.decreases-tree_at
decreases-tree_at l = 2 * width (shape l.tree.now)

abbrev pub decreases-tree_within : goal.decreases-tree_within
decreases-tree_within l = 2 * widths (fields l.fields.now) + 1

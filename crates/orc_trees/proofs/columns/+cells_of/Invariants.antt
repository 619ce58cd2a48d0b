use Rattle.orc_values.specs.Shapes.{width}
use Rattle.orc_values.specs.Views.{shape}
use Rattle.orc_trees.proofs.columns.+cells_of.Given as goal

abbrev pub decreases-cells_of : goal.decreases-cells_of
decreases-cells_of l = width (shape l.tree.now)

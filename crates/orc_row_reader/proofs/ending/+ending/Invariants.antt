use Rattle.std.proofs.Common.{◌+◌, ◌*◌, ◌-◌}
use Rattle.orc_values.specs.Shapes.{width, widths}
use Rattle.orc_values.specs.Views.{shape, fields as fields_view}
use Rattle.orc_row_reader.proofs.ending.+ending.Given as goal

abbrev pub decreases-cells_end : goal.decreases-cells_end
decreases-cells_end l = 3 * width (shape l.tree.now)

abbrev pub decreases-values_end : goal.decreases-values_end
decreases-values_end l = 3 * width (shape l.tree.now) - 1

abbrev pub decreases-pairs_end : goal.decreases-pairs_end
decreases-pairs_end l = 3 * (width (shape l.key.now) + width (shape l.value.now)) + 1

abbrev pub decreases-fields_end : goal.decreases-fields_end
decreases-fields_end l = 3 * widths (fields_view l.fields.now) + 1

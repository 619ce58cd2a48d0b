use Rattle.std.proofs.Common.{◌+◌, ◌*◌}
use Rattle.orc_values.specs.Shapes.{width, widths}
use Rattle.orc_values.specs.Views.{shape, fields as fields_view}
use Rattle.orc_row_reader.proofs.starting.+starting.Given as goal

abbrev pub decreases-put_tree : goal.decreases-put_tree
decreases-put_tree l = 2 * width (shape l.tree.now)

abbrev pub decreases-put_fields : goal.decreases-put_fields
decreases-put_fields l = 2 * widths (fields_view l.fields.now) + 1

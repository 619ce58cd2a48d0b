use Rattle.std.proofs.Common.{◌+◌, ◌*◌}
use Rattle.orc_values.specs.Shapes.{width, widths}
use Rattle.orc_values.specs.Views.{shape, fields as fields_view}
use Rattle.orc_column_reader.specs.Stripe.{columns_of}
use Rattle.orc_column_walk.proofs.TreeLemmas.{FieldsRead}
use Rattle.orc_column_walk.proofs.walk.+walking.Given as goal

abbrev pub decreases-walk_tree : goal.decreases-walk_tree
decreases-walk_tree l = 2 * width (shape l.tree.now)

abbrev pub decreases-walk_fields : goal.decreases-walk_fields
decreases-walk_fields l = 2 * widths (fields_view l.fields.now) + 1

-- the fields so far, before the columns of those that are left
abbrev pub invariant-walk_fields-loop-field : goal.invariant-walk_fields-loop-field
invariant-walk_fields-loop-field l = FieldsRead l.fields (columns_of l.footer l.located.bytes.now) l.column l.next l.count l.field-index

use Rattle.std.proofs.Common.{◌+◌, ◌*◌}
use Rattle.orc_values.specs.Shapes.{width, widths}
use Rattle.orc_values.specs.Views.{shape, fields as fields_view}
use Rattle.orc_column_reader.specs.Stripe.{columns_of}
use Rattle.orc_column_walk.proofs.TreeLemmas.{FieldsRead}
use Rattle.orc_check.proofs.WalkLemmas.{FieldsChecked}
use Rattle.orc_check.proofs.columns.+walking.Given as goal

abbrev pub decreases-check_tree : goal.decreases-check_tree
decreases-check_tree l = 2 * width (shape l.tree.now)

abbrev pub decreases-check_fields : goal.decreases-check_fields
decreases-check_fields l = 2 * widths (fields_view l.fields.now) + 1

-- the fields so far, before the columns of those that are left
abbrev pub invariant-check_fields-loop-field : goal.invariant-check_fields-loop-field
invariant-check_fields-loop-field l = record {
  own : FieldsRead l.fields (columns_of l.stripe.view.now.footer l.stripe.view.now.bytes) l.column l.next l.cells.count l.field-index;
  checked : FieldsChecked l.stripe.view.now l.stripe.told.now l.stripe.number l.fields l.column l.next l.cells l.field-index l.initial.found.items l.initial.stats.items l.found.items l.stats.items;
}

use Rattle.std.proofs.Common.{◌+◌, ◌*◌, ◌≤◌}
use Rattle.orc_values.specs.Shapes.{width, widths}
use Rattle.orc_values.specs.Views.{shape, fields as fields_view}
use Rattle.orc_column_reader.specs.Stripe.{columns_of}
use Rattle.orc_stripe_reader.proofs.ColumnsDown.{ArePassed}
use Rattle.orc_stripe_reader.proofs.groups.+down.Given as goal

abbrev pub decreases-count_column : goal.decreases-count_column
decreases-count_column l = 2 * width (shape l.tree.now)

abbrev pub decreases-count_within : goal.decreases-count_within
decreases-count_within l = 2 * widths (fields_view l.fields.now) + 1

-- the fields so far, of which none has the column, before those that are left
abbrev pub invariant-count_within-loop-field : goal.invariant-count_within-loop-field
invariant-count_within-loop-field l = record {
  begun : l.at ≤ l.column;
  passed : ArePassed (columns_of l.footer l.located.bytes.now) l.fields l.first l.at l.cells l.field-index;
}

use Rattle.std.proofs.Common.{◌≡◌, ◌+◌, ◌*◌, drop}
use Rattle.orc_values.specs.Shapes.{width, widths}
use Rattle.orc_values.specs.Views.{shape, fields as fields_view}
use Rattle.orc_row_batch.specs.Batch.{kept_rows}
use Rattle.orc_stripe_writer.specs.Standing.{structs_in}
use Rattle.orc_stripe_writer.specs.Subtrees.{HasWritten}
use Rattle.orc_stripe_writer.proofs.StandingLemmas.{LeftStand}
use Rattle.orc_stripe_writer.proofs.columns.+columns.Given as goal

abbrev pub decreases-put_columns : goal.decreases-put_columns
decreases-put_columns l = 2 * width (shape l.tree.now)

abbrev pub decreases-put_fields : goal.decreases-put_fields
decreases-put_fields l = 2 * widths (fields_view l.fields.now) + 1

abbrev pub invariant-put_fields-loop-field : goal.invariant-put_fields-loop-field
invariant-put_fields-loop-field l =
    let s = l.source.schema.now in
    let rows = kept_rows s l.source.batch.now in
    let options = l.source.options.now in
    LeftStand s rows options.stride l.next l.fields (structs_in s rows l.structs) l.bounds l.field-index
    × HasWritten options.rle options.stride s rows l.next l.out
    × (l.next + widths (fields_view (drop l.field-index l.fields)) ≡ l.structs + 1 + widths (fields_view l.fields))

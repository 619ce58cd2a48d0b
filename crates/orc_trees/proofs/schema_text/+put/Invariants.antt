use Rattle.std.proofs.Common.{◌≡◌, ◌+◌, ◌*◌, ◌==◌, ◌++◌, drop, true, string_bytes}
use Rattle.orc_values.specs.Shapes.{width, widths}
use Rattle.orc_trees.specs.SchemaText as spec
use Rattle.orc_values.specs.Views.{shape, fields as fields_view}
use Rattle.orc_trees.proofs.schema_text.+put.Given as goal

abbrev pub decreases-put_tree : goal.decreases-put_tree
decreases-put_tree l = 3 * width (shape l.tree.now)

abbrev pub decreases-put_field : goal.decreases-put_field
decreases-put_field l = 3 * width (shape l.field.now.tree) + 1

abbrev pub decreases-put_fields : goal.decreases-put_fields
decreases-put_fields l = 3 * widths (fields_view l.fields.now.items) + 2

-- the text so far, before that of the fields that are left, is the whole
abbrev pub invariant-put_fields-loop-i : goal.invariant-put_fields-loop-i
invariant-put_fields-loop-i l =
    string_bytes l.text ++ spec.fields_text (l.i == 0) (fields_view (drop l.i l.field-items)) ≡ string_bytes l.initial.text ++ spec.fields_text true (fields_view l.field-items)

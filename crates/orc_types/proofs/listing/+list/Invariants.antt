use Rattle.std.proofs.Common.{◌≡◌, ◌+◌, ◌*◌, ◌++◌, drop, length}
use Rattle.orc_values.specs.Shapes.{width, widths}
use Rattle.orc_wire.specs.Types.{fields_types}
use Rattle.orc_values.specs.Views.{shape, fields}
use Rattle.orc_types.proofs.listing.+list.Given as goal

abbrev pub decreases-list_tree : goal.decreases-list_tree
decreases-list_tree l = 2 * width (shape l.tree.now)

abbrev pub decreases-list_fields : goal.decreases-list_fields
decreases-list_fields l = 2 * widths (fields l.fields.now) + 1

-- the types so far, before those of the fields that are left, are all
abbrev pub invariant-list_fields-loop-field : goal.invariant-list_fields-loop-field
invariant-list_fields-loop-field l =
    record {
      whole : l.types.items ++ fields_types (fields (drop l.field-index l.fields)) (length l.types.items) ≡ l.initial.types.items ++ fields_types (fields l.fields) (length l.initial.types.items);
      left : length l.types.items + widths (fields (drop l.field-index l.fields)) ≡ length l.initial.types.items + widths (fields l.fields);
    }

abbrev pub decreases-list_map : goal.decreases-list_map
decreases-list_map l = 2 * (width (shape l.key.now) + width (shape l.value.now)) + 1

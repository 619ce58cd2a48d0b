use Rattle.std.proofs.Common.{◌≡◌, take, drop, map, ◌+◌, ◌*◌}
use Rattle.serde_json.specs.Data.{no_members}
use Rattle.serde_json.specs.View.{view as json_view, members_view}
use Rattle.orc_values.specs.Cells.{cells_of}
use Rattle.orc_values.specs.Shapes.{width, widths}
use Rattle.orc_values.specs.Views.{views, paired, shape, fields as fields_view}
use Rattle.orc_json_rows.specs.JsonPrinting as spec
use Rattle.orc_json_rows.proofs.json_printing.+printing.Given as goal

abbrev pub invariant-array_of-loop-row : goal.invariant-array_of-loop-row
invariant-array_of-loop-row l = map json_view l.array.items ≡ map (spec.json_of (shape l.tree)) (views (take l.row-index l.row-items))

-- the members so far, and those of the fields that are left
abbrev pub invariant-object_of-loop-i : goal.invariant-object_of-loop-i
invariant-object_of-loop-i l =
    spec.members_json (fields_view (drop l.i l.field-items)) (cells_of (views (drop l.i l.rows.items))) (members_view l.object.entries) ≡ spec.members_json (fields_view l.field-items) (cells_of (views l.rows.items)) no_members

abbrev pub decreases-json_of : goal.decreases-json_of
decreases-json_of l = 2 * width (shape l.tree.now)

abbrev pub decreases-array_of : goal.decreases-array_of
decreases-array_of l = 2 * width (shape l.tree.now) + 1

abbrev pub decreases-object_of : goal.decreases-object_of
decreases-object_of l = 2 * widths (fields_view l.fields.now.items) + 1

abbrev pub invariant-pairs_to-loop-pair : goal.invariant-pairs_to-loop-pair
invariant-pairs_to-loop-pair l =
    map json_view l.array.items ≡ map (λ p. spec.pair_json (spec.json_of (shape l.key) p.0) (spec.json_of (shape l.value) p.1)) (map paired (take l.pair-index l.pair-items))

abbrev pub decreases-pairs_to : goal.decreases-pairs_to
decreases-pairs_to l = 2 * (width (shape l.key.now) + width (shape l.value.now)) + 1

use Rattle.std.proofs.Common.{◌≡◌, ◌≤◌, ◌+◌, ◌*◌, drop, map}
use Rattle.serde_json.specs.View.{view as json_view}
use Rattle.orc_values.specs.Shapes.{width, widths, names_of}
use Rattle.orc_json_rows.specs.KnownKeys.{count_keys}
use Rattle.orc_values.specs.Views.{views, paired, shape, fields as fields_view}
use Rattle.orc_json_rows.specs.JsonRows.{JsonSpells}
use Rattle.orc_json_rows.proofs.JsonFronts.{ElementsRead, PairsRead, FieldsRead}
use Rattle.orc_json_rows.proofs.json_reading.+reading.Given as goal

abbrev pub invariant-elements_of-loop-item : goal.invariant-elements_of-loop-item
invariant-elements_of-loop-item l = ElementsRead (JsonSpells (shape l.tree)) l.item-items l.item-index (views l.rows.items)

abbrev pub invariant-fields_of-loop-field : goal.invariant-fields_of-loop-field
invariant-fields_of-loop-field l =
    FieldsRead l.field-items (json_view l.json) l.field-index (views l.rows.items)
    × (l.known + count_keys (names_of (fields_view (drop l.field-index l.field-items))) (json_view l.json) ≡ count_keys (names_of (fields_view l.field-items)) (json_view l.json))
    × (l.known ≤ l.field-index)

abbrev pub decreases-row_of : goal.decreases-row_of
decreases-row_of l = 2 * width (shape l.tree.now)

abbrev pub decreases-elements_of : goal.decreases-elements_of
decreases-elements_of l = 2 * width (shape l.tree.now) + 1

abbrev pub decreases-fields_of : goal.decreases-fields_of
decreases-fields_of l = 2 * widths (fields_view l.fields.now.items) + 1

abbrev pub invariant-pairs_from-loop-item : goal.invariant-pairs_from-loop-item
invariant-pairs_from-loop-item l = PairsRead (JsonSpells (shape l.key)) (JsonSpells (shape l.value)) l.item-items l.item-index (map paired l.pairs.items)

abbrev pub decreases-pair_from : goal.decreases-pair_from
decreases-pair_from l = 2 * (width (shape l.key.now) + width (shape l.value.now))

abbrev pub decreases-pairs_from : goal.decreases-pairs_from
decreases-pairs_from l = 2 * (width (shape l.key.now) + width (shape l.value.now)) + 1

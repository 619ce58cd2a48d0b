use Rattle.std.proofs.Common.{◌+◌, ◌*◌, map, take}
use Rattle.orc_values.specs.Shapes.{width, widths}
use Rattle.orc_values.specs.Views.{views, paired, shape, fields}
use Rattle.orc_row_batch.specs.Batch.{kept_columns}
use Rattle.orc_row_batch.specs.Keeping.{AddsCells}
use Rattle.orc_row_batch.proofs.KeepSteps.{FieldsKept}
use Rattle.orc_row_batch.proofs.keeping.+keeping.Given as goal

-- the columns of the elements have those of the first parts more
abbrev pub invariant-keep_elements-loop-part : goal.invariant-keep_elements-loop-part
invariant-keep_elements-loop-part l = AddsCells (shape l.element) l.column (views (take l.part-index l.parts)) (kept_columns l.initial.columns.items) (kept_columns l.columns.items)

-- the columns of the keys, or of the values, have those of the first pairs more
abbrev pub invariant-keep_keys-loop-pair : goal.invariant-keep_keys-loop-pair
invariant-keep_keys-loop-pair l = AddsCells (shape l.key) l.column (map (λ p. p.0) (map paired (take l.pair-index l.pairs))) (kept_columns l.initial.columns.items) (kept_columns l.columns.items)

abbrev pub invariant-keep_values-loop-pair : goal.invariant-keep_values-loop-pair
invariant-keep_values-loop-pair l = AddsCells (shape l.value) l.column (map (λ p. p.1) (map paired (take l.pair-index l.pairs))) (kept_columns l.initial.columns.items) (kept_columns l.columns.items)

-- the fields so far, before those that are left
abbrev pub invariant-keep_fields-loop-place : goal.invariant-keep_fields-loop-place
invariant-keep_fields-loop-place l = FieldsKept l.fields l.parts l.column l.next l.place (kept_columns l.initial.columns.items) (kept_columns l.columns.items)

abbrev pub decreases-keep_cell : goal.decreases-keep_cell
decreases-keep_cell l = 2 * width (shape l.tree.now)

abbrev pub decreases-keep_elements : goal.decreases-keep_elements
decreases-keep_elements l = 2 * width (shape l.element.now) + 1

abbrev pub decreases-keep_fields : goal.decreases-keep_fields
decreases-keep_fields l = 2 * widths (fields l.fields.now) + 1

abbrev pub decreases-keep_keys : goal.decreases-keep_keys
decreases-keep_keys l = 2 * width (shape l.key.now) + 1

abbrev pub decreases-keep_values : goal.decreases-keep_values
decreases-keep_values l = 2 * width (shape l.value.now) + 1

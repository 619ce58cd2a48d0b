use Rattle.std.proofs.Common.{◌+◌, ◌*◌, map, take}
use Rattle.orc_values.specs.Shapes.{width, widths}
use Rattle.orc_values.specs.Views.{views, paired, shape, fields}
use Rattle.orc_file_writer.specs.Counting.{CountsCells}
use Rattle.orc_file_writer.proofs.CountSteps.{FieldsCounted}
use Rattle.orc_file_writer.proofs.writer.counting.+counting.Given as goal

-- the columns of the elements have those of the first parts more
abbrev pub invariant-count_elements-loop-part : goal.invariant-count_elements-loop-part
invariant-count_elements-loop-part l = CountsCells (shape l.element) l.column (views (take l.part-index l.parts)) l.initial.counts.items l.counts.items

-- the columns of the keys, or of the values, have those of the first pairs more
abbrev pub invariant-count_keys-loop-pair : goal.invariant-count_keys-loop-pair
invariant-count_keys-loop-pair l = CountsCells (shape l.key) l.column (map (λ p. p.0) (map paired (take l.pair-index l.pairs))) l.initial.counts.items l.counts.items

abbrev pub invariant-count_values-loop-pair : goal.invariant-count_values-loop-pair
invariant-count_values-loop-pair l = CountsCells (shape l.value) l.column (map (λ p. p.1) (map paired (take l.pair-index l.pairs))) l.initial.counts.items l.counts.items

-- the fields so far, before those that are left
abbrev pub invariant-count_fields-loop-place : goal.invariant-count_fields-loop-place
invariant-count_fields-loop-place l = FieldsCounted l.fields l.parts l.column l.next l.place l.initial.counts.items l.counts.items

abbrev pub decreases-count_cell : goal.decreases-count_cell
decreases-count_cell l = 2 * width (shape l.tree.now)

abbrev pub decreases-count_elements : goal.decreases-count_elements
decreases-count_elements l = 2 * width (shape l.element.now) + 1

abbrev pub decreases-count_fields : goal.decreases-count_fields
decreases-count_fields l = 2 * widths (fields l.fields.now) + 1

abbrev pub decreases-count_keys : goal.decreases-count_keys
decreases-count_keys l = 2 * width (shape l.key.now) + 1

abbrev pub decreases-count_values : goal.decreases-count_values
decreases-count_values l = 2 * width (shape l.value.now) + 1

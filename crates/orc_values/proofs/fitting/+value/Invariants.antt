use Rattle.std.proofs.Common.{◌≡◌, ◌+◌, ◌*◌, drop, map}
use Rattle.orc_values.specs.Cells.{cells_of, pairs_of}
use Rattle.orc_values.specs.Views.{views, paired, shape, fields}
use Rattle.orc_values.specs.Fits as spec
use Rattle.orc_values.specs.Shapes.{width, widths}
use Rattle.orc_values.proofs.fitting.+value.Given as goal

-- the rows that are left decide
abbrev pub invariant-all_fit-loop-row : goal.invariant-all_fit-loop-row
invariant-all_fit-loop-row l =
    spec.all_fit (cells_of (views (drop l.row-index l.row-items))) (shape l.tree) ≡ spec.all_fit (cells_of (views l.row-items)) (shape l.tree)

abbrev pub invariant-each_fits-loop-i : goal.invariant-each_fits-loop-i
invariant-each_fits-loop-i l =
    spec.each_fits (cells_of (views (drop l.i l.row-items))) (fields (drop l.i l.fields.items)) ≡ spec.each_fits (cells_of (views l.row-items)) (fields l.fields.items)

abbrev pub invariant-pairs_fit-loop-pair : goal.invariant-pairs_fit-loop-pair
invariant-pairs_fit-loop-pair l =
    spec.pairs_fit (pairs_of (map paired (drop l.pair-index l.pair-items))) (shape l.key) (shape l.value) ≡ spec.pairs_fit (pairs_of (map paired l.pair-items)) (shape l.key) (shape l.value)

-- by the columns of the type: a pair's key and value are no deeper than the map, but their types are narrower
abbrev pub decreases-value_fits : goal.decreases-value_fits
decreases-value_fits l = 3 * width (shape l.tree.now)

abbrev pub decreases-all_fit : goal.decreases-all_fit
decreases-all_fit l = 3 * width (shape l.tree.now) + 1

abbrev pub decreases-key_fits : goal.decreases-key_fits
decreases-key_fits l = 3 * width (shape l.tree.now) + 1

abbrev pub decreases-mapped_fits : goal.decreases-mapped_fits
decreases-mapped_fits l = 3 * width (shape l.tree.now) + 1

abbrev pub decreases-pairs_fit : goal.decreases-pairs_fit
decreases-pairs_fit l = 3 * (width (shape l.key.now) + width (shape l.value.now)) + 1

abbrev pub decreases-each_fits : goal.decreases-each_fits
decreases-each_fits l = 3 * widths (fields l.fields.now.items) + 1

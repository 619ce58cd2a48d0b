use Rattle.std.proofs.Common.{◌≡◌, ℕ, Bool, map, ◌+◌, ◌*◌, ◌-◌, length}
use Rattle.orc_values.specs.Shapes.{width, widths}
use Rattle.orc_values.specs.Views.{views, paired, shape, fields as fields_view}
use Rattle.orc_column_reader.specs.Fronts.{Leaves}
use Rattle.orc_column_reader.specs.Columns.{CellsLeft, PairsLeft}
use Rattle.orc_directory.specs.declared.fault.StripeFault.{StripeFault}
use Rattle.orc_column_reader.specs.ReaderFaults.{CellsMeet, PairsMeet}
use Rattle.orc_row_reader.proofs.reader.+reader.Given as goal

abbrev pub decreases-next_cell : goal.decreases-next_cell
decreases-next_cell l = 4 * width (shape l.tree.now)

abbrev pub decreases-next_value : goal.decreases-next_value
decreases-next_value l = 4 * width (shape l.tree.now) - 1

abbrev pub decreases-next_list : goal.decreases-next_list
decreases-next_list l = 4 * width (shape l.element.now) + 2

abbrev pub decreases-next_cells : goal.decreases-next_cells
decreases-next_cells l = 4 * width (shape l.tree.now) + 1

abbrev pub decreases-next_map : goal.decreases-next_map
decreases-next_map l = 4 * (width (shape l.key.now) + width (shape l.value.now)) + 2

abbrev pub decreases-next_pairs : goal.decreases-next_pairs
decreases-next_pairs l = 4 * (width (shape l.key.now) + width (shape l.value.now)) + 1

abbrev pub decreases-next_pair : goal.decreases-next_pair
decreases-next_pair l = 4 * (width (shape l.key.now) + width (shape l.value.now))

abbrev pub decreases-next_fields : goal.decreases-next_fields
decreases-next_fields l = 4 * widths (fields_view l.fields.now) + 2

-- those that were taken are in front of what was there
abbrev pub invariant-next_cells-loop-taken : goal.invariant-next_cells-loop-taken
invariant-next_cells-loop-taken l =
    Leaves (CellsLeft (shape l.tree) l.initial.readers) (CellsLeft (shape l.tree) l.readers) (views l.rows.items)
    × (length (views l.rows.items) ≡ l.taken) × (length l.readers ≡ width (shape l.tree))
    × ((all : Bool) (n : ℕ) (f : StripeFault) → CellsMeet (shape l.tree) l.readers all n f → CellsMeet (shape l.tree) l.initial.readers all (l.taken + n) f)

abbrev pub invariant-next_pairs-loop-taken : goal.invariant-next_pairs-loop-taken
invariant-next_pairs-loop-taken l =
    Leaves (PairsLeft (shape l.key) (shape l.value) l.initial.readers) (PairsLeft (shape l.key) (shape l.value) l.readers) (map paired l.pairs.items)
    × (length (map paired l.pairs.items) ≡ l.taken) × (length l.readers ≡ width (shape l.key) + width (shape l.value))
    × ((all : Bool) (n : ℕ) (f : StripeFault) → PairsMeet (shape l.key) (shape l.value) l.readers all n f → PairsMeet (shape l.key) (shape l.value) l.initial.readers all (l.taken + n) f)

use Rattle.std.proofs.Common.{◌≡◌, ℕ, Bool, ◌+◌, ◌*◌, ◌-◌, drop, length}
use Rattle.orc_values.specs.Shapes.{width, widths}
use Rattle.orc_values.specs.Views.{shape, fields as fields_view}
use Rattle.orc_column_reader.specs.Columns.{CellsLeft, PairsLeft}
use Rattle.orc_directory.specs.declared.fault.StripeFault.{StripeFault}
use Rattle.orc_column_reader.specs.ReaderFaults.{CellsMeet, PairsMeet}
use Rattle.orc_json_printer.specs.LaidOut.{AreMembersOf}
use Rattle.orc_json_printer.specs.Layouts.{text_by, member_parts, pair_text, pair_texts}
use Rattle.orc_column_text.proofs.AnyOrder.{Reading}
use Rattle.orc_column_text.proofs.Taken.{PrintedSoFar}
use Rattle.orc_column_text.proofs.cells.+cells.Given as goal

abbrev pub decreases-push_cell : goal.decreases-push_cell
decreases-push_cell g l = 4 * width (shape l.tree.now)

abbrev pub decreases-push_value : goal.decreases-push_value
decreases-push_value g l = 4 * width (shape l.tree.now) - 1

abbrev pub decreases-push_list : goal.decreases-push_list
decreases-push_list g l = 4 * width (shape l.element.now) + 2

abbrev pub decreases-push_cells : goal.decreases-push_cells
decreases-push_cells g l = 4 * width (shape l.tree.now) + 1

abbrev pub decreases-push_members : goal.decreases-push_members
decreases-push_members g l = 4 * widths (fields_view l.fields.now.items) + 2

abbrev pub decreases-push_member : goal.decreases-push_member
decreases-push_member g l = 4 * widths (fields_view l.fields.now.items) + 1

-- some members are printed, and those that are left make the text whole
abbrev pub invariant-push_members-loop-member : goal.invariant-push_members-loop-member
invariant-push_members-loop-member g l = record {
  reading : Reading g.T.TextOutput.holds (fields_view l.fields.items) l.initial.readers l.readers (member_parts l.members) (member_parts (drop l.member-index l.members)) l.initial.out l.out;
  own : AreMembersOf l.columns.items l.member-index (member_parts (drop l.member-index l.members));
}

-- those that were taken are in front of what was there, and their text is behind it
abbrev pub invariant-push_cells-loop-taken : goal.invariant-push_cells-loop-taken
invariant-push_cells-loop-taken g l = record {
  passed : PrintedSoFar g.T.TextOutput.holds (CellsLeft (shape l.tree) l.initial.readers) (CellsLeft (shape l.tree) l.readers) (text_by l.layout) l.later l.taken l.initial.out l.out;
  counted : length l.readers ≡ width (shape l.tree);
  before : (all : Bool) (n : ℕ) (f : StripeFault) → CellsMeet (shape l.tree) l.readers all n f → CellsMeet (shape l.tree) l.initial.readers all (l.taken + n) f;
}

abbrev pub decreases-push_map : goal.decreases-push_map
decreases-push_map g l = 4 * (width (shape l.key.now) + width (shape l.value.now)) + 2

abbrev pub decreases-push_pairs : goal.decreases-push_pairs
decreases-push_pairs g l = 4 * (width (shape l.key.now) + width (shape l.value.now)) + 1

abbrev pub decreases-push_pair : goal.decreases-push_pair
decreases-push_pair g l = 4 * (width (shape l.key.now) + width (shape l.value.now))

abbrev pub invariant-push_pairs-loop-taken : goal.invariant-push_pairs-loop-taken
invariant-push_pairs-loop-taken g l = record {
  passed : PrintedSoFar g.T.TextOutput.holds (PairsLeft (shape l.key) (shape l.value) l.initial.readers) (PairsLeft (shape l.key) (shape l.value) l.readers) (pair_text (pair_texts l.layouts)) l.later l.taken l.initial.out l.out;
  counted : length l.readers ≡ width (shape l.key) + width (shape l.value);
  before : (all : Bool) (n : ℕ) (f : StripeFault) → PairsMeet (shape l.key) (shape l.value) l.readers all n f → PairsMeet (shape l.key) (shape l.value) l.initial.readers all (l.taken + n) f;
}

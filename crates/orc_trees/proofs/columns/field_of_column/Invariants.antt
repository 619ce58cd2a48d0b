use Rattle.std.proofs.Common.{ℕ, ◌+◌, ◌≤◌, drop}
use Rattle.orc_values.specs.Shapes.{widths}
use Rattle.orc_values.specs.Columns.{IsLocated}
use Rattle.orc_values.specs.Views.{fields}
use Rattle.orc_trees.proofs.columns.field_of_column.Given as goal

-- what is located in the fields that are left is located in all of them
abbrev pub invariant-loop-i : goal.invariant-loop-i
invariant-loop-i l = record {
  found : (j d : ℕ) → IsLocated (fields (drop l.i l.field-items)) l.left j d → IsLocated (fields l.field-items) l.column (l.i + j) d;
  past : widths (fields (drop l.i l.field-items)) ≤ l.left → widths (fields l.field-items) ≤ l.column;
}

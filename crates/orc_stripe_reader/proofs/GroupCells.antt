-- The cells of a column, group after group of rows.
use Rattle.std.proofs.Common.{◌≡◌, ℕ, ◌+◌, ◌-◌, ◌≤◌, List, ◌++◌, length, take, drop, ap, ◌∙◌, subst, arith, length-append}
use Rattle.std.proofs.Math.Seq.{take-add}
use Rattle.std.proofs.lemmas.List.{take_all}
use Rattle.orc_values.specs.Cells.{Cell}
use Rattle.orc_values.specs.Columns.{cells}
use Rattle.orc_values.specs.Shapes.{Shape}
use Rattle.orc_values.proofs.Together.{cells-append}
use Rattle.orc_row_groups.specs.Bounds.{AreBounds}
use Rattle.orc_row_groups.proofs.Groups.{bounds_map}
use Rattle.orc_row_groups.specs.Groups.{cells_before, bounds_of}

-- a longer front of rows has the cells of a shorter one, and those of the rows between
cells_between : (s : Shape) (c : ℕ) (rows : List Cell) (at start : ℕ) → at ≤ start → cells s c (take start rows) ≡ cells s c (take at rows) ++ cells s c (take (start - at) (drop at rows))
cells_between s c rows at start le =
    let sum : start ≡ at + (start - at) = omega (arith, le) in
    ap (λ (n : ℕ). cells s c (take n rows)) sum ∙ ap (cells s c) (take-add at (start - at) rows) ∙ cells-append s c (take at rows) (take (start - at) (drop at rows))

cells_rise : (s : Shape) (c : ℕ) (rows : List Cell) (a b : ℕ) → a ≤ b → cells_before s c rows a ≤ cells_before s c rows b
cells_rise s c rows a b le = omega (arith, ap length (cells_between s c rows a b le), length-append (cells s c (take a rows)) (cells s c (take (b - a) (drop a rows))))

whole_rows : (s : Shape) (c : ℕ) (rows : List Cell) → cells s c (take (length rows) rows) ≡ cells s c rows
whole_rows s c rows = ap (cells s c) (take_all (length rows) rows (omega arith))

-- the rows before groups are bounds, and so are the cells before them
pub column_bounds : (s : Shape) (c : ℕ) (rows : List Cell) (firsts : List ℕ) → AreBounds (length rows) firsts → AreBounds (length (cells s c rows)) (bounds_of s c rows firsts)
column_bounds s c rows firsts h =
    subst (λ (n : ℕ). AreBounds n (bounds_of s c rows firsts)) (ap length (whole_rows s c rows)) (bounds_map (cells_before s c rows) (cells_rise s c rows) (length rows) firsts h)

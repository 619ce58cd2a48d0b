-- What one column has before each row group, counted on the path from the root down to the column (this project's; ORC
-- specification, "Row Group Index", "Types": columns are numbered in pre-order).
use Rattle.std.specs.Prelude.{◌≡◌, ℕ, ◌+◌, ◌<◌, ◌≤◌, List, length}
use Rattle.orc_values.specs.Cells.{Cell, values}
use Rattle.orc_values.specs.Columns.{cells}
use Rattle.orc_values.specs.Shapes.{Shape, Fields, width, widths}
use Rattle.orc_column_reader.specs.Stripe.{Streams, SpellRows}
use Rattle.orc_values.specs.Limits.{cell_limit}
use Rattle.orc_directory.specs.declared.fault.StripeFault.{StripeFault}
use Rattle.orc_directory.specs.declared.fault.StripeFault.TheVariants as fault
use Rattle.orc_row_groups.specs.Bounds.{AreBounds, bound_at}
use Rattle.orc_row_groups.specs.declared.counts.Counts.{Counts}
use Rattle.orc_column_walk.specs.ColumnFound.{bounds_below}
use Rattle.orc_column_walk.specs.OwnLeft.{children}
use Rattle.orc_row_index_check.specs.CountedBefore.{AreCountedBefore}
use Rattle.orc_row_groups.specs.Groups.{starts_of_groups, bounds_of, AreGroupsFrom, AreFieldGroupsFrom}
use Rattle.orc_row_groups.specs.Subtrees.{AreColumnsFrom, AreFieldsFrom, FieldsFit}
use Rattle.orc_stripe_reader.specs.Opened.{Opened}
use Rattle.orc_stripe_reader.specs.declared.groups.CellGroups.{CellGroups}

-- A column doesn't have more cells than a column of a stripe may have. The first group begins at the first cell, and no
-- group begins before the group in front of it.
pub record AreGrouped (groups : CellGroups) : Type 0 where
  pub few : groups.count < cell_limit
  pub ascending : AreBounds groups.count groups.bounds.items
  pub first : bound_at groups.count groups.bounds.items 0 ≡ 0

-- Columns x of a type s spell rows. The columns from number c on are the columns of a type t over the cells `here` of
-- the rows. `groups` has the number of these cells and how many of them come before each group; `firsts` has how many
-- rows come before each group.
pub record ComesNext (s : Shape) (x : ℕ → Streams) (count : ℕ) (rows : List Cell) (firsts : List ℕ) (c : ℕ) (t : Shape)
    (here : List Cell) (groups : CellGroups) : Type 0 where
  pub spelled : SpellRows s x count rows
  pub within : c + width t ≤ width s
  pub counted : length here ≡ groups.count
  pub columns : AreColumnsFrom s rows c t here
  pub bounded : AreGroupsFrom s rows firsts c t here groups.bounds.items

-- Columns x of a type s spell rows. The columns from number c on are the columns of the fields fs over `structs`.
-- `groups` has the number of these structs and how many of them come before each group.
pub record FieldsComeNext (s : Shape) (x : ℕ → Streams) (count : ℕ) (rows : List Cell) (firsts : List ℕ) (c : ℕ)
    (fs : Fields) (structs : List (List Cell)) (groups : CellGroups) : Type 0 where
  pub spelled : SpellRows s x count rows
  pub within : c + widths fs ≤ width s
  pub counted : length structs ≡ groups.count
  pub fit : FieldsFit fs structs
  pub columns : AreFieldsFrom s rows c fs structs
  pub bounded : AreFieldGroupsFrom s rows firsts c fs structs groups.bounds.items

-- `below` has the number of children of a column's cells, and how many children come before each group
abbrev pub AreGroupsBelow : Shape → List Cell → CellGroups → CellGroups → Type 0
AreGroupsBelow t here groups below =
    (below.count ≡ children t (values here))
    × (below.bounds.items ≡ bounds_below t here groups.bounds.items)

-- `below` counts the children of column c, whatever rows the columns spell
abbrev pub Leads : (ℕ → Streams) → ℕ → Shape → CellGroups → CellGroups → Type 0
Leads x c t groups below =
    (s : Shape) (count : ℕ) (rows : List Cell) (firsts : List ℕ) (here : List Cell)
    → ComesNext s x count rows firsts c t here groups → AreGroupsBelow t here groups below

-- a statement holds for all rows that the columns spell, if the columns of type t from number c on have these groups
abbrev pub InRows : (Shape → List Cell → List ℕ → Type 0) → (ℕ → Streams) → ℕ → Shape → CellGroups → Type 0
InRows so x c t groups =
    (s : Shape) (count : ℕ) (rows : List Cell) (firsts : List ℕ) (here : List Cell)
    → ComesNext s x count rows firsts c t here groups → so s rows firsts

-- a statement holds for all rows that the columns spell, if the columns of the fields fs from number c on have these
-- groups
abbrev pub InStructs : (Shape → List Cell → List ℕ → Type 0) → (ℕ → Streams) → ℕ → Fields → CellGroups → Type 0
InStructs so x c fs groups =
    (s : Shape) (count : ℕ) (rows : List Cell) (firsts : List ℕ) (structs : List (List Cell))
    → FieldsComeNext s x count rows firsts c fs structs groups → so s rows firsts

-- the counts are those of a column's cells in the rows before each group
abbrev pub AreCountedOver : ℕ → List Counts → Shape → List Cell → List ℕ → Type 0
AreCountedOver column counts s rows firsts =
    AreCountedBefore counts (cells s column rows) (bounds_of s column rows firsts) (length firsts)

-- the counts are those of the column in all rows that the columns spell
abbrev pub AreCountedIn : (ℕ → Streams) → ℕ → Shape → CellGroups → ℕ → List Counts → Type 0
AreCountedIn x c t groups column counts = InRows (AreCountedOver column counts) x c t groups

-- the counts are those of a column of structs' fields, in all rows that the columns spell
abbrev pub AreCountedWithin : (ℕ → Streams) → ℕ → Fields → CellGroups → ℕ → List Counts → Type 0
AreCountedWithin x c fs groups column counts = InStructs (AreCountedOver column counts) x c fs groups

-- if the columns spell rows, the fault is want of memory
abbrev pub IsMemoryIn : (ℕ → Streams) → ℕ → Shape → CellGroups → StripeFault → Type 0
IsMemoryIn x c t groups f = InRows (λ s rows firsts. f ≡ fault.OutOfMemory) x c t groups

-- if the columns spell rows with these fields, the fault is want of memory
abbrev pub IsMemoryWithin : (ℕ → Streams) → ℕ → Fields → CellGroups → StripeFault → Type 0
IsMemoryWithin x c fs groups f = InStructs (λ s rows firsts. f ≡ fault.OutOfMemory) x c fs groups

-- the counts are those of a column in a stripe's rows before each group of its row index
abbrev pub AreCountedOf : Opened → List Cell → ℕ → List Counts → Type 0
AreCountedOf view rows column counts = AreCountedOver column counts view.schema rows (starts_of_groups view.stride (length rows))

-- A stripe's columns, which are checked one after the other, each from its own streams, without making rows (this
-- project's; ORC specification, "Types": columns are numbered in pre-order).
use Rattle.std.specs.Prelude.{◌≡◌, ℕ, ◌+◌, ◌<◌, Some, List, length, slice_get}
use Rattle.orc_values.specs.Cells.{Cell, values}
use Rattle.orc_values.specs.Columns.{cells}
use Rattle.orc_values.specs.Shapes.{Shape, Fields, width, widths, shape_at}
use Rattle.orc_stats.specs.Kinds.{kind_of}
use Rattle.orc_stats.specs.Statistics.{stat}
use Rattle.orc_stats.specs.declared.stat.Stat.{Stat}
use Rattle.orc_directory.specs.Located.{AreLocated}
use Rattle.orc_column_reader.specs.Stripe.{SpellRows, columns_of}
use Rattle.orc_values.specs.Limits.{cell_limit}
use Rattle.orc_row_groups.specs.Bounds.{AreBounds, bound_at}
use Rattle.orc_column_walk.specs.ColumnFound.{IsGroupFound, bounds_below}
use Rattle.orc_column_walk.specs.OwnLeft.{children}
use Rattle.orc_column_walk.specs.declared.found.GroupFound.{GroupFound}
use Rattle.orc_column_walk.specs.declared.found.ColumnFound.{ColumnFound}
use Rattle.orc_row_groups.specs.Groups.{starts_of_groups, bounds_of, AreGroupsFrom, AreFieldGroupsFrom}
use Rattle.orc_row_groups.specs.Subtrees.{AreColumnsFrom, AreFieldsFrom, FieldsFit}
use Rattle.orc_stripe_reader.specs.IndexTexts.{AreIndexTexts}
use Rattle.orc_stripe_reader.specs.Opened.{Opened}
use Rattle.orc_check.specs.declared.finding.Finding.{Finding}
use Rattle.orc_check.specs.declared.columns.CellGroups.{CellGroups}
use Rattle.orc_check.specs.declared.open_stripe.OpenStripe.{OpenStripe}
use Rattle.orc_check.specs.Checking.{HaveKnown}
use Rattle.orc_check.specs.Findings.{AddsFindings, OfEach, OfColumn}
use Rattle.orc_check.specs.Needed.{MayBeWhole, NeedGroups}

-- each column has an encoding, and its streams and the bytes of its row index are located
pub record HasStripeParts (stripe : OpenStripe) : Type 0 where
  pub columns : length stripe.view.now.footer.columns ≡ width stripe.view.now.schema
  pub same : stripe.located.bytes.now ≡ stripe.view.now.bytes
  pub located : AreLocated (length stripe.view.now.footer.columns) stripe.view.now.footer.streams
      stripe.located.bytes.now stripe.located.slices.items
  pub indexes : AreIndexTexts (width stripe.view.now.schema) stripe.view.now.footer.streams
      stripe.view.now.bytes stripe.texts.items

-- A column doesn't have more cells than a column of a stripe may have. The first group begins at the first cell, and no
-- group begins before the group in front of it.
pub record AreGrouped (groups : CellGroups) : Type 0 where
  pub few : groups.count < cell_limit
  pub ascending : AreBounds groups.count groups.bounds.items
  pub first : bound_at groups.count groups.bounds.items 0 ≡ 0

-- the stripe's columns spell these rows
abbrev pub SpellsRows : Opened → List Cell → Type 0
SpellsRows view rows = SpellRows view.schema (columns_of view.footer view.bytes) view.info.number_of_rows rows

-- The columns from number c on are the columns of a type t over the cells `here` of the rows. `groups` has the number
-- of these cells and, if the groups of one of these columns are needed, how many of the cells come before each group.
pub record ComesNext (view : Opened) (rows : List Cell) (c : ℕ) (t : Shape) (here : List Cell)
    (groups : CellGroups) : Type 0 where
  pub spelled : SpellsRows view rows
  pub counted : length here ≡ groups.count
  pub columns : AreColumnsFrom view.schema rows c t here
  pub bounded : NeedGroups view c (c + width t)
      → AreGroupsFrom view.schema rows (starts_of_groups view.stride (length rows)) c t here groups.bounds.items

-- The columns from number c on are the columns of the fields fs over `structs`. `groups` has the number of these
-- structs and, if the groups of one of these columns are needed, how many of the structs come before each group.
pub record FieldsComeNext (view : Opened) (rows : List Cell) (c : ℕ) (fs : Fields) (structs : List (List Cell))
    (groups : CellGroups) : Type 0 where
  pub spelled : SpellsRows view rows
  pub counted : length structs ≡ groups.count
  pub fit : FieldsFit fs structs
  pub columns : AreFieldsFrom view.schema rows c fs structs
  pub bounded : NeedGroups view c (c + widths fs)
      → AreFieldGroupsFrom view.schema rows (starts_of_groups view.stride (length rows)) c fs structs groups.bounds.items

-- `below` has the number of children of the cells of column c, whose type is t, and, if the groups of this column or of
-- one below it are needed, how many children come before each group.
abbrev pub AreChildGroups : Opened → ℕ → Shape → List Cell → CellGroups → CellGroups → Type 0
AreChildGroups view c t column groups below =
    (below.count ≡ children t (values column))
    × (NeedGroups view c (c + width t) → below.bounds.items ≡ bounds_below t column groups.bounds.items)

-- `groups` has for each group what was read of its cells and of those before it
abbrev pub AreGroups : Shape → List Cell → List ℕ → List GroupFound → Type 0
AreGroups s cells bounds groups =
    (g : ℕ) (group : GroupFound) → slice_get groups g ≡ Some group → IsGroupFound s cells bounds g group

-- `groups` has what was read of the groups of column c, whose type is t
pub record AreColumnGroupsFound (view : Opened) (rows : List Cell) (c : ℕ) (t : Shape) (groups : List GroupFound) : Type 0 where
  pub spelled : SpellsRows view rows
  pub type : shape_at view.schema c ≡ t
  pub counted : length groups ≡ length (bounds_of view.schema c rows (starts_of_groups view.stride (length rows)))
  pub ascending : AreBounds (length (cells view.schema c rows))
      (bounds_of view.schema c rows (starts_of_groups view.stride (length rows)))
  pub are : AreGroups t (cells view.schema c rows)
      (bounds_of view.schema c rows (starts_of_groups view.stride (length rows))) groups

-- `found` has what was read of the column: its statistic, and its groups if they are needed
pub record IsFoundInRows (view : Opened) (rows : List Cell) (c : ℕ) (t : Shape) (found : ColumnFound) : Type 0 where
  pub counted : length rows ≡ view.info.number_of_rows
  pub type : shape_at view.schema c ≡ t
  pub stat_is : found.stat ≡ stat (kind_of t) (cells view.schema c rows)
  pub groups : MayBeWhole view c → AreColumnGroupsFound view rows c t found.groups.items

-- The findings of the first n columns are added after those found before, and `stats` are the statistics of their
-- cells, without the element counts that the stored ones don't have.
pub record AreColumnsChecked (view : Opened) (told : List Stat) (number : ℕ) (rows : List Cell) (n : ℕ)
    (before after : List Finding) (stats : List Stat) : Type 0 where
  pub found : AddsFindings (OfEach (OfColumn view told number rows) n) before after
  pub known : HaveKnown view.schema told rows n stats

-- Groups of cells that one column's own streams spell, whatever the columns below it have (this project's; ORC
-- specification, "Row Group Index").
use Rattle.std.specs.Prelude.{◌≡◌, ℕ, List, length}
use Rattle.orc_values.specs.Cells.{Cell}
use Rattle.orc_values.specs.Shapes.{Shape}
use Rattle.orc_column_reader.specs.Stripe.{Streams, IsColumn}
use Rattle.orc_row_groups.specs.Bounds.{AreBounds}
use Rattle.orc_column_walk.specs.declared.found.GroupFound.{GroupFound}
use Rattle.orc_check.specs.Walking.{AreGroups}

-- the streams spell these cells, and `groups` has what was read of each of their groups
pub record AreGroupsOf (s : Shape) (x : Streams) (cells : List Cell) (bounds : List ℕ)
    (groups : List GroupFound) : Type 0 where
  pub column : IsColumn s x cells
  pub ascending : AreBounds (length cells) bounds
  pub counted : length groups ≡ length bounds
  pub are : AreGroups s cells bounds groups

-- the streams spell some cells, and `groups` has what was read of each of their groups
abbrev pub HaveCells : Shape → Streams → List GroupFound → Type 0
HaveCells s x groups = (cells : List Cell) × (bounds : List ℕ) × AreGroupsOf s x cells bounds groups

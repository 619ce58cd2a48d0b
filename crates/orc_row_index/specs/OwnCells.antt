-- Cells of a column without their children, together with streams that store the cells (ORC specification, "Column
-- Encodings").
use Rattle.std.specs.Prelude.{List}
use Rattle.orc_values.specs.Cells.{Cell}
use Rattle.orc_values.specs.Fits.{RowsFit}
use Rattle.orc_values.specs.Shapes.{Shape}
use Rattle.orc_values.specs.declared.own.Own.{Own}
use Rattle.orc_column_reader.specs.Starting.{AreStreams}
use Rattle.orc_column_reader.specs.Stripe.{Streams, IsColumn}
use Rattle.orc_column_reader.specs.declared.starting.ColumnStreams.{ColumnStreams}
use Rattle.orc_row_groups.specs.OwnCells.{AreOwn}

-- these are the cells without their children; the cells fit the column's type, and its streams store them
pub record AreSpelledOwn (s : Shape) (streams : ColumnStreams) (owns : List Own) (cells : List Cell) : Type 0 where
  pub own : AreOwn owns cells
  pub fit : RowsFit s cells
  pub spelled : (x : Streams) × AreStreams x streams × IsColumn s x cells

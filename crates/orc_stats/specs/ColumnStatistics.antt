-- The statistic of one column of rows (ORC specification, "Column Statistics").
use Rattle.std.specs.Prelude.{ℕ, List}
use Rattle.orc_values.specs.Shapes.{Shape, shape_at}
use Rattle.orc_values.specs.Cells.{Cell}
use Rattle.orc_values.specs.Columns.{cells}
use Rattle.orc_stats.specs.declared.stat.Stat.{Stat}
use Rattle.orc_stats.specs.Kinds.{kind_of}
use Rattle.orc_stats.specs.Statistics.{stat}

-- the statistic of a column's cells
abbrev pub column_stat : Shape → List Cell → ℕ → Stat
column_stat s rows c = stat (kind_of (shape_at s c)) (cells s c rows)

-- The entry of a group in the bytes of a column's row index, as it is written (ORC specification, "Row Group Index").
use Rattle.std.specs.Prelude.{◌≡◌, ℕ, Option, Some, List, [], ◌∷◌}
use Rattle.orc_wire.specs.CanonicalMessages.{row_index_text}
use Rattle.orc_wire.specs.declared.row_index.RowIndexEntry.{RowIndexEntry}
use Rattle.orc_values.specs.Cells.{Cell}
use Rattle.orc_stats.specs.Messages.{message_of}
use Rattle.orc_stats.specs.declared.stat.Stat.{Stat}
use Rattle.orc_row_index.specs.Positions.{ArePositions, writer}
use Rattle.orc_row_index.specs.RunStreams.{RunStream}

-- The canonical text of an index with one entry: the writer's positions after the cells before the group, and a
-- statistic. The text of an index with several entries is that of each, one after the other.
pub record IsEntryText (present : RunStream) (content : Option (List ℕ)) (own : RunStream) (before : List Cell)
    (stat : Stat) (text : List ℕ) : Type 0 where
  pub entry : RowIndexEntry
  pub positions : ArePositions writer present content own before entry.positions
  pub statistics : entry.statistics ≡ Some (message_of stat)
  pub bounded : row_index_text.bounded (record { entries = entry ∷ [] })
  pub text_is : text ≡ row_index_text.text (record { entries = entry ∷ [] })

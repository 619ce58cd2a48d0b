-- What a test keeps of a message that it doesn't read (Protocol Buffers encoding, "Message Structure").
use Rattle.std.specs.Prelude.{◌≡◌}
use Rattle.std.specs.Option.{is_some}
use Rattle.orc_wire.specs.declared.column_stats.ColumnStats.{ColumnStats}
use Rattle.orc_wire.specs.declared.column_stats.SeenStatistics.{SeenStatistics}

-- `seen` says which of the column's statistics are there
pub record SeesStatistics (seen : SeenStatistics) (m : ColumnStats) : Type 0 where
  pub integers : is_some m.int_statistics ≡ seen.int_statistics
  pub strings : is_some m.string_statistics ≡ seen.string_statistics
  pub buckets : is_some m.bucket_statistics ≡ seen.bucket_statistics
  pub dates : is_some m.date_statistics ≡ seen.date_statistics
  pub binary : is_some m.binary_statistics ≡ seen.binary_statistics
  pub collections : is_some m.collection_statistics ≡ seen.collection_statistics

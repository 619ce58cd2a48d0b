-- The messages of ORC (orc_proto.proto), a line a member.
use Rattle.std.specs.Prelude.{ℕ, ◌^◌, List, [], Option, ℤ, Bool, refl}
use Rattle.orc_wire.specs.declared.encoding.Encoding.{Encoding}
use Rattle.orc_wire.specs.declared.stripe_footer.StreamMsg.{StreamMsg}
use Rattle.orc_wire.specs.declared.stripe_footer.StripeFooter.{StripeFooter}
use Rattle.orc_wire.specs.declared.post_script.PostScript.{PostScript}
use Rattle.orc_wire.specs.declared.type_msg.TypeMsg.{TypeMsg}
use Rattle.orc_wire.specs.declared.stripe_info.StripeInfo.{StripeInfo}
use Rattle.orc_wire.specs.declared.stats_records.IntegerStatistics.{IntegerStatistics}
use Rattle.orc_wire.specs.declared.stats_records.StringStatistics.{StringStatistics}
use Rattle.orc_wire.specs.declared.stats_records.BucketStatistics.{BucketStatistics}
use Rattle.orc_wire.specs.declared.stats_records.DateStatistics.{DateStatistics}
use Rattle.orc_wire.specs.declared.stats_records.BinaryStatistics.{BinaryStatistics}
use Rattle.orc_wire.specs.declared.stats_records.CollectionStatistics.{CollectionStatistics}
use Rattle.orc_wire.specs.declared.column_stats.ColumnStats.{ColumnStats}
use Rattle.orc_wire.specs.declared.column_stats.StripeStatistics.{StripeStatistics}
use Rattle.orc_wire.specs.declared.column_stats.Metadata.{Metadata}
use Rattle.orc_wire.specs.declared.row_index.RowIndexEntry.{RowIndexEntry}
use Rattle.orc_wire.specs.declared.row_index.RowIndexMsg.{RowIndexMsg}
use Rattle.orc_wire.specs.declared.footer.UserMetadataItem.{UserMetadataItem}
use Rattle.orc_wire.specs.declared.footer.Footer.{Footer}
use Rattle.orc_wire.specs.Members.{Member, FieldPairs, shaped, ◌and◌}
use Rattle.orc_wire.specs.Kinds.{number_part, small, signed, small_signed, flag, bytes_part, packed, message, kept_from, last, known, every_value, each, only}

-- an encoding as its two numbers
abbrev pub encoding_shape : FieldPairs (ℕ × ℕ) Encoding
encoding_shape = record {
  into = λ m. (m.kind, m.dictionary_size);
  from = λ p. record { kind = p.0; dictionary_size = p.1 };
  there = λ m. refl;
  here = λ p. refl;
}

-- ColumnEncoding: kind 1, dictionarySize 2
abbrev pub encoding : Member Encoding
encoding = shaped encoding_shape (last 0 (small 1) and last 0 (small 2))

-- a stream's line in the directory as its three numbers
abbrev pub stream_shape : FieldPairs (ℕ × (ℕ × ℕ)) StreamMsg
stream_shape = record {
  into = λ m. (m.kind, (m.column, m.length));
  from = λ p. record { kind = p.0; column = p.1.0; length = p.1.1 };
  there = λ m. refl;
  here = λ p. refl;
}

-- Stream: kind 1, column 2, length 3
abbrev pub stream : Member StreamMsg
stream = shaped stream_shape (last 0 (small 1) and last 0 (small 2) and last 0 (number_part 3))

-- a stripe's footer as its two lists
abbrev pub stripe_footer_shape : FieldPairs (List StreamMsg × List Encoding) StripeFooter
stripe_footer_shape = record {
  into = λ m. (m.streams, m.columns);
  from = λ p. record { streams = p.0; columns = p.1 };
  there = λ m. refl;
  here = λ p. refl;
}

-- StripeFooter: streams 1, columns 2
abbrev pub stripe_footer : Member StripeFooter
stripe_footer = shaped stripe_footer_shape (each (message stream 1 1) and each (message encoding 1 2))

-- a postscript as its parts
abbrev pub post_script_shape : FieldPairs (ℕ × (ℕ × (List ℕ × (ℕ × (Option ℕ × List ℕ))))) PostScript
post_script_shape = record {
  into = λ m. (m.footer_length, (m.compression, (m.version, (m.metadata_length, (m.writer_version, m.magic)))));
  from = λ p. record {
    footer_length = p.0;
    compression = p.1.0;
    version = p.1.1.0;
    metadata_length = p.1.1.1.0;
    writer_version = p.1.1.1.1.0;
    magic = p.1.1.1.1.1;
  };
  there = λ m. refl;
  here = λ p. refl;
}

-- PostScript: footerLength 1, compression 2, version 4, metadataLength 5, writerVersion 6, magic 8000
abbrev pub post_script : Member PostScript
post_script = shaped post_script_shape
    (last 0 (number_part 1)
    and last 0 (small 2)
    and every_value (packed (2 ^ 32) 4)
    and last 0 (number_part 5)
    and known (small 6)
    and last [] (bytes_part 8000))

-- a type as its parts
abbrev pub type_shape : FieldPairs (ℕ × (List ℕ × (List (List ℕ) × List ℕ))) TypeMsg
type_shape = record {
  into = λ m. (m.kind, (m.subtypes, (m.field_names, m.kept)));
  from = λ p. record { kind = p.0; subtypes = p.1.0; field_names = p.1.1.0; kept = p.1.1.1 };
  there = λ m. refl;
  here = λ p. refl;
}

-- Type: kind 1, subtypes 2, fieldNames 3; other fields are kept as they are
abbrev pub type_msg : Member TypeMsg
type_msg = shaped type_shape (last 0 (small 1) and every_value (packed (2 ^ 32) 2) and each (bytes_part 3) and every_value (kept_from 4))

-- a stripe's line in the footer as its five numbers
abbrev pub stripe_info_shape : FieldPairs (ℕ × (ℕ × (ℕ × (ℕ × ℕ)))) StripeInfo
stripe_info_shape = record {
  into = λ m. (m.offset, (m.index_length, (m.data_length, (m.footer_length, m.number_of_rows))));
  from = λ p. record { offset = p.0; index_length = p.1.0; data_length = p.1.1.0; footer_length = p.1.1.1.0; number_of_rows = p.1.1.1.1 };
  there = λ m. refl;
  here = λ p. refl;
}

-- StripeInformation: offset 1, indexLength 2, dataLength 3, footerLength 4, numberOfRows 5
abbrev pub stripe_info : Member StripeInfo
stripe_info = shaped stripe_info_shape
    (last 0 (number_part 1)
    and last 0 (number_part 2)
    and last 0 (number_part 3)
    and last 0 (number_part 4)
    and last 0 (number_part 5))

-- the statistics of integers as three numbers that may be known
abbrev pub integer_stats_shape : FieldPairs (Option ℤ × (Option ℤ × Option ℤ)) IntegerStatistics
integer_stats_shape = record {
  into = λ m. (m.minimum, (m.maximum, m.sum));
  from = λ p. record { minimum = p.0; maximum = p.1.0; sum = p.1.1 };
  there = λ m. refl;
  here = λ p. refl;
}

-- IntegerStatistics: minimum 1, maximum 2, sum 3
abbrev pub integer_stats : Member IntegerStatistics
integer_stats = shaped integer_stats_shape (known (signed 1) and known (signed 2) and known (signed 3))

-- the statistics of strings as two texts and a number that may be known
abbrev pub string_stats_shape : FieldPairs (Option (List ℕ) × (Option (List ℕ) × Option ℤ)) StringStatistics
string_stats_shape = record {
  into = λ m. (m.minimum, (m.maximum, m.sum));
  from = λ p. record { minimum = p.0; maximum = p.1.0; sum = p.1.1 };
  there = λ m. refl;
  here = λ p. refl;
}

-- StringStatistics: minimum 1, maximum 2, sum 3
abbrev pub string_stats : Member StringStatistics
string_stats = shaped string_stats_shape (known (bytes_part 1) and known (bytes_part 2) and known (signed 3))

-- the statistics of booleans as a list of counts
abbrev pub bucket_stats_shape : FieldPairs (List ℕ) BucketStatistics
bucket_stats_shape = record {
  into = λ m. m.count;
  from = λ p. record { count = p };
  there = λ m. refl;
  here = λ p. refl;
}

-- BucketStatistics: count 1
abbrev pub bucket_stats : Member BucketStatistics
bucket_stats = shaped bucket_stats_shape (every_value (packed (2 ^ 64) 1))

-- the statistics of dates as two days that may be known
abbrev pub date_stats_shape : FieldPairs (Option ℤ × Option ℤ) DateStatistics
date_stats_shape = record {
  into = λ m. (m.minimum, m.maximum);
  from = λ p. record { minimum = p.0; maximum = p.1 };
  there = λ m. refl;
  here = λ p. refl;
}

-- DateStatistics: minimum 1, maximum 2
abbrev pub date_stats : Member DateStatistics
date_stats = shaped date_stats_shape (known (small_signed 1) and known (small_signed 2))

-- the statistics of byte strings as a number that may be known
abbrev pub binary_stats_shape : FieldPairs (Option ℤ) BinaryStatistics
binary_stats_shape = record {
  into = λ m. m.sum;
  from = λ p. record { sum = p };
  there = λ m. refl;
  here = λ p. refl;
}

-- BinaryStatistics: sum 1
abbrev pub binary_stats : Member BinaryStatistics
binary_stats = shaped binary_stats_shape (known (signed 1))

-- the statistics of lists and maps as three numbers that may be known
abbrev pub collection_stats_shape : FieldPairs (Option ℕ × (Option ℕ × Option ℕ)) CollectionStatistics
collection_stats_shape = record {
  into = λ m. (m.min_children, (m.max_children, m.total_children));
  from = λ p. record { min_children = p.0; max_children = p.1.0; total_children = p.1.1 };
  there = λ m. refl;
  here = λ p. refl;
}

-- CollectionStatistics: minChildren 1, maxChildren 2, totalChildren 3
abbrev pub collection_stats : Member CollectionStatistics
collection_stats = shaped collection_stats_shape (known (number_part 1) and known (number_part 2) and known (number_part 3))

-- a column's statistics as their parts
abbrev pub column_stats_shape : FieldPairs (ℕ × (Option IntegerStatistics × (Option StringStatistics ×
    (Option BucketStatistics × (Option DateStatistics × (Option BinaryStatistics × (Option Bool × Option CollectionStatistics))))))) ColumnStats
column_stats_shape = record {
  into = λ m.
      (m.number_of_values, (m.int_statistics, (m.string_statistics, (m.bucket_statistics, (m.date_statistics, (m.binary_statistics, (m.has_null, m.collection_statistics)))))));
  from = λ p. record {
    number_of_values = p.0;
    int_statistics = p.1.0;
    string_statistics = p.1.1.0;
    bucket_statistics = p.1.1.1.0;
    date_statistics = p.1.1.1.1.0;
    binary_statistics = p.1.1.1.1.1.0;
    has_null = p.1.1.1.1.1.1.0;
    collection_statistics = p.1.1.1.1.1.1.1;
  };
  there = λ m. refl;
  here = λ p. refl;
}

-- ColumnStatistics, with one of the statistics above by the column's kind
abbrev pub column_statistics : Member ColumnStats
column_statistics = shaped column_stats_shape
    (last 0 (number_part 1)
    and only integer_stats 0 2
    and only string_stats 0 4
    and only bucket_stats 0 5
    and only date_stats 0 7
    and only binary_stats 0 8
    and known (flag 10)
    and only collection_stats 0 12)

-- a stripe's statistics as those of its columns
abbrev pub stripe_stats_shape : FieldPairs (List ColumnStats) StripeStatistics
stripe_stats_shape = record {
  into = λ m. m.col_stats;
  from = λ p. record { col_stats = p };
  there = λ m. refl;
  here = λ p. refl;
}

-- StripeStatistics: colStats 1
abbrev pub stripe_stats : Member StripeStatistics
stripe_stats = shaped stripe_stats_shape (each (message column_statistics 0 1))

-- the metadata as the statistics of stripes
abbrev pub metadata_shape : FieldPairs (List StripeStatistics) Metadata
metadata_shape = record {
  into = λ m. m.stripe_stats;
  from = λ p. record { stripe_stats = p };
  there = λ m. refl;
  here = λ p. refl;
}

-- Metadata: stripeStats 1
abbrev pub metadata : Member Metadata
metadata = shaped metadata_shape (each (message stripe_stats 0 1))

-- an entry of a row index as its positions and its statistics
abbrev pub row_index_entry_shape : FieldPairs (List ℕ × Option ColumnStats) RowIndexEntry
row_index_entry_shape = record {
  into = λ m. (m.positions, m.statistics);
  from = λ p. record { positions = p.0; statistics = p.1 };
  there = λ m. refl;
  here = λ p. refl;
}

-- RowIndexEntry: positions 1, statistics 2
abbrev pub row_index_entry : Member RowIndexEntry
row_index_entry = shaped row_index_entry_shape (every_value (packed (2 ^ 64) 1) and only column_statistics 0 2)

-- a row index as its entries
abbrev pub row_index_shape : FieldPairs (List RowIndexEntry) RowIndexMsg
row_index_shape = record {
  into = λ m. m.entries;
  from = λ p. record { entries = p };
  there = λ m. refl;
  here = λ p. refl;
}

-- RowIndex: entry 1
abbrev pub row_index : Member RowIndexMsg
row_index = shaped row_index_shape (each (message row_index_entry 0 1))

-- a pair of user metadata as its name and its value
abbrev pub user_metadata_shape : FieldPairs (List ℕ × List ℕ) UserMetadataItem
user_metadata_shape = record {
  into = λ m. (m.name, m.value);
  from = λ p. record { name = p.0; value = p.1 };
  there = λ m. refl;
  here = λ p. refl;
}

-- UserMetadataItem: name 1, value 2
abbrev pub user_metadata : Member UserMetadataItem
user_metadata = shaped user_metadata_shape (last [] (bytes_part 1) and last [] (bytes_part 2))

-- a footer as its parts
abbrev pub footer_shape : FieldPairs (ℕ × (ℕ × (List StripeInfo × (List TypeMsg × (List UserMetadataItem ×
    (ℕ × (List ColumnStats × (ℕ × (Option ℕ × List ℕ))))))))) Footer
footer_shape = record {
  into = λ m.
      (m.header_length, (m.content_length, (m.stripes, (m.types, (m.metadata, (m.number_of_rows, (m.statistics, (m.row_index_stride, (m.writer, m.kept)))))))));
  from = λ p. record {
    header_length = p.0;
    content_length = p.1.0;
    stripes = p.1.1.0;
    types = p.1.1.1.0;
    metadata = p.1.1.1.1.0;
    number_of_rows = p.1.1.1.1.1.0;
    statistics = p.1.1.1.1.1.1.0;
    row_index_stride = p.1.1.1.1.1.1.1.0;
    writer = p.1.1.1.1.1.1.1.1.0;
    kept = p.1.1.1.1.1.1.1.1.1;
  };
  there = λ m. refl;
  here = λ p. refl;
}

-- Footer: headerLength 1, contentLength 2, stripes 3, types 4, metadata 5, numberOfRows 6, statistics 7,
-- rowIndexStride 8, writer 9; other fields are kept as they are
abbrev pub footer : Member Footer
footer = shaped footer_shape
    (last 0 (number_part 1)
    and last 0 (number_part 2)
    and each (message stripe_info 0 3)
    and each (message type_msg 1 4)
    and each (message user_metadata 0 5)
    and last 0 (number_part 6)
    and each (message column_statistics 0 7)
    and last 0 (small 8)
    and known (small 9)
    and every_value (kept_from 10))

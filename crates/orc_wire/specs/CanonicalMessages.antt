-- The canonical text of each message of ORC (orc_proto.proto), a line a member: which are always
-- written, and which if they are known.
use Rattle.std.specs.Prelude.{ℕ, ◌≡◌, refl, Bool, ◌==◌, ◌||◌}
use Rattle.std.proofs.Common.{inl, inr, lit<, lit≤, ◌⊎◌}
use Rattle.orc_wire.specs.Messages.{encoding, encoding_shape, stream, stream_shape, stripe_footer, stripe_footer_shape, post_script, post_script_shape}
use Rattle.orc_wire.specs.Messages.{type_msg, type_shape, stripe_info, stripe_info_shape, integer_stats, integer_stats_shape, string_stats}
use Rattle.orc_wire.specs.Messages.{string_stats_shape, bucket_stats, bucket_stats_shape, date_stats, date_stats_shape, binary_stats, binary_stats_shape}
use Rattle.orc_wire.specs.Messages.{collection_stats, collection_stats_shape}
use Rattle.orc_wire.specs.Messages.{column_statistics, column_stats_shape, stripe_stats, stripe_stats_shape, metadata, metadata_shape, row_index_entry}
use Rattle.orc_wire.specs.Messages.{row_index_entry_shape, row_index, row_index_shape, user_metadata, user_metadata_shape, footer, footer_shape}
use Rattle.orc_wire.specs.Canonical.{Canonical, both_members, both_if, shaped_text}
use Rattle.orc_wire.specs.CanonicalFields.{IsNumber}
use Rattle.orc_wire.specs.CanonicalKinds.{always_number, always_small, always_text, known_number, known_small, known_signed, known_small_signed, known_flag}
use Rattle.orc_wire.specs.CanonicalKinds.{text_where_known, each_as_text, each_message, small_list, number_list, as_kept, where_shown}
use Rattle.orc_wire.specs.EncodingKinds.{is_dictionary}

pub one : IsNumber 1
one = record { least = lit≤ tt; most = lit< tt }

pub two : IsNumber 2
two = record { least = lit≤ tt; most = lit< tt }

pub three : IsNumber 3
three = record { least = lit≤ tt; most = lit< tt }

pub four : IsNumber 4
four = record { least = lit≤ tt; most = lit< tt }

pub five : IsNumber 5
five = record { least = lit≤ tt; most = lit< tt }

pub six : IsNumber 6
six = record { least = lit≤ tt; most = lit< tt }

pub seven : IsNumber 7
seven = record { least = lit≤ tt; most = lit< tt }

pub eight : IsNumber 8
eight = record { least = lit≤ tt; most = lit< tt }

pub nine : IsNumber 9
nine = record { least = lit≤ tt; most = lit< tt }

pub ten : IsNumber 10
ten = record { least = lit≤ tt; most = lit< tt }

pub twelve : IsNumber 12
twelve = record { least = lit≤ tt; most = lit< tt }

pub eight_thousand : IsNumber 8000
eight_thousand = record { least = lit≤ tt; most = lit< tt }

-- kind; dictionarySize for dictionary kinds
abbrev pub encoding_text : Canonical encoding
encoding_text = shaped_text encoding_shape _
    (both_if _ _ (always_small 1 one) (always_small 2 two) is_dictionary (lit≤ tt))

-- kind, column, length
abbrev pub stream_text : Canonical stream
stream_text = shaped_text stream_shape _ (both_members _ _ (always_small 1 one)
    (both_members _ _ (always_small 2 two) (always_number 3 three) (lit≤ tt)) (lit≤ tt))

-- kind is required of a ColumnEncoding, and always written
abbrev pub encoding_complete : (◌≡◌ {A = ℕ} 1 0) ⊎ encoding_text.always 1
encoding_complete = inr refl

-- kind is required of a Stream, and always written
abbrev pub stream_complete : (◌≡◌ {A = ℕ} 1 0) ⊎ stream_text.always 1
stream_complete = inr (inl refl)

-- streams, columns
abbrev pub stripe_footer_text : Canonical stripe_footer
stripe_footer_text = shaped_text stripe_footer_shape _ (both_members _ _
    (each_message stream stream_text 1 stream_complete 1 one)
    (each_message encoding encoding_text 1 encoding_complete 2 two) (lit≤ tt))

-- footerLength, compression, version, metadataLength, writerVersion if known, magic
abbrev pub post_script_text : Canonical post_script
post_script_text = shaped_text post_script_shape _ (both_members _ _ (always_number 1 one)
    (both_members _ _ (always_small 2 two)
    (both_members _ _ (small_list 4 four)
    (both_members _ _ (always_number 5 five)
    (both_members _ _ (known_small 6 six) (always_text 8000 eight_thousand) (lit≤ tt))
    (lit≤ tt)) (lit≤ tt)) (lit≤ tt)) (lit≤ tt))

-- kind, subtypes, fieldNames, the fields above 3
abbrev pub type_text : Canonical type_msg
type_text = shaped_text type_shape _ (both_members _ _ (always_small 1 one)
    (both_members _ _ (small_list 2 two) (both_members _ _ (each_as_text 3 three) (as_kept 4 four) (lit≤ tt)) (lit≤ tt)) (lit≤ tt))

-- kind is required of a Type, and always written
abbrev pub type_complete : (◌≡◌ {A = ℕ} 1 0) ⊎ type_text.always 1
type_complete = inr (inl refl)

-- no member of StripeFooter is required
abbrev pub stripe_footer_complete : (◌≡◌ {A = ℕ} 0 0) ⊎ stripe_footer_text.always 0
stripe_footer_complete = inl refl

-- no member of PostScript is required
abbrev pub post_script_complete : (◌≡◌ {A = ℕ} 0 0) ⊎ post_script_text.always 0
post_script_complete = inl refl

-- offset, index_length, data_length, footer_length, number_of_rows
abbrev pub stripe_info_text : Canonical stripe_info
stripe_info_text = shaped_text stripe_info_shape _ (both_members _ _ (always_number 1 one)
    (both_members _ _ (always_number 2 two)
    (both_members _ _ (always_number 3 three)
    (both_members _ _ (always_number 4 four) (always_number 5 five) (lit≤ tt))
    (lit≤ tt)) (lit≤ tt)) (lit≤ tt))

-- no member of StripeInformation is required
abbrev pub stripe_info_complete : (◌≡◌ {A = ℕ} 0 0) ⊎ stripe_info_text.always 0
stripe_info_complete = inl refl

-- minimum, maximum, sum
abbrev pub integer_stats_text : Canonical integer_stats
integer_stats_text = shaped_text integer_stats_shape _ (both_members _ _ (known_signed 1 one)
    (both_members _ _ (known_signed 2 two) (known_signed 3 three) (lit≤ tt)) (lit≤ tt))

-- no member of IntegerStatistics is required
abbrev pub integer_stats_complete : (◌≡◌ {A = ℕ} 0 0) ⊎ integer_stats_text.always 0
integer_stats_complete = inl refl

-- minimum, maximum, sum
abbrev pub string_stats_text : Canonical string_stats
string_stats_text = shaped_text string_stats_shape _ (both_members _ _ (text_where_known 1 one)
    (both_members _ _ (text_where_known 2 two) (known_signed 3 three) (lit≤ tt)) (lit≤ tt))

-- no member of StringStatistics is required
abbrev pub string_stats_complete : (◌≡◌ {A = ℕ} 0 0) ⊎ string_stats_text.always 0
string_stats_complete = inl refl

-- count
abbrev pub bucket_stats_text : Canonical bucket_stats
bucket_stats_text = shaped_text bucket_stats_shape _ (number_list 1 one)

-- no member of BucketStatistics is required
abbrev pub bucket_stats_complete : (◌≡◌ {A = ℕ} 0 0) ⊎ bucket_stats_text.always 0
bucket_stats_complete = inl refl

-- minimum, maximum
abbrev pub date_stats_text : Canonical date_stats
date_stats_text = shaped_text date_stats_shape _
    (both_members _ _ (known_small_signed 1 one) (known_small_signed 2 two) (lit≤ tt))

-- no member of DateStatistics is required
abbrev pub date_stats_complete : (◌≡◌ {A = ℕ} 0 0) ⊎ date_stats_text.always 0
date_stats_complete = inl refl

-- sum
abbrev pub binary_stats_text : Canonical binary_stats
binary_stats_text = shaped_text binary_stats_shape _ (known_signed 1 one)

-- no member of BinaryStatistics is required
abbrev pub binary_stats_complete : (◌≡◌ {A = ℕ} 0 0) ⊎ binary_stats_text.always 0
binary_stats_complete = inl refl

-- min_children, max_children, total_children
abbrev pub collection_stats_text : Canonical collection_stats
collection_stats_text = shaped_text collection_stats_shape _ (both_members _ _ (known_number 1 one)
    (both_members _ _ (known_number 2 two) (known_number 3 three) (lit≤ tt)) (lit≤ tt))

-- no member of CollectionStatistics is required
abbrev pub collection_stats_complete : (◌≡◌ {A = ℕ} 0 0) ⊎ collection_stats_text.always 0
collection_stats_complete = inl refl

-- number_of_values, int_statistics, string_statistics, bucket_statistics, date_statistics, binary_statistics, has_null, collection_statistics
abbrev pub column_stats_text : Canonical column_statistics
column_stats_text = shaped_text column_stats_shape _ (both_members _ _ (always_number 1 one)
    (both_members _ _ (where_shown integer_stats integer_stats_text 0 integer_stats_complete 2 two)
    (both_members _ _ (where_shown string_stats string_stats_text 0 string_stats_complete 4 four)
    (both_members _ _ (where_shown bucket_stats bucket_stats_text 0 bucket_stats_complete 5 five)
    (both_members _ _ (where_shown date_stats date_stats_text 0 date_stats_complete 7 seven)
    (both_members _ _ (where_shown binary_stats binary_stats_text 0 binary_stats_complete 8 eight)
    (both_members _ _ (known_flag 10 ten) (where_shown collection_stats collection_stats_text 0 collection_stats_complete 12 twelve) (lit≤ tt))
    (lit≤ tt)) (lit≤ tt)) (lit≤ tt)) (lit≤ tt)) (lit≤ tt)) (lit≤ tt))

-- no member of ColumnStatistics is required
abbrev pub column_stats_complete : (◌≡◌ {A = ℕ} 0 0) ⊎ column_stats_text.always 0
column_stats_complete = inl refl

-- col_stats
abbrev pub stripe_stats_text : Canonical stripe_stats
stripe_stats_text = shaped_text stripe_stats_shape _
    (each_message column_statistics column_stats_text 0 column_stats_complete 1 one)

-- no member of StripeStatistics is required
abbrev pub stripe_stats_complete : (◌≡◌ {A = ℕ} 0 0) ⊎ stripe_stats_text.always 0
stripe_stats_complete = inl refl

-- stripe_stats
abbrev pub metadata_text : Canonical metadata
metadata_text = shaped_text metadata_shape _
    (each_message stripe_stats stripe_stats_text 0 stripe_stats_complete 1 one)

-- no member of Metadata is required
abbrev pub metadata_complete : (◌≡◌ {A = ℕ} 0 0) ⊎ metadata_text.always 0
metadata_complete = inl refl

-- positions, statistics
abbrev pub row_index_entry_text : Canonical row_index_entry
row_index_entry_text = shaped_text row_index_entry_shape _ (both_members _ _ (number_list 1 one)
    (where_shown column_statistics column_stats_text 0 column_stats_complete 2 two) (lit≤ tt))

-- no member of RowIndexEntry is required
abbrev pub row_index_entry_complete : (◌≡◌ {A = ℕ} 0 0) ⊎ row_index_entry_text.always 0
row_index_entry_complete = inl refl

-- entries
abbrev pub row_index_text : Canonical row_index
row_index_text = shaped_text row_index_shape _
    (each_message row_index_entry row_index_entry_text 0 row_index_entry_complete 1 one)

-- no member of RowIndex is required
abbrev pub row_index_complete : (◌≡◌ {A = ℕ} 0 0) ⊎ row_index_text.always 0
row_index_complete = inl refl

-- name, value
abbrev pub user_metadata_text : Canonical user_metadata
user_metadata_text = shaped_text user_metadata_shape _ (both_members _ _ (always_text 1 one) (always_text 2 two) (lit≤ tt))

-- no member of UserMetadataItem is required
abbrev pub user_metadata_complete : (◌≡◌ {A = ℕ} 0 0) ⊎ user_metadata_text.always 0
user_metadata_complete = inl refl

-- header_length, content_length, stripes, types, metadata, number_of_rows, statistics, row_index_stride, writer, kept
abbrev pub footer_text : Canonical footer
footer_text = shaped_text footer_shape _ (both_members _ _ (always_number 1 one)
    (both_members _ _ (always_number 2 two)
    (both_members _ _ (each_message stripe_info stripe_info_text 0 stripe_info_complete 3 three)
    (both_members _ _ (each_message type_msg type_text 1 type_complete 4 four)
    (both_members _ _ (each_message user_metadata user_metadata_text 0 user_metadata_complete 5 five)
    (both_members _ _ (always_number 6 six)
    (both_members _ _ (each_message column_statistics column_stats_text 0 column_stats_complete 7 seven)
    (both_members _ _ (always_small 8 eight)
    (both_members _ _ (known_small 9 nine) (as_kept 10 ten) (lit≤ tt))
    (lit≤ tt)) (lit≤ tt)) (lit≤ tt)) (lit≤ tt)) (lit≤ tt)) (lit≤ tt)) (lit≤ tt)) (lit≤ tt))

-- no member of Footer is required
abbrev pub footer_complete : (◌≡◌ {A = ℕ} 0 0) ⊎ footer_text.always 0
footer_complete = inl refl

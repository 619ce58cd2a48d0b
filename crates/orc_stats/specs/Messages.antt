-- Statistics as messages (orc_proto.proto, ColumnStatistics; which parts are read and written is this project's
-- choice).
use Rattle.std.specs.Prelude.{◌≡◌, ℕ, ◌^◌, nat_le, ◌==◌, ℤ, Bool, true, false, ◌||◌, ◌&&◌, if◌then◌else◌, List, [], ◌∷◌, Option, Some, None}
use Rattle.std.specs.Option.{is_some}
use Rattle.orc_wire.specs.declared.column_stats.ColumnStats.{ColumnStats}
use Rattle.orc_wire.specs.declared.stats_records.IntegerStatistics.{IntegerStatistics}
use Rattle.orc_wire.specs.declared.stats_records.StringStatistics.{StringStatistics}
use Rattle.orc_wire.specs.declared.stats_records.BucketStatistics.{BucketStatistics}
use Rattle.orc_wire.specs.declared.stats_records.DateStatistics.{DateStatistics}
use Rattle.orc_wire.specs.declared.stats_records.BinaryStatistics.{BinaryStatistics}
use Rattle.orc_wire.specs.declared.stats_records.CollectionStatistics.{CollectionStatistics}
use Rattle.orc_stats.specs.declared.kind.StatKind.{StatKind}
use Rattle.orc_stats.specs.declared.kind.StatKind.TheVariants as kind
use Rattle.orc_stats.specs.declared.stat.Stat.{Stat}
use Rattle.orc_stats.specs.declared.stat.Body.{Body}
use Rattle.orc_stats.specs.declared.stat.Body.TheVariants as body
use Rattle.orc_stats.specs.Kinds.{body_is_of}
use Rattle.orc_stats.specs.Joining.{trues_of}

-- the body of a kind in which no part is known
abbrev pub unknown : StatKind → Body
unknown kind.Plain = body.Plain
unknown kind.Ints = body.Ints None None None
unknown kind.Bools = body.Bools None
unknown kind.Dates = body.Dates None None
unknown kind.Texts = body.Texts None None None
unknown kind.Bins = body.Bins None
unknown kind.Children = body.Children None None None

-- the parts that a record of integers stores; without the record none is known
abbrev pub ints_body : Option IntegerStatistics → Body
ints_body None = body.Ints None None None
ints_body (Some r) = body.Ints r.minimum r.maximum r.sum

-- the parts that a record of dates stores; without the record none is known
abbrev pub dates_body : Option DateStatistics → Body
dates_body None = body.Dates None None
dates_body (Some r) = body.Dates r.minimum r.maximum

-- the parts that a record of texts stores; without the record none is known
abbrev pub texts_body : Option StringStatistics → Body
texts_body None = body.Texts None None None
texts_body (Some r) = body.Texts r.minimum r.maximum r.sum

-- the sum that a record of byte strings stores; without the record it is unknown
abbrev pub bins_body : Option BinaryStatistics → Body
bins_body None = body.Bins None
bins_body (Some r) = body.Bins r.sum

-- the numbers of children that a record of lists or maps stores; without the record none is known
abbrev pub children_body : Option CollectionStatistics → Body
children_body None = body.Children None None None
children_body (Some r) = body.Children r.min_children r.max_children r.total_children

-- the first bucket, which is the number of true values
abbrev pub first_bucket : List ℕ → Option ℕ
first_bucket [] = None
first_bucket (n ∷ ns) = Some n

-- the number of true values that a record of booleans stores; without the record it is unknown
abbrev pub bools_body : Option BucketStatistics → Body
bools_body None = body.Bools None
bools_body (Some r) = body.Bools (first_bucket r.count)

-- the body that a message stores for a kind of column; only the record of that kind counts
abbrev pub body_read : StatKind → ColumnStats → Body
body_read kind.Plain m = body.Plain
body_read kind.Ints m = ints_body m.int_statistics
body_read kind.Bools m = bools_body m.bucket_statistics
body_read kind.Dates m = dates_body m.date_statistics
body_read kind.Texts m = texts_body m.string_statistics
body_read kind.Bins m = bins_body m.binary_statistics
body_read kind.Children m = children_body m.collection_statistics

-- the statistic of a column of a kind that a message stores; if it counts no values, its record means nothing
abbrev pub stat_read : StatKind → ColumnStats → Stat
stat_read k m = record {
  count = m.number_of_values;
  nulls = m.has_null;
  body = if m.number_of_values == 0 then unknown k else body_read k m;
}

-- whether a number of true values is within the limit or unknown
abbrev pub few_trues : Option ℕ → Bool
few_trues None = true
few_trues (Some n) = nat_le n (2 ^ 62)

-- whether the count of values and the number of true ones, if it is known, are at most 2^62
abbrev pub in_limits : Stat → Bool
in_limits s = nat_le s.count (2 ^ 62) && few_trues (trues_of s.body)

-- the record of integers; none if no part is known
abbrev pub ints_record : Option ℤ → Option ℤ → Option ℤ → Option IntegerStatistics
ints_record l g s =
    if is_some l || is_some g || is_some s then Some (record { minimum = l; maximum = g; sum = s }) else None

-- the record of dates; none if no part is known
abbrev pub dates_record : Option ℤ → Option ℤ → Option DateStatistics
dates_record l g = if is_some l || is_some g then Some (record { minimum = l; maximum = g }) else None

-- the record of texts; none if no part is known
abbrev pub texts_record : Option (List ℕ) → Option (List ℕ) → Option ℤ → Option StringStatistics
texts_record l g s =
    if is_some l || is_some g || is_some s then Some (record { minimum = l; maximum = g; sum = s }) else None

-- the record of byte strings; none if the sum is unknown
abbrev pub bins_record : Option ℤ → Option BinaryStatistics
bins_record None = None
bins_record (Some s) = Some (record { sum = Some s })

-- the record of lists or maps; none if no part is known
abbrev pub children_record : Option ℕ → Option ℕ → Option ℕ → Option CollectionStatistics
children_record l g t =
    if is_some l || is_some g || is_some t
    then Some (record { min_children = l; max_children = g; total_children = t })
    else None

-- the record of booleans; none if the number of true ones is unknown
abbrev pub bools_record : Option ℕ → Option BucketStatistics
bools_record None = None
bools_record (Some n) = Some (record { count = n ∷ [] })

-- a body's record of integers, if it is one of integers
abbrev pub int_record : Body → Option IntegerStatistics
int_record (body.Ints l g s) = ints_record l g s
int_record _ = None

-- a body's record of dates, if it is one of dates
abbrev pub date_record : Body → Option DateStatistics
date_record (body.Dates l g) = dates_record l g
date_record _ = None

-- a body's record of texts, if it is one of texts
abbrev pub text_record : Body → Option StringStatistics
text_record (body.Texts l g s) = texts_record l g s
text_record _ = None

-- a body's record of booleans, if it is one of booleans
abbrev pub bucket_record : Body → Option BucketStatistics
bucket_record (body.Bools t) = bools_record t
bucket_record _ = None

-- a body's record of byte strings, if it is one of byte strings
abbrev pub bin_record : Body → Option BinaryStatistics
bin_record (body.Bins s) = bins_record s
bin_record _ = None

-- a body's record of numbers of children, if it is one of lists or maps
abbrev pub collection_record : Body → Option CollectionStatistics
collection_record (body.Children l g t) = children_record l g t
collection_record _ = None

-- a statistic as its message (ORC specification, "Column Statistics")
abbrev pub message_of : Stat → ColumnStats
message_of s = record {
  number_of_values = s.count;
  int_statistics = int_record s.body;
  string_statistics = text_record s.body;
  bucket_statistics = bucket_record s.body;
  date_statistics = date_record s.body;
  binary_statistics = bin_record s.body;
  has_null = s.nulls;
  collection_statistics = collection_record s.body;
}

-- whether a body's record takes memory, for a text or for the list of buckets
abbrev pub takes_memory : Body → Bool
takes_memory (body.Bools t) = is_some t
takes_memory (body.Texts l g s) = is_some l || is_some g
takes_memory _ = false

-- a statistic of a column of a kind, within the limits; if it counts no values, no part is known
pub record IsStat (k : StatKind) (s : Stat) : Type 0 where
  pub kind : body_is_of k s.body ≡ true
  pub limits : in_limits s ≡ true
  pub empty : s.count ≡ 0 → s.body ≡ unknown k

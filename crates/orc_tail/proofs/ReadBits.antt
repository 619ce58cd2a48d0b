-- The numbers of a tail that was read have the bits of their fields.
use Rattle.std.specs.Prelude.{ℕ, ◌+◌, ◌==◌, ℤ, Bool, true, false, if◌then◌else◌, List, [], ◌∷◌, Option, Some, None}
use Rattle.std.specs.Option.{IfSome}
use Rattle.std.specs.List.{AllByRecursion}
use Rattle.std.proofs.Common.{sym, subst}
use Rattle.orc_wire.specs.Members.{Member}
use Rattle.orc_wire.specs.Messages.{post_script, footer, metadata}
use Rattle.orc_wire.specs.Spells.{Spells}
use Rattle.orc_wire.specs.Canonical.{Canonical}
use Rattle.orc_wire.specs.CanonicalMessages.{post_script_text, footer_text, metadata_text, column_stats_text, collection_stats_text, stripe_stats_text, integer_stats_text, string_stats_text, bucket_stats_text, date_stats_text, binary_stats_text, type_text}
use Rattle.orc_wire.specs.declared.column_stats.ColumnStats.{ColumnStats}
use Rattle.orc_wire.specs.declared.column_stats.StripeStatistics.{StripeStatistics}
use Rattle.orc_wire.specs.declared.column_stats.Metadata.{Metadata}
use Rattle.orc_wire.specs.declared.footer.Footer.{Footer}
use Rattle.orc_wire.specs.declared.post_script.PostScript.{PostScript}
use Rattle.orc_wire.specs.declared.type_msg.TypeMsg.{TypeMsg}
use Rattle.orc_wire.specs.declared.stats_records.IntegerStatistics.{IntegerStatistics}
use Rattle.orc_wire.specs.declared.stats_records.StringStatistics.{StringStatistics}
use Rattle.orc_wire.specs.declared.stats_records.BucketStatistics.{BucketStatistics}
use Rattle.orc_wire.specs.declared.stats_records.DateStatistics.{DateStatistics}
use Rattle.orc_wire.specs.declared.stats_records.BinaryStatistics.{BinaryStatistics}
use Rattle.orc_wire.specs.declared.stats_records.CollectionStatistics.{CollectionStatistics}
use Rattle.orc_values.specs.Shapes.{Shape}
use Rattle.orc_types.specs.Schemas.{HasTypes}
use Rattle.orc_stats.specs.declared.kind.StatKind.{StatKind}
use Rattle.orc_stats.specs.declared.kind.StatKind.TheVariants as kind
use Rattle.orc_stats.specs.declared.stat.Stat.{Stat}
use Rattle.orc_stats.specs.declared.stat.Body.{Body}
use Rattle.orc_stats.specs.Messages.{unknown, body_read, ints_body, dates_body, texts_body, bins_body, bools_body, children_body, first_bucket, stat_read, message_of}
use Rattle.orc_stats.specs.Messages.{bins_record, bools_record, int_record, text_record, bucket_record, date_record, bin_record, collection_record}
use Rattle.orc_tail.specs.Layout.{footer_bytes, metadata_bytes}
use Rattle.orc_tail.specs.Statistics.{kind_at, stats_read, stripe_stats_read}
use Rattle.orc_tail.specs.Tails.{IsTail, end_tests, footer_tests, metadata_tests, tail_of}
use Rattle.orc_tail.specs.Images.{HasBits}
use Rattle.orc_tail.specs.declared.tail.Tail.{Tail}

-- what a message says that was read
spelled : {C : Type 0} (members : Member C) (w : Canonical members) (text : List ℕ) (c : C) → Spells members 0 0 text c → w.bounded c
spelled members w text c h = w.read 0 h.fields text c h.are h.says

-- the records of a body
abbrev pub BodyBits : Body → Type 0
BodyBits b = IfSome (int_record b) integer_stats_text.bounded
    × (IfSome (text_record b) string_stats_text.bounded
    × (IfSome (bucket_record b) bucket_stats_text.bounded
    × (IfSome (date_record b) date_stats_text.bounded × (IfSome (bin_record b) binary_stats_text.bounded × IfSome (collection_record b) collection_stats_text.bounded))))

pub where_so : {X : Type 0} (P : X → Type 0) (b : Bool) (x : X) → P x → IfSome (if b then Some x else None) P
where_so P true x h = h
where_so P false x h = tt

unknown_bits : (k : StatKind) → BodyBits (unknown k)
unknown_bits kind.Plain = (tt, (tt, (tt, (tt, (tt, tt)))))
unknown_bits kind.Ints = (tt, (tt, (tt, (tt, (tt, tt)))))
unknown_bits kind.Bools = (tt, (tt, (tt, (tt, (tt, tt)))))
unknown_bits kind.Dates = (tt, (tt, (tt, (tt, (tt, tt)))))
unknown_bits kind.Texts = (tt, (tt, (tt, (tt, (tt, tt)))))
unknown_bits kind.Bins = (tt, (tt, (tt, (tt, (tt, tt)))))
unknown_bits kind.Children = (tt, (tt, (tt, (tt, (tt, tt)))))

ints_bits : (o : Option IntegerStatistics) → IfSome o integer_stats_text.bounded → BodyBits (ints_body o)
ints_bits None h = (tt, (tt, (tt, (tt, (tt, tt)))))
ints_bits (Some r) h = (where_so integer_stats_text.bounded _ _ h, (tt, (tt, (tt, (tt, tt)))))

texts_bits : (o : Option StringStatistics) → IfSome o string_stats_text.bounded → BodyBits (texts_body o)
texts_bits None h = (tt, (tt, (tt, (tt, (tt, tt)))))
texts_bits (Some r) h = (tt, (where_so string_stats_text.bounded _ _ h, (tt, (tt, (tt, tt)))))

dates_bits : (o : Option DateStatistics) → IfSome o date_stats_text.bounded → BodyBits (dates_body o)
dates_bits None h = (tt, (tt, (tt, (tt, (tt, tt)))))
dates_bits (Some r) h = (tt, (tt, (tt, (where_so date_stats_text.bounded _ _ h, (tt, tt)))))

sum_bits : (sum : Option ℤ) → binary_stats_text.bounded (record { sum = sum }) → IfSome (bins_record sum) binary_stats_text.bounded
sum_bits None h = tt
sum_bits (Some n) h = h

bins_bits : (o : Option BinaryStatistics) → IfSome o binary_stats_text.bounded → BodyBits (bins_body o)
bins_bits None h = (tt, (tt, (tt, (tt, (tt, tt)))))
bins_bits (Some r) h = (tt, (tt, (tt, (tt, (sum_bits r.sum h, tt)))))

first_bits : (counts : List ℕ) → bucket_stats_text.bounded (record { count = counts }) → IfSome (bools_record (first_bucket counts)) bucket_stats_text.bounded
first_bits [] h = tt
first_bits (n ∷ ns) h = (h.0, tt)

bools_bits : (o : Option BucketStatistics) → IfSome o bucket_stats_text.bounded → BodyBits (bools_body o)
bools_bits None h = (tt, (tt, (tt, (tt, (tt, tt)))))
bools_bits (Some r) h = (tt, (tt, (first_bits r.count h, (tt, (tt, tt)))))

children_bits : (o : Option CollectionStatistics) → IfSome o collection_stats_text.bounded → BodyBits (children_body o)
children_bits None h = (tt, (tt, (tt, (tt, (tt, tt)))))
children_bits (Some r) h = (tt, (tt, (tt, (tt, (tt, where_so collection_stats_text.bounded _ _ h)))))

body_bits : (k : StatKind) (m : ColumnStats) → column_stats_text.bounded m → BodyBits (body_read k m)
body_bits kind.Plain m h = (tt, (tt, (tt, (tt, (tt, tt)))))
body_bits kind.Ints m h = ints_bits m.int_statistics h.1.0
body_bits kind.Texts m h = texts_bits m.string_statistics h.1.1.0
body_bits kind.Bools m h = bools_bits m.bucket_statistics h.1.1.1.0
body_bits kind.Dates m h = dates_bits m.date_statistics h.1.1.1.1.0
body_bits kind.Bins m h = bins_bits m.binary_statistics h.1.1.1.1.1.0
body_bits kind.Children m h = children_bits m.collection_statistics h.1.1.1.1.1.1.1

pub either_bits : (b : Bool) (x y : Body) → BodyBits x → BodyBits y → BodyBits (if b then x else y)
either_bits true x y p q = p
either_bits false x y p q = q

-- a statistic that was read is a message of such numbers again
stat_bits : (k : StatKind) (m : ColumnStats) → column_stats_text.bounded m → column_stats_text.bounded (message_of (stat_read k m))
stat_bits k m h =
    let b = either_bits (m.number_of_values == 0) (unknown k) (body_read k m) (unknown_bits k) (body_bits k m h) in
    (h.0, (b.0, (b.1.0, (b.1.1.0, (b.1.1.1.0, (b.1.1.1.1.0, (h.1.1.1.1.1.1.0, b.1.1.1.1.1)))))))

stats_bits : (s : Shape) (column : ℕ) (ms : List ColumnStats) → AllByRecursion column_stats_text.bounded ms
    → AllByRecursion (λ x. column_stats_text.bounded (message_of x)) (stats_read s column ms)
stats_bits s column [] h = tt
stats_bits s column (m ∷ ms) h = (stat_bits (kind_at s column) m h.0, stats_bits s (column + 1) ms h.1)

stripes_bits : (s : Shape) (ms : List StripeStatistics) → AllByRecursion stripe_stats_text.bounded ms
    → AllByRecursion (AllByRecursion (λ x. column_stats_text.bounded (message_of x))) (stripe_stats_read s ms)
stripes_bits s [] h = tt
stripes_bits s (m ∷ ms) h = (stats_bits s 0 m.col_stats h.0, stripes_bits s ms h.1)

parts_bits : (postscript : PostScript) (f : Footer) (s : Shape) (m : Metadata) → post_script_text.bounded postscript → footer_text.bounded f → HasTypes s f.types → metadata_text.bounded m
    → HasBits (tail_of postscript f s (stats_read s 0 f.statistics, stripe_stats_read s m.stripe_stats))
parts_bits postscript f s m p q types r = record {
  version = p.1.1.0;
  writer = q.1.1.1.1.1.1.1.1.0;
  writer_version = p.1.1.1.1.0;
  stripes = q.1.1.0;
  types = subst (λ (ts : List TypeMsg). AllByRecursion type_text.bounded ts) types.listed q.1.1.1.0;
  user = q.1.1.1.1.0;
  file_stats = stats_bits s 0 f.statistics q.1.1.1.1.1.1.0;
  stripe_stats = stripes_bits s m.stripe_stats r;
  stride = q.1.1.1.1.1.1.1.0;
}

postscript_bits : (bytes : List ℕ) (postscript : PostScript) → (end_tests bytes).finds postscript → post_script_text.bounded postscript
postscript_bits bytes postscript h =
    let found = h.1.1.1 in
    subst (λ (p : PostScript). post_script_text.bounded p) (sym found.2.1.1.1.1) (spelled post_script post_script_text _ found.0 found.1)

footer_bits : (text : List ℕ) (f : Footer × Shape) → (footer_tests text).finds f → footer_text.bounded f.0 × HasTypes f.1 f.0.types
footer_bits text f h =
    subst (λ (p : Footer × Shape). footer_text.bounded p.0 × HasTypes p.1 p.0.types) (sym h.2.1.2.1) (spelled footer footer_text text h.0 h.1, h.2.1.1)

metadata_bits : (text : List ℕ) (f : Footer) (s : Shape) (m : Metadata) → (metadata_tests text f s).finds m → metadata_text.bounded m
metadata_bits text f s m h = subst (λ (n : Metadata). metadata_text.bounded n) (sym h.2.1.1) (spelled metadata metadata_text text h.0 h.1)

pub tail_bits : (bytes : List ℕ) (tail : Tail) → IsTail bytes tail → HasBits tail
tail_bits bytes tail h =
    let postscript = h.0 in let f = h.2.0 in let m = h.2.2.0 in let last = h.2.2.2 in
    let foot = footer_bits (footer_bytes bytes postscript) f h.2.1 in
    let parts = parts_bits postscript f.0 f.1 m (postscript_bits bytes postscript h.1) foot.0 foot.1 (metadata_bits (metadata_bytes bytes postscript) f.0 f.1 m h.2.2.1) in
    subst (λ (t : Tail). HasBits t) (sym last.2)
    (subst (λ (stats : List Stat × List (List Stat)). HasBits (tail_of postscript f.0 f.1 stats)) (sym last.1.1.1.1.2.1.1.1) parts)

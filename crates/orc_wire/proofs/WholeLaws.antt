-- What a canonical text holds, and which is not empty.
use Rattle.std.specs.Prelude.{◌≡◌, ℕ, ◌+◌, ◌*◌, ◌^◌, List, [], ◌∷◌, ◌++◌, ◌⊎◌, Option, Some, None, Bool, true, false, refl}
use Rattle.std.specs.Option.{IfSome, IsSome, option_to_list}
use Rattle.std.specs.List.{AllByRecursion}
use Rattle.std.proofs.Common.{lit≤, sym, subst, inl, inr, arith}
use Rattle.orc_bits.specs.Varint.{IsChain, varint_text}
use Rattle.orc_bits.specs.Zigzag.{zig}
use Rattle.orc_bits.proofs.VarintLemmas.{varint_text-is}
use Rattle.orc_wire.specs.declared.column_stats.ColumnStats.{ColumnStats}
use Rattle.orc_wire.specs.declared.encoding.Encoding.{Encoding}
use Rattle.orc_wire.specs.declared.footer.Footer.{Footer}
use Rattle.orc_wire.specs.declared.footer.UserMetadataItem.{UserMetadataItem}
use Rattle.orc_wire.specs.declared.stats_records.BinaryStatistics.{BinaryStatistics}
use Rattle.orc_wire.specs.declared.stats_records.BucketStatistics.{BucketStatistics}
use Rattle.orc_wire.specs.declared.stats_records.CollectionStatistics.{CollectionStatistics}
use Rattle.orc_wire.specs.declared.stats_records.DateStatistics.{DateStatistics}
use Rattle.orc_wire.specs.declared.stats_records.IntegerStatistics.{IntegerStatistics}
use Rattle.orc_wire.specs.declared.stats_records.StringStatistics.{StringStatistics}
use Rattle.orc_wire.specs.declared.row_index.RowIndexEntry.{RowIndexEntry}
use Rattle.orc_wire.specs.declared.row_index.RowIndexMsg.{RowIndexMsg}
use Rattle.orc_wire.specs.declared.column_stats.Metadata.{Metadata}
use Rattle.orc_wire.specs.declared.column_stats.StripeStatistics.{StripeStatistics}
use Rattle.orc_wire.specs.declared.stripe_footer.StreamMsg.{StreamMsg}
use Rattle.orc_wire.specs.declared.stripe_footer.StripeFooter.{StripeFooter}
use Rattle.orc_wire.specs.declared.stripe_info.StripeInfo.{StripeInfo}
use Rattle.orc_wire.specs.declared.type_msg.TypeMsg.{TypeMsg}
use Rattle.orc_wire.specs.Fields.{Payload, varint, sized, wire, Item}
use Rattle.orc_wire.specs.Spells.{Spells, bytes_of_field}
use Rattle.orc_wire.specs.Parts.{MessageIn}
use Rattle.orc_wire.specs.Kinds.{small, last, each, message}
use Rattle.orc_wire.specs.Messages.{type_msg, footer}
use Rattle.orc_wire.specs.CanonicalText.{payload_text, field_text, known_text, some_text, varints_text}
use Rattle.orc_wire.specs.Canonical.{WholeIf, all_both}
use Rattle.orc_wire.specs.CanonicalFields.{IsNumber, wire_most, some_top, all_top}
use Rattle.orc_wire.specs.CanonicalKinds.{AreBelow, always_small, AreKept, says_kept}
use Rattle.orc_wire.specs.CanonicalMessages.{one, two, three, encoding_text, stream_text, stripe_footer_text, row_index_entry_text, row_index_text, stripe_stats_text, metadata_text, type_text, stripe_info_text, user_metadata_text, footer_text, integer_stats_text, string_stats_text, bucket_stats_text, date_stats_text, binary_stats_text, collection_stats_text, column_stats_text}
use Rattle.orc_wire.specs.EncodingKinds.{is_dictionary}

pub encoding_whole : (test : Bool) (m : Encoding) → (test ≡ false → m.dictionary_size ≡ 0)
    → WholeIf (last 0 (small 1)) (last 0 (small 2)) (always_small 1 one) (always_small 2 two) is_dictionary (lit≤ tt) test (m.kind, m.dictionary_size)
encoding_whole true m h = (tt, tt)
encoding_whole false m h = (tt, h refl)

all_of : {V : Type 0} (P : V → Type 0) → ((v : V) → P v) → (xs : List V) → AllByRecursion P xs
all_of P f [] = tt
all_of P f (x ∷ xs) = (f x, all_of P f xs)

all_turned : {V : Type 0} (P Q : V → Type 0) → ((v : V) → P v → Q v) → (xs : List V) → AllByRecursion P xs → AllByRecursion Q xs
all_turned P Q f [] h = tt
all_turned P Q f (x ∷ xs) h = (f x h.0, all_turned P Q f xs h.1)

shown_if : {V : Type 0} (whole : V → Type 0) (text : V → List ℕ) → ((v : V) → whole v) → (o : Option V) → IfSome o (λ v. text v ≡ [] → ⊥) → IfSome o (λ v. whole v × (text v ≡ [] → ⊥))
shown_if whole text f None h = tt
shown_if whole text f (Some v) h = (f v, h)

type_whole : (m : TypeMsg) → AreKept 4 m.kept → type_text.whole m
type_whole m kept = (tt, (tt, (all_top m.field_names, kept)))

stripe_whole : (m : StripeInfo) → stripe_info_text.whole m
stripe_whole m = (tt, (tt, (tt, (tt, tt))))

stream_whole : (m : StreamMsg) → stream_text.whole m
stream_whole m = (tt, (tt, tt))

pub directory_whole : (m : StripeFooter) → AllByRecursion encoding_text.whole m.columns → stripe_footer_text.whole m
directory_whole m h = (all_of stream_text.whole stream_whole m.streams, h)

pair_whole : (m : UserMetadataItem) → user_metadata_text.whole m
pair_whole m = (tt, tt)

pub footer_whole : (m : Footer) → AllByRecursion (λ t. AreKept 4 t.kept) m.types → AllByRecursion column_stats_text.whole m.statistics → AreKept 10 m.kept → footer_text.whole m
footer_whole m types stats kept = (
  tt,
  (
    tt,
    (
      all_of stripe_info_text.whole stripe_whole m.stripes,
      (all_turned (λ t. AreKept 4 t.kept) type_text.whole type_whole m.types types, (all_of user_metadata_text.whole pair_whole m.metadata, (tt, (stats, (tt, (some_top m.writer, kept)))))),
    ),
  ),
)

pub integer_whole : (m : IntegerStatistics) → integer_stats_text.whole m
integer_whole m = (some_top m.minimum, (some_top m.maximum, some_top m.sum))

pub string_whole : (m : StringStatistics) → string_stats_text.whole m
string_whole m = (some_top m.minimum, (some_top m.maximum, some_top m.sum))

pub bucket_whole : (m : BucketStatistics) → bucket_stats_text.whole m
bucket_whole m = tt

pub date_whole : (m : DateStatistics) → date_stats_text.whole m
date_whole m = (some_top m.minimum, some_top m.maximum)

pub binary_whole : (m : BinaryStatistics) → binary_stats_text.whole m
binary_whole m = some_top m.sum

pub collection_whole : (m : CollectionStatistics) → collection_stats_text.whole m
collection_whole m = (some_top m.min_children, (some_top m.max_children, some_top m.total_children))

pub column_whole : (m : ColumnStats) → IfSome m.int_statistics (λ s. integer_stats_text.text s ≡ [] → ⊥) → IfSome m.string_statistics (λ s. string_stats_text.text s ≡ [] → ⊥) → IfSome m.bucket_statistics (λ s. bucket_stats_text.text s ≡ [] → ⊥)
    → IfSome m.date_statistics (λ s. date_stats_text.text s ≡ [] → ⊥) → IfSome m.binary_statistics (λ s. binary_stats_text.text s ≡ [] → ⊥)
    → IfSome m.collection_statistics (λ s. collection_stats_text.text s ≡ [] → ⊥) → column_stats_text.whole m
column_whole m i s b d y n = (
  tt,
  (
    shown_if integer_stats_text.whole integer_stats_text.text integer_whole m.int_statistics i,
    (
      shown_if string_stats_text.whole string_stats_text.text string_whole m.string_statistics s,
      (
        shown_if bucket_stats_text.whole bucket_stats_text.text bucket_whole m.bucket_statistics b,
        (
          shown_if date_stats_text.whole date_stats_text.text date_whole m.date_statistics d,
          (
            shown_if binary_stats_text.whole binary_stats_text.text binary_whole m.binary_statistics y,
            (some_top m.has_null, shown_if collection_stats_text.whole collection_stats_text.text collection_whole m.collection_statistics n),
          ),
        ),
      ),
    ),
  ),
)

pub stripes_whole : (m : StripeStatistics) → AllByRecursion column_stats_text.whole m.col_stats → stripe_stats_text.whole m
stripes_whole m h = h

pub metadata_whole : (m : Metadata) → AllByRecursion stripe_stats_text.whole m.stripe_stats → metadata_text.whole m
metadata_whole m h = h

pub index_whole : (m : RowIndexMsg) → AllByRecursion row_index_entry_text.whole m.entries → row_index_text.whole m
index_whole m h = h

-- ---- texts that are not empty

chain_not : (a b : List ℕ) → IsChain a → a ++ b ≡ [] → ⊥
chain_not [] b is e = is
chain_not (x ∷ a) b is e = cc

rest_empty : (a b : List ℕ) → a ++ b ≡ [] → b ≡ []
rest_empty [] b e = e
rest_empty (x ∷ a) b e = absurd cc

front_empty : (a b : List ℕ) → a ++ b ≡ [] → a ≡ []
front_empty [] b e = refl
front_empty (x ∷ a) b e = absurd cc

pub field_some : (n : ℕ) (payload : Payload) → IsNumber n → field_text n payload ≡ [] → ⊥
field_some n payload is e =
    let most = is.most in
    let key = varint_text-is (n * 8 + wire payload) (omega (arith, most, wire_most payload)) in
    chain_not (varint_text (n * 8 + wire payload)) (payload_text payload) key.varint.chain e

known_some : {V : Type 0} (payload : V → Payload) (n : ℕ) (o : Option V) → IsNumber n → IsSome o → known_text payload n o ≡ [] → ⊥
known_some payload n None is h e = let t : false ≡ true = h in cc
known_some payload n (Some v) is h e = field_some n (payload v) is e

pub integer_shown : (m : IntegerStatistics) → IsSome m.minimum ⊎ (IsSome m.maximum ⊎ IsSome m.sum) → integer_stats_text.text m ≡ [] → ⊥
integer_shown m h e =
    let a = known_text (λ v. varint (zig v)) 1 m.minimum in
    let b = known_text (λ v. varint (zig v)) 2 m.maximum in
    let c = known_text (λ v. varint (zig v)) 3 m.sum in
    elim h [
      | inl k ↦ known_some (λ v. varint (zig v)) 1 m.minimum one k (front_empty a (b ++ c) e)
      | inr (inl k) ↦ known_some (λ v. varint (zig v)) 2 m.maximum two k (front_empty b c (rest_empty a (b ++ c) e))
      | inr (inr k) ↦ known_some (λ v. varint (zig v)) 3 m.sum three k (rest_empty b c (rest_empty a (b ++ c) e))
    ]

pub string_shown : (m : StringStatistics) → IsSome m.minimum ⊎ (IsSome m.maximum ⊎ IsSome m.sum) → string_stats_text.text m ≡ [] → ⊥
string_shown m h e =
    let a = known_text (λ v. sized v) 1 m.minimum in
    let b = known_text (λ v. sized v) 2 m.maximum in
    let c = known_text (λ v. varint (zig v)) 3 m.sum in
    elim h [
      | inl k ↦ known_some (λ v. sized v) 1 m.minimum one k (front_empty a (b ++ c) e)
      | inr (inl k) ↦ known_some (λ v. sized v) 2 m.maximum two k (front_empty b c (rest_empty a (b ++ c) e))
      | inr (inr k) ↦ known_some (λ v. varint (zig v)) 3 m.sum three k (rest_empty b c (rest_empty a (b ++ c) e))
    ]

pub date_shown : (m : DateStatistics) → IsSome m.minimum ⊎ IsSome m.maximum → date_stats_text.text m ≡ [] → ⊥
date_shown m h e =
    let a = known_text (λ v. varint (zig v)) 1 m.minimum in
    let b = known_text (λ v. varint (zig v)) 2 m.maximum in
    elim h [
      | inl k ↦ known_some (λ v. varint (zig v)) 1 m.minimum one k (front_empty a b e)
      | inr k ↦ known_some (λ v. varint (zig v)) 2 m.maximum two k (rest_empty a b e)
    ]

pub binary_shown : (m : BinaryStatistics) → IsSome m.sum → binary_stats_text.text m ≡ [] → ⊥
binary_shown m h e = known_some (λ v. varint (zig v)) 1 m.sum one h e

pub collection_shown : (m : CollectionStatistics) → IsSome m.min_children ⊎ (IsSome m.max_children ⊎ IsSome m.total_children) → collection_stats_text.text m ≡ [] → ⊥
collection_shown m h e =
    let a = known_text (λ v. varint v) 1 m.min_children in
    let b = known_text (λ v. varint v) 2 m.max_children in
    let c = known_text (λ v. varint v) 3 m.total_children in
    elim h [
      | inl k ↦ known_some (λ v. varint v) 1 m.min_children one k (front_empty a (b ++ c) e)
      | inr (inl k) ↦ known_some (λ v. varint v) 2 m.max_children two k (front_empty b c (rest_empty a (b ++ c) e))
      | inr (inr k) ↦ known_some (λ v. varint v) 3 m.total_children three k (rest_empty b c (rest_empty a (b ++ c) e))
    ]

some_empty : (n : ℕ) (bytes : List ℕ) → IsNumber n → some_text n bytes ≡ [] → bytes ≡ []
some_empty n [] is e = refl
some_empty n (b ∷ bytes) is e = absurd (field_some n (sized (b ∷ bytes)) is e)

numbers_empty : (ns : List ℕ) → AreBelow (2 ^ 64) ns → varints_text ns ≡ [] → ns ≡ []
numbers_empty [] h e = refl
numbers_empty (n ∷ ns) h e = absurd (chain_not (varint_text n) (varints_text ns) (varint_text-is n h.0).varint.chain e)

pub bucket_shown : (m : BucketStatistics) → AreBelow (2 ^ 64) m.count → (m.count ≡ [] → ⊥) → bucket_stats_text.text m ≡ [] → ⊥
bucket_shown m below some e = some (numbers_empty m.count below (some_empty 1 (varints_text m.count) one e))

pub column_shown : (m : ColumnStats) → column_stats_text.text m ≡ [] → ⊥
column_shown m e = field_some 1 (varint m.number_of_values) one (front_empty (field_text 1 (varint m.number_of_values)) _ e)

shown_column : (o : Option ColumnStats) → IfSome o column_stats_text.whole → IfSome o (λ s. column_stats_text.whole s × (column_stats_text.text s ≡ [] → ⊥))
shown_column None h = tt
shown_column (Some s) h = (h, column_shown s)

pub entry_whole : (m : RowIndexEntry) → IfSome m.statistics column_stats_text.whole → row_index_entry_text.whole m
entry_whole m h = (tt, shown_column m.statistics h)

-- ---- what is kept

type_in : (item : Item) (bytes : Option (List ℕ)) (part : Option TypeMsg) → MessageIn type_msg 1 4 item bytes part → AllByRecursion (λ t. AreKept 4 t.kept) (option_to_list part)
type_in item None part e = subst (λ (t : Option TypeMsg). AllByRecursion (λ t. AreKept 4 t.kept) (option_to_list t)) (sym e) tt
type_in item (Some b) part h =
    let is = h.2 in
    subst (λ (t : Option TypeMsg). AllByRecursion (λ t. AreKept 4 t.kept) (option_to_list t)) (sym h.1) (says_kept 4 _ is.fields b h.0.kept is.are is.says.1.1.1, tt)

types_kept : (fields : List Item) (v : List TypeMsg) → (each (message type_msg 1 4)).says fields v → AllByRecursion (λ t. AreKept 4 t.kept) v
types_kept [] v e = subst (λ (t : List TypeMsg). AllByRecursion (λ t. AreKept 4 t.kept) t) (sym e) tt
types_kept (item ∷ before) v h =
    subst (λ (t : List TypeMsg). AllByRecursion (λ t. AreKept 4 t.kept) t) (sym h.4)
    (all_both (λ t. AreKept 4 t.kept) h.0 (option_to_list h.1) (types_kept before h.0 h.2) (type_in item (bytes_of_field 4 item) h.1 h.3))

pub footer_kept : (base : ℕ) (bytes : List ℕ) (m : Footer) → Spells footer 0 base bytes m → AreKept 10 m.kept × AllByRecursion (λ t. AreKept 4 t.kept) m.types
footer_kept base bytes m is = (
  says_kept 10 base is.fields bytes m.kept is.are is.says.1.1.1.1.1.1.1.1.1,
  types_kept is.fields m.types is.says.1.1.1.0,
)

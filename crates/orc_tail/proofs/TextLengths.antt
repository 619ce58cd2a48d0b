-- How long the texts of a tail's messages are at most.
use Rattle.std.proofs.Common.{◌≡◌, ℕ, suc, ◌+◌, ◌*◌, ◌≤◌, ℤ, Bool, List, [], ◌∷◌, ◌++◌, length, map, Option, Some, None, arith, length-append, refl, ap}
use Rattle.std.specs.List.{AllByRecursion}
use Rattle.std.specs.Option.{IfSome}
use Rattle.std.proofs.Math.Nat.{mul-suc, mul-le-mul_left}
use Rattle.orc_bits.specs.Varint.{varint_text}
use Rattle.orc_bits.specs.Zigzag.{zig}
use Rattle.orc_wire.specs.Fields.{varint, sized}
use Rattle.orc_wire.specs.CanonicalText.{number_text, sized_text, some_text, known_text, list_text, shown_text, packed_text, varints_text, flag_number}
use Rattle.orc_wire.specs.CanonicalMessages.{integer_stats_text, string_stats_text, bucket_stats_text, date_stats_text, binary_stats_text, collection_stats_text, column_stats_text}
use Rattle.orc_wire.specs.CanonicalMessages.{stripe_info_text}
use Rattle.orc_wire.specs.declared.stripe_info.StripeInfo.{StripeInfo}
use Rattle.orc_wire.specs.declared.stats_records.IntegerStatistics.{IntegerStatistics}
use Rattle.orc_wire.specs.declared.stats_records.StringStatistics.{StringStatistics}
use Rattle.orc_wire.specs.declared.stats_records.DateStatistics.{DateStatistics}
use Rattle.orc_wire.specs.declared.stats_records.BinaryStatistics.{BinaryStatistics}
use Rattle.orc_wire.specs.declared.stats_records.CollectionStatistics.{CollectionStatistics}
use Rattle.orc_stats.specs.declared.stat.Stat.{Stat}
use Rattle.orc_stats.specs.declared.stat.Body.{Body}
use Rattle.orc_stats.specs.declared.stat.Body.TheVariants as body
use Rattle.orc_stats.specs.Messages.{message_of, int_record, text_record, bucket_record, date_record, bin_record, collection_record}
use Rattle.orc_tail.proofs.ReadBits.{where_so}
use Rattle.orc_bits.proofs.VarintLemmas.{groups_len}

-- ---- fields

varint_most : (n : ℕ) → length (varint_text n) ≤ 10
unfolding varint_text
varint_most n = groups_len 9 n

pub number_most : (n v : ℕ) → length (number_text n v) ≤ 20
number_most n v = omega (arith, length-append (varint_text (n * 8 + 0)) (varint_text v), varint_most (n * 8 + 0), varint_most v)

pub sized_most : (n : ℕ) (bytes : List ℕ) → length (sized_text n bytes) ≤ 20 + length bytes
sized_most n bytes =
    let key = varint_text (n * 8 + 2) in
    omega (arith, length-append key (varint_text (length bytes) ++ bytes), length-append (varint_text (length bytes)) bytes, varint_most (n * 8 + 2), varint_most (length bytes))

some_most : (n : ℕ) (bytes : List ℕ) → length (some_text n bytes) ≤ 20 + length bytes
some_most n [] = omega arith
some_most n (b ∷ bytes) = sized_most n (b ∷ bytes)

pub known_most : {V : Type 0} (f : V → ℕ) (n : ℕ) (o : Option V) → length (known_text (λ v. varint (f v)) n o) ≤ 20
known_most f n None = omega arith
known_most f n (Some v) = number_most n (f v)

known_sized : (n most : ℕ) (o : Option (List ℕ)) → IfSome o (λ t. length t ≤ most) → length (known_text (λ t. sized t) n o) ≤ 20 + most
known_sized n most None h = omega arith
known_sized n most (Some t) h = let l : length t ≤ most = h in omega (arith, l, sized_most n t)

shown_most : {C : Type 0} (inner : C → List ℕ) (n most : ℕ) (o : Option C) → IfSome o (λ c. length (inner c) ≤ most) → length (shown_text inner n o) ≤ 20 + most
shown_most inner n most None h = omega arith
shown_most inner n most (Some c) h = let l : length (inner c) ≤ most = h in omega (arith, l, some_most n (inner c))

pub list_most : {V : Type 0} (inner : V → List ℕ) (n most : ℕ) (vs : List V) → AllByRecursion (λ v. length (inner v) ≤ most) vs
    → length (list_text (λ v. sized (inner v)) n vs) ≤ (20 + most) * length vs
list_most inner n most [] h = omega arith
list_most inner n most (v ∷ vs) h =
    let times : (20 + most) * suc (length vs) ≡ (20 + most) * length vs + (20 + most) = mul-suc (20 + most) (length vs) in
    let one : length (inner v) ≤ most = h.0 in
    let rest = list_most inner n most vs h.1 in
    omega (arith, times, one, rest, sized_most n (inner v), length-append (sized_text n (inner v)) (list_text (λ w. sized (inner w)) n vs))

-- ---- texts one after the other

pub three : (a b c : List ℕ) → length (a ++ (b ++ c)) ≡ length a + (length b + length c)
three a b c = omega (arith, length-append a (b ++ c), length-append b c)

pub five : (a b c d e : List ℕ) → length (a ++ (b ++ (c ++ (d ++ e)))) ≡ length a + (length b + (length c + (length d + length e)))
five a b c d e = omega (arith, length-append a (b ++ (c ++ (d ++ e))), length-append b (c ++ (d ++ e)), three c d e)

pub seven : (a b c d e f g : List ℕ)
    → length (a ++ (b ++ (c ++ (d ++ (e ++ (f ++ g)))))) ≡ length a + (length b + (length c + (length d + (length e + (length f + length g)))))
seven a b c d e f g = omega (arith, length-append a (b ++ (c ++ (d ++ (e ++ (f ++ g))))), length-append b (c ++ (d ++ (e ++ (f ++ g)))), five c d e f g)

-- ---- the records of statistics

ints_most : (r : IntegerStatistics) → length (integer_stats_text.text r) ≤ 60
ints_most r =
    let text = λ (n : ℕ) (o : Option ℤ). known_text (λ z. varint (zig z)) n o in
    omega (arith, three (text 1 r.minimum) (text 2 r.maximum) (text 3 r.sum), known_most zig 1 r.minimum, known_most zig 2 r.maximum, known_most zig 3 r.sum)

texts_most : (most : ℕ) (r : StringStatistics) → IfSome r.minimum (λ t. length t ≤ most) → IfSome r.maximum (λ t. length t ≤ most) → length (string_stats_text.text r) ≤ 60 + 2 * most
texts_most most r p q =
    let text = λ (n : ℕ) (o : Option (List ℕ)). known_text (λ t. sized t) n o in
    omega (
      arith,
      three (text 1 r.minimum) (text 2 r.maximum) (known_text (λ (z : ℤ). varint (zig z)) 3 r.sum),
      known_sized 1 most r.minimum p,
      known_sized 2 most r.maximum q,
      known_most zig 3 r.sum,
    )

bucket_most : (n : ℕ) → length (packed_text 1 (n ∷ [])) ≤ 30
bucket_most n = omega (arith, some_most 1 (varints_text (n ∷ [])), length-append (varint_text n) [], varint_most n)

pub pair_most : (n a b : ℕ) → length (packed_text n (a ∷ b ∷ [])) ≤ 40
pair_most n a b =
    omega (arith, some_most n (varints_text (a ∷ b ∷ [])), length-append (varint_text a) (varint_text b ++ []), length-append (varint_text b) [], varint_most a, varint_most b)

dates_most : (r : DateStatistics) → length (date_stats_text.text r) ≤ 40
dates_most r =
    let text = λ (n : ℕ) (o : Option ℤ). known_text (λ z. varint (zig z)) n o in
    omega (arith, length-append (text 1 r.minimum) (text 2 r.maximum), known_most zig 1 r.minimum, known_most zig 2 r.maximum)

children_most : (r : CollectionStatistics) → length (collection_stats_text.text r) ≤ 60
children_most r =
    let text = λ (n : ℕ) (o : Option ℕ). known_text (λ v. varint v) n o in
    let most = λ (n : ℕ) (o : Option ℕ). known_most (λ (v : ℕ). v) n o in
    omega (arith, three (text 1 r.min_children) (text 2 r.max_children) (text 3 r.total_children), most 1 r.min_children, most 2 r.max_children, most 3 r.total_children)

-- ---- a column's statistic

-- the least and the greatest text have no more bytes than that
abbrev pub HasShortTexts : ℕ → Body → Type 0
HasShortTexts most body.Plain = Unit {0}
HasShortTexts most (body.Ints l g s) = Unit {0}
HasShortTexts most (body.Bools t) = Unit {0}
HasShortTexts most (body.Dates l g) = Unit {0}
HasShortTexts most (body.Texts l g s) = IfSome l (λ t. length t ≤ most) × IfSome g (λ t. length t ≤ most)
HasShortTexts most (body.Bins s) = Unit {0}
HasShortTexts most (body.Children l g t) = Unit {0}

every : {A : Type 0} (P : A → Type 0) (o : Option A) → ((a : A) → P a) → IfSome o P
every P None all = tt
every P (Some a) all = all a

text_record_most : (most : ℕ) (b : Body) → HasShortTexts most b → IfSome (text_record b) (λ r. length (string_stats_text.text r) ≤ 60 + 2 * most)
text_record_most most body.Plain h = tt
text_record_most most (body.Ints l g s) h = tt
text_record_most most (body.Bools t) h = tt
text_record_most most (body.Dates l g) h = tt
text_record_most most (body.Texts l g s) h =
    let r : StringStatistics = record { minimum = l; maximum = g; sum = s } in
    where_so (λ (x : StringStatistics). length (string_stats_text.text x) ≤ 60 + 2 * most) _ r (texts_most most r h.0 h.1)
text_record_most most (body.Bins s) h = tt
text_record_most most (body.Children l g t) h = tt

bucket_record_most : (b : Body) → IfSome (bucket_record b) (λ r. length (bucket_stats_text.text r) ≤ 30)
bucket_record_most body.Plain = tt
bucket_record_most (body.Ints l g s) = tt
bucket_record_most (body.Bools None) = tt
bucket_record_most (body.Bools (Some n)) = bucket_most n
bucket_record_most (body.Dates l g) = tt
bucket_record_most (body.Texts l g s) = tt
bucket_record_most (body.Bins s) = tt
bucket_record_most (body.Children l g t) = tt

pub stat_most : (most : ℕ) (x : Stat) → HasShortTexts most x.body → length (column_stats_text.text (message_of x)) ≤ 430 + 2 * most
stat_most most x h =
    let ints = int_record x.body in let texts = text_record x.body in let buckets = bucket_record x.body in let dates = date_record x.body in let bins = bin_record x.body in
    let nulls = known_text (λ (b : Bool). varint (flag_number b)) 10 x.nulls in let children = collection_record x.body in
    omega (
      arith,
      seven (number_text 1 x.count) (shown_text integer_stats_text.text 2 ints) (shown_text string_stats_text.text 4 texts) (shown_text bucket_stats_text.text 5 buckets)
          (shown_text date_stats_text.text 7 dates) (shown_text binary_stats_text.text 8 bins) (nulls ++ shown_text collection_stats_text.text 12 children),
      length-append nulls (shown_text collection_stats_text.text 12 children),
      number_most 1 x.count,
      shown_most integer_stats_text.text 2 60 ints (every _ ints ints_most),
      shown_most string_stats_text.text 4 (60 + 2 * most) texts (text_record_most most x.body h),
      shown_most bucket_stats_text.text 5 30 buckets (bucket_record_most x.body),
      shown_most date_stats_text.text 7 40 dates (every _ dates dates_most),
      shown_most binary_stats_text.text 8 20 bins (every _ bins (λ (r : BinaryStatistics). known_most zig 1 r.sum)),
      known_most flag_number 10 x.nulls,
      shown_most collection_stats_text.text 12 60 children (every _ children children_most),
    )

all_stats_most : (most : ℕ) (xs : List Stat) → AllByRecursion (λ x. HasShortTexts most x.body) xs
    → AllByRecursion (λ m. length (column_stats_text.text m) ≤ 430 + 2 * most) (map message_of xs)
all_stats_most most [] h = tt
all_stats_most most (x ∷ xs) h = (stat_most most x h.0, all_stats_most most xs h.1)

map_count : {X Y : Type 0} (f : X → Y) (xs : List X) → length (map f xs) ≡ length xs
map_count f [] = refl
map_count f (x ∷ xs) = ap suc (map_count f xs)

-- ---- lists of them

-- the statistics of no more columns than a schema has
pub stats_most : (n most : ℕ) (xs : List Stat) → length xs ≤ 4096 → AllByRecursion (λ x. HasShortTexts most x.body) xs
    → length (list_text (λ m. sized (column_stats_text.text m)) n (map message_of xs)) ≤ 4096 * (450 + 2 * most)
stats_most n most xs few h =
    let sum = list_most column_stats_text.text n (430 + 2 * most) (map message_of xs) (all_stats_most most xs h) in
    let count = map_count message_of xs in
    let times = mul-le-mul_left {m = length (map message_of xs)} {n = 4096} (20 + (430 + 2 * most)) (omega (arith, count, few)) in
    omega (arith, sum, times)

info_most : (i : StripeInfo) → length (stripe_info_text.text i) ≤ 100
info_most i =
    omega (
      arith,
      five (number_text 1 i.offset) (number_text 2 i.index_length) (number_text 3 i.data_length) (number_text 4 i.footer_length) (number_text 5 i.number_of_rows),
      number_most 1 i.offset,
      number_most 2 i.index_length,
      number_most 3 i.data_length,
      number_most 4 i.footer_length,
      number_most 5 i.number_of_rows,
    )

all_infos : (is : List StripeInfo) → AllByRecursion (λ i. length (stripe_info_text.text i) ≤ 100) is
all_infos [] = tt
all_infos (i ∷ is) = (info_most i, all_infos is)

pub infos_most : (is : List StripeInfo) → length is ≤ 65536 → length (list_text (λ i. sized (stripe_info_text.text i)) 3 is) ≤ 120 * 65536
infos_most is few = let sum = list_most stripe_info_text.text 3 100 is (all_infos is) in omega (arith, sum, few)

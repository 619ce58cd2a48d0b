-- The numbers of a merged tail have the bits of their fields.
use Rattle.std.proofs.Common.{◌≡◌, ℕ, zero, suc, ◌+◌, ◌^◌, ◌<◌, ◌≤◌, ℤ, pos, negsuc, nat_le, Bool, true, false, if◌then◌else◌, List, [], ◌∷◌, map}
use Rattle.std.proofs.Common.{filter, sum_by, take, drop, Option, Some, None, refl, arith}
use Rattle.std.specs.Prelude.{cond, nat_lt}
use Rattle.std.specs.Option.{IfSome, option_map, option_and_then}
use Rattle.std.specs.Ordering.{int_cmp, nat_cmp, flip_args}
use Rattle.std.specs.declared.cmp.Ordering.{Ordering}
use Rattle.std.specs.List.{AllByRecursion}
use Rattle.std.proofs.lemmas.Bool.{ltb-true}
use Rattle.std.proofs.lemmas.Bool.Decides.{nat_tests}
use Rattle.orc_bits.specs.Zigzag.{zig}
use Rattle.orc_wire.specs.declared.stripe_info.StripeInfo.{StripeInfo}
use Rattle.orc_wire.specs.declared.footer.UserMetadataItem.{UserMetadataItem}
use Rattle.orc_wire.specs.CanonicalFields.{some_top}
use Rattle.orc_wire.specs.CanonicalMessages.{stripe_info_text, user_metadata_text, column_stats_text, integer_stats_text, string_stats_text}
use Rattle.orc_wire.specs.CanonicalMessages.{bucket_stats_text, date_stats_text, binary_stats_text, collection_stats_text}
use Rattle.orc_values.specs.Fits.{signed_fits}
use Rattle.orc_stats.specs.declared.kind.StatKind.{StatKind}
use Rattle.orc_stats.specs.declared.kind.StatKind.TheVariants as kind
use Rattle.orc_stats.specs.declared.stat.Stat.{Stat}
use Rattle.orc_stats.specs.declared.stat.Body.{Body}
use Rattle.orc_stats.specs.declared.stat.Body.TheVariants as body
use Rattle.orc_stats.specs.Statistics.{reduce, least, exact_total, in_64, total, in_u64, children_total}
use Rattle.orc_stats.specs.Joining.{parts_if_known, of_known, in_limit, trues_total, least_int, greatest_int, least_date, greatest_date, trues_of, sum_of}
use Rattle.orc_stats.specs.Joining.{least_children, greatest_children, total_children, bodies_joined, has_values, valued_bodies, joined}
use Rattle.orc_stats.specs.Messages.{message_of, ints_record, dates_record, texts_record, bins_record, bools_record, int_record, date_record, text_record}
use Rattle.orc_stats.specs.Messages.{bucket_record, bin_record, collection_record, children_record}
use Rattle.orc_values.specs.Shapes.{Shape, width}
use Rattle.orc_tail.specs.Stripes.{stripe_length, stripes_length}
use Rattle.orc_tail.specs.Statistics.{kind_at, column_stats, of_columns, file_stats}
use Rattle.orc_merger.specs.Merging.{placed}
use Rattle.orc_values.proofs.Lists.{all_append, all_take}
use Rattle.orc_stats.proofs.Least.{least_is}

-- ---- a joined statistic's parts

-- what is known of the values is within the numbers that messages hold
abbrev Wide : Option ℤ → Type 0
Wide o = IfSome o (λ z. zig z < 2 ^ 64)

abbrev Narrow : Option ℤ → Type 0
Narrow o = IfSome o (λ z. zig z < 2 ^ 32)

abbrev Small : Option ℕ → Type 0
Small o = IfSome o (λ n. n < 2 ^ 64)

-- the parts of a body
abbrev PartBits : Body → Type 0
PartBits body.Plain = Unit {0}
PartBits (body.Ints l g s) = Wide l × (Wide g × Wide s)
PartBits (body.Bools t) = Small t
PartBits (body.Dates l g) = Narrow l × Narrow g
PartBits (body.Texts l g s) = Wide s
PartBits (body.Bins s) = Wide s
PartBits (body.Children l g t) = Small l × (Small g × Small t)

known_cons : {A : Type 0} (P : A → Type 0) (x : A) (o : Option (List A)) → P x → IfSome o (AllByRecursion P)
    → IfSome (option_map (λ xs. x ∷ xs) o) (AllByRecursion P)
known_cons P x None p a = tt
known_cons P x (Some xs) p a = (p, a)

known_keeps : {A : Type 0} (P : A → Type 0) (os : List (Option A)) → AllByRecursion (λ (o : Option A). IfSome o P) os
    → IfSome (parts_if_known os) (AllByRecursion P)
known_keeps P [] a = tt
known_keeps P (None ∷ os) a = tt
known_keeps P (Some x ∷ os) a = known_cons P x (parts_if_known os) a.0 (known_keeps P os a.1)

then_keeps : {A B : Type 0} (P : A → Type 0) (Q : B → Type 0) (f : A → Option B) → ((x : A) → P x → IfSome (f x) Q) → (o : Option A) → IfSome o P
    → IfSome (option_and_then f o) Q
then_keeps P Q f k None p = tt
then_keeps P Q f k (Some x) p = k x p

known_least : {A : Type 0} (P : A → Type 0) (cmp : A → A → Ordering) (os : List (Option A)) → AllByRecursion (λ (o : Option A). IfSome o P) os
    → IfSome (of_known (least cmp) os) P
known_least P cmp os a = then_keeps (AllByRecursion P) P (least cmp) (λ xs p. least_is P cmp xs p) (parts_if_known os) (known_keeps P os a)

-- what fits 64 bits has them
zig_fits : (z : ℤ) → signed_fits 63 z ≡ true → zig z < 2 ^ 64
zig_fits (pos n) e = let lt : n < 2 ^ 63 = grind (arith, nat_tests) in omega (arith, lt)
zig_fits (negsuc n) e = let lt : n < 2 ^ 63 = grind (arith, nat_tests) in omega (arith, lt)

in_wide_of : (z : ℤ) (b : Bool) → signed_fits 63 z ≡ b → Wide (if b then Some z else None)
in_wide_of z true e = zig_fits z e
in_wide_of z false e = tt

in_wide : (z : ℤ) → Wide (in_64 z)
in_wide z = in_wide_of z (signed_fits 63 z) refl

then_all : {A B : Type 0} (Q : B → Type 0) (f : A → Option B) → ((x : A) → IfSome (f x) Q) → (o : Option A) → IfSome (option_and_then f o) Q
then_all Q f k None = tt
then_all Q f k (Some x) = k x

total_wide : (os : List (Option ℤ)) → Wide (of_known total os)
total_wide os = then_all (λ (z : ℤ). zig z < 2 ^ 64) total (λ zs. then_all (λ (z : ℤ). zig z < 2 ^ 64) in_64 in_wide (exact_total zs)) (parts_if_known os)

small_of : (n : ℕ) (b : Bool) → nat_le n (2 ^ 62) ≡ b → Small (if b then Some n else None)
small_of n true e = let le : n ≤ 2 ^ 62 = grind (arith, nat_tests) in omega (arith, le)
small_of n false e = tt

trues_small : (os : List (Option ℕ)) → Small (of_known trues_total os)
trues_small os = then_all (λ (n : ℕ). n < 2 ^ 64) trues_total
    (λ ns. then_all (λ (n : ℕ). n < 2 ^ 64) in_limit (λ n. small_of n (nat_le n (2 ^ 62)) refl) (reduce ◌+◌ ns)) (parts_if_known os)

-- ---- the parts of bodies

all_parts : {A : Type 0} (P : A → Type 0) (part : Body → Option A) → ((b : Body) → PartBits b → IfSome (part b) P) → (bs : List Body)
    → AllByRecursion PartBits bs
    → AllByRecursion (λ (o : Option A). IfSome o P) (map part bs)
all_parts P part k [] a = tt
all_parts P part k (b ∷ bs) a = (k b a.0, all_parts P part k bs a.1)

least_int_bits : (b : Body) → PartBits b → Wide (least_int b)
least_int_bits (body.Ints l g s) h = h.0
least_int_bits body.Plain h = tt
least_int_bits (body.Bools t) h = tt
least_int_bits (body.Dates l g) h = tt
least_int_bits (body.Texts l g s) h = tt
least_int_bits (body.Bins s) h = tt
least_int_bits (body.Children l g t) h = tt

greatest_int_bits : (b : Body) → PartBits b → Wide (greatest_int b)
greatest_int_bits (body.Ints l g s) h = h.1.0
greatest_int_bits body.Plain h = tt
greatest_int_bits (body.Bools t) h = tt
greatest_int_bits (body.Dates l g) h = tt
greatest_int_bits (body.Texts l g s) h = tt
greatest_int_bits (body.Bins s) h = tt
greatest_int_bits (body.Children l g t) h = tt

least_date_bits : (b : Body) → PartBits b → Narrow (least_date b)
least_date_bits (body.Dates l g) h = h.0
least_date_bits body.Plain h = tt
least_date_bits (body.Bools t) h = tt
least_date_bits (body.Ints l g s) h = tt
least_date_bits (body.Texts l g s) h = tt
least_date_bits (body.Bins s) h = tt
least_date_bits (body.Children l g t) h = tt

greatest_date_bits : (b : Body) → PartBits b → Narrow (greatest_date b)
greatest_date_bits (body.Dates l g) h = h.1
greatest_date_bits body.Plain h = tt
greatest_date_bits (body.Bools t) h = tt
greatest_date_bits (body.Ints l g s) h = tt
greatest_date_bits (body.Texts l g s) h = tt
greatest_date_bits (body.Bins s) h = tt
greatest_date_bits (body.Children l g t) h = tt

least_children_bits : (b : Body) → PartBits b → Small (least_children b)
least_children_bits (body.Children l g t) h = h.0
least_children_bits body.Plain h = tt
least_children_bits (body.Ints l g s) h = tt
least_children_bits (body.Bools t) h = tt
least_children_bits (body.Dates l g) h = tt
least_children_bits (body.Texts l g s) h = tt
least_children_bits (body.Bins s) h = tt

greatest_children_bits : (b : Body) → PartBits b → Small (greatest_children b)
greatest_children_bits (body.Children l g t) h = h.1.0
greatest_children_bits body.Plain h = tt
greatest_children_bits (body.Ints l g s) h = tt
greatest_children_bits (body.Bools t) h = tt
greatest_children_bits (body.Dates l g) h = tt
greatest_children_bits (body.Texts l g s) h = tt
greatest_children_bits (body.Bins s) h = tt

room_if : (n : ℕ) (b : Bool) → nat_lt n (2 ^ 64) ≡ b → Small (if b then Some n else None)
room_if n true e = ltb-true n (2 ^ 64) e
room_if n false e = tt

children_small : (os : List (Option ℕ)) → Small (of_known children_total os)
children_small os = then_all (λ (n : ℕ). n < 2 ^ 64) children_total
    (λ ns. then_all (λ (n : ℕ). n < 2 ^ 64) in_u64 (λ n. room_if n (nat_lt n (2 ^ 64)) refl) (reduce ◌+◌ ns)) (parts_if_known os)

bodies_bits : (k : StatKind) (bs : List Body) → AllByRecursion PartBits bs → PartBits (bodies_joined k bs)
bodies_bits kind.Plain bs a = tt
bodies_bits kind.Ints bs a = (
  known_least (λ (z : ℤ). zig z < 2 ^ 64) int_cmp (map least_int bs) (all_parts (λ (z : ℤ). zig z < 2 ^ 64) least_int least_int_bits bs a),
  (
    known_least (λ (z : ℤ). zig z < 2 ^ 64) (flip_args int_cmp) (map greatest_int bs)
        (all_parts (λ (z : ℤ). zig z < 2 ^ 64) greatest_int greatest_int_bits bs a),
    total_wide (map sum_of bs),
  ),
)
bodies_bits kind.Bools bs a = trues_small (map trues_of bs)
bodies_bits kind.Dates bs a = (
  known_least (λ (z : ℤ). zig z < 2 ^ 32) int_cmp (map least_date bs) (all_parts (λ (z : ℤ). zig z < 2 ^ 32) least_date least_date_bits bs a),
  known_least (λ (z : ℤ). zig z < 2 ^ 32) (flip_args int_cmp) (map greatest_date bs)
      (all_parts (λ (z : ℤ). zig z < 2 ^ 32) greatest_date greatest_date_bits bs a),
)
bodies_bits kind.Texts bs a = total_wide (map sum_of bs)
bodies_bits kind.Bins bs a = total_wide (map sum_of bs)
bodies_bits kind.Children bs a = (
  known_least (λ (n : ℕ). n < 2 ^ 64) nat_cmp (map least_children bs) (all_parts (λ (n : ℕ). n < 2 ^ 64) least_children least_children_bits bs a),
  (
    known_least (λ (n : ℕ). n < 2 ^ 64) (flip_args nat_cmp) (map greatest_children bs) (all_parts (λ (n : ℕ). n < 2 ^ 64) greatest_children greatest_children_bits bs a),
    children_small (map total_children bs),
  ),
)

-- ---- a statistic as a message

parts_ints : (l g s : Option ℤ) → IfSome (ints_record l g s) integer_stats_text.bounded → Wide l × (Wide g × Wide s)
parts_ints (Some l) g s h = h
parts_ints None (Some g) s h = h
parts_ints None None (Some s) h = h
parts_ints None None None h = (tt, (tt, tt))

ints_parts : (l g s : Option ℤ) → Wide l × (Wide g × Wide s) → IfSome (ints_record l g s) integer_stats_text.bounded
ints_parts (Some l) g s h = h
ints_parts None (Some g) s h = h
ints_parts None None (Some s) h = h
ints_parts None None None h = tt

parts_texts : (l g : Option (List ℕ)) (s : Option ℤ) → IfSome (texts_record l g s) string_stats_text.bounded → Wide s
parts_texts (Some l) g s h = h.1.1
parts_texts None (Some g) s h = h.1.1
parts_texts None None (Some s) h = h.1.1
parts_texts None None None h = tt

texts_parts : (l g : Option (List ℕ)) (s : Option ℤ) → Wide s → IfSome (texts_record l g s) string_stats_text.bounded
texts_parts (Some l) g s h = (tt, (some_top g, h))
texts_parts None (Some g) s h = (tt, (tt, h))
texts_parts None None (Some s) h = (tt, (tt, h))
texts_parts None None None h = tt

parts_dates : (l g : Option ℤ) → IfSome (dates_record l g) date_stats_text.bounded → Narrow l × Narrow g
parts_dates (Some l) g h = h
parts_dates None (Some g) h = h
parts_dates None None h = (tt, tt)

dates_parts : (l g : Option ℤ) → Narrow l × Narrow g → IfSome (dates_record l g) date_stats_text.bounded
dates_parts (Some l) g h = h
dates_parts None (Some g) h = h
dates_parts None None h = tt

parts_bools : (t : Option ℕ) → IfSome (bools_record t) bucket_stats_text.bounded → Small t
parts_bools (Some n) h = h.0
parts_bools None h = tt

bools_parts : (t : Option ℕ) → Small t → IfSome (bools_record t) bucket_stats_text.bounded
bools_parts (Some n) h = (h, tt)
bools_parts None h = tt

parts_children : (l g t : Option ℕ) → IfSome (children_record l g t) collection_stats_text.bounded → Small l × (Small g × Small t)
parts_children (Some l) g t h = h
parts_children None (Some g) t h = h
parts_children None None (Some t) h = h
parts_children None None None h = (tt, (tt, tt))

children_parts : (l g t : Option ℕ) → Small l × (Small g × Small t) → IfSome (children_record l g t) collection_stats_text.bounded
children_parts (Some l) g t h = h
children_parts None (Some g) t h = h
children_parts None None (Some t) h = h
children_parts None None None h = tt

parts_bins : (s : Option ℤ) → IfSome (bins_record s) binary_stats_text.bounded → Wide s
parts_bins (Some s) h = h
parts_bins None h = tt

bins_parts : (s : Option ℤ) → Wide s → IfSome (bins_record s) binary_stats_text.bounded
bins_parts (Some s) h = h
bins_parts None h = tt

-- the records of a body
abbrev BodyBits : Body → Type 0
BodyBits b = IfSome (int_record b) integer_stats_text.bounded
    × (IfSome (text_record b) string_stats_text.bounded
    × (IfSome (bucket_record b) bucket_stats_text.bounded
    × (IfSome (date_record b) date_stats_text.bounded × (IfSome (bin_record b) binary_stats_text.bounded × IfSome (collection_record b) collection_stats_text.bounded))))

parts_of : (b : Body) → BodyBits b → PartBits b
parts_of body.Plain h = tt
parts_of (body.Ints l g s) h = parts_ints l g s h.0
parts_of (body.Bools t) h = parts_bools t h.1.1.0
parts_of (body.Dates l g) h = parts_dates l g h.1.1.1.0
parts_of (body.Texts l g s) h = parts_texts l g s h.1.0
parts_of (body.Bins s) h = parts_bins s h.1.1.1.1.0
parts_of (body.Children l g t) h = parts_children l g t h.1.1.1.1.1

of_parts : (b : Body) → PartBits b → BodyBits b
of_parts body.Plain h = (tt, (tt, (tt, (tt, (tt, tt)))))
of_parts (body.Ints l g s) h = (ints_parts l g s h, (tt, (tt, (tt, (tt, tt)))))
of_parts (body.Bools t) h = (tt, (tt, (bools_parts t h, (tt, (tt, tt)))))
of_parts (body.Dates l g) h = (tt, (tt, (tt, (dates_parts l g h, (tt, tt)))))
of_parts (body.Texts l g s) h = (tt, (texts_parts l g s h, (tt, (tt, (tt, tt)))))
of_parts (body.Bins s) h = (tt, (tt, (tt, (tt, (bins_parts s h, tt)))))
of_parts (body.Children l g t) h = (tt, (tt, (tt, (tt, (tt, children_parts l g t h)))))

abbrev pub StatBits : Stat → Type 0
StatBits s = column_stats_text.bounded (message_of s)

stat_parts : (s : Stat) → StatBits s → PartBits s.body
stat_parts s h = parts_of s.body (h.1.0, (h.1.1.0, (h.1.1.1.0, (h.1.1.1.1.0, (h.1.1.1.1.1.0, h.1.1.1.1.1.1.1)))))

parts_stat : (s : Stat) → s.count < 2 ^ 64 → PartBits s.body → StatBits s
parts_stat s few h = let b = of_parts s.body h in (few, (b.0, (b.1.0, (b.1.1.0, (b.1.1.1.0, (b.1.1.1.1.0, (some_top s.nulls, b.1.1.1.1.1)))))))

with_value : (b : Bool) (s : Stat) (ss : List Stat) → PartBits s.body → AllByRecursion PartBits (map (λ (t : Stat). t.body) ss)
    → AllByRecursion PartBits (map (λ (t : Stat). t.body) (cond b (s ∷ ss) ss))
with_value true s ss h a = (h, a)
with_value false s ss h a = a

valued_bits : (ss : List Stat) → AllByRecursion StatBits ss → AllByRecursion PartBits (valued_bodies ss)
valued_bits [] a = tt
valued_bits (s ∷ ss) a = with_value (has_values s) s (filter has_values ss) (stat_parts s a.0) (valued_bits ss a.1)

joined_bits : (k : StatKind) (ss : List Stat) → AllByRecursion StatBits ss → sum_by (λ (s : Stat). s.count) ss ≤ 2 ^ 62 → StatBits (joined k ss)
joined_bits k ss a few = parts_stat (joined k ss) (omega (arith, few)) (bodies_bits k (valued_bodies ss) (valued_bits ss a))

-- ---- of columns

all_drop : {X : Type 0} (P : X → Type 0) (n : ℕ) (xs : List X) → AllByRecursion P xs → AllByRecursion P (drop n xs)
all_drop P zero xs a = a
all_drop P (suc n) [] a = tt
all_drop P (suc n) (x ∷ xs) a = all_drop P n xs a.1

column_bits : (c : ℕ) (stats : List (List Stat)) → AllByRecursion (AllByRecursion StatBits) stats → AllByRecursion StatBits (column_stats c stats)
column_bits c [] a = tt
column_bits c (xs ∷ stats) a = all_append StatBits (take 1 (drop c xs)) (column_stats c stats)
    (all_take StatBits 1 (drop c xs) (all_drop StatBits c xs a.0)) (column_bits c stats a.1)

pub all_columns : (P Q : Stat → Type 0) (f : ℕ → Stat) → ((c : ℕ) → P (f c) → Q (f c)) → (c n : ℕ) → AllByRecursion P (of_columns f c n)
    → AllByRecursion Q (of_columns f c n)
all_columns P Q f k c zero a = tt
all_columns P Q f k c (suc n) a = (k c a.0, all_columns P Q f k (suc c) n a.1)

pub file_stats_bits : (s : Shape) (stats : List (List Stat)) → AllByRecursion (AllByRecursion StatBits) stats
    → AllByRecursion (λ (x : Stat). x.count ≤ 2 ^ 62) (file_stats s stats)
    → AllByRecursion StatBits (file_stats s stats)
file_stats_bits s stats a few =
    all_columns (λ (x : Stat). x.count ≤ 2 ^ 62) StatBits (λ c. joined (kind_at s c) (column_stats c stats))
    (λ c le. joined_bits (kind_at s c) (column_stats c stats) (column_bits c stats a) le) 0 (width s) few

-- ---- stripes and pairs

pub placed_bits : (at : ℕ) (ss : List StripeInfo) → at + stripes_length ss < 2 ^ 64 → AllByRecursion stripe_info_text.bounded ss
    → AllByRecursion stripe_info_text.bounded (placed at ss)
placed_bits at [] lt a = tt
placed_bits at (s ∷ ss) lt a = ((omega (arith, lt), a.0.1), placed_bits (at + stripe_length s) ss (omega (arith, lt)) a.1)

pub pairs_bits : (ps : List UserMetadataItem) → AllByRecursion user_metadata_text.bounded ps
pairs_bits [] = tt
pairs_bits (p ∷ ps) = ((tt, tt), pairs_bits ps)

-- The numbers of a tail that a writer makes have the bits of their fields.
use Rattle.std.proofs.Common.{◌≡◌, ℕ, ◌+◌, ◌<◌, ◌≤◌, ◌^◌, ℤ, pos, negsuc, Bool, true, false, if◌then◌else◌, List, [], ◌∷◌, length, map, Option, Some, None, refl, arith}
use Rattle.std.specs.Prelude.{◌&&◌, nat_lt, nat_le, sum_by}
use Rattle.std.specs.List.{AllByRecursion, filter_map, cons_option}
use Rattle.std.specs.Option.{IfSome, option_and_then}
use Rattle.std.specs.Ordering.{int_cmp, nat_cmp, flip_args}
use Rattle.std.proofs.lemmas.List.Sums.{sum_by-cons}
use Rattle.std.proofs.lemmas.Bool.{ltb-true, and_parts}
use Rattle.orc_bits.specs.Zigzag.{zig}
use Rattle.orc_rle.specs.declared.sign.Rle.{Rle}
use Rattle.orc_rle.specs.declared.sign.Rle.TheVariants.{One, Two}
use Rattle.orc_wire.specs.CanonicalFields.{some_top, all_top}
use Rattle.orc_wire.specs.CanonicalKinds.{AreBelow}
use Rattle.orc_wire.specs.Canonical.{all_both}
use Rattle.orc_wire.specs.CanonicalMessages.{column_stats_text, integer_stats_text, string_stats_text, date_stats_text, collection_stats_text, type_text}
use Rattle.orc_values.specs.declared.kind.Scalar.{Scalar}
use Rattle.orc_values.specs.declared.kind.Scalar.TheVariants as scalar_kind
use Rattle.orc_values.specs.Kinds.{number, is_kind}
use Rattle.orc_file.proofs.ChildrenRoom.{child_number}
use Rattle.orc_values.specs.Shapes.{Shape, scalar, list_of, map_of, struct_of, Fields, no_field, field, width, widths, names_of, starts}
use Rattle.orc_wire.specs.Types.{types, fields_types}
use Rattle.orc_values.specs.Cells.{bool, int, date, text, bytes, Cell, null, leaf, list, struct, pairs, parts, pairs_in, values}
use Rattle.orc_values.specs.Fits.{fits, signed_fits, int_fits, RowsFit}
use Rattle.orc_stats.specs.declared.kind.StatKind.{StatKind}
use Rattle.orc_stats.specs.declared.kind.StatKind.TheVariants as kind
use Rattle.orc_stats.specs.declared.stat.Stat.{Stat}
use Rattle.orc_stats.specs.declared.stat.Body.TheVariants as body
use Rattle.orc_stats.specs.Kinds.{kind_of}
use Rattle.orc_stats.specs.Statistics.{reduce, least, greatest, text_cmp, exact_total, in_64, total, lengths, int_of, date_of, bool_of, text_of, bytes_of, children_of, in_u64, children_total, bit, values_body, stat}
use Rattle.orc_stats.specs.Joining.{trues_of}
use Rattle.orc_stats.specs.Messages.{message_of, few_trues, IsStat}
use Rattle.orc_stats.specs.Whole.{without_sum}
use Rattle.orc_stats.proofs.Normal.{stat-normal}
use Rattle.orc_file_writer.specs.Writing.{version_of}
use Rattle.orc_tail.proofs.Columns.{le_is}
use Rattle.orc_stats.proofs.Fitting.{are_of_kind}
use Rattle.orc_tail.proofs.ReadBits.{BodyBits, where_so, either_bits}
use Rattle.orc_values.proofs.Lists.{values_few}
use Rattle.orc_stats.proofs.Least.{least_is}

-- ---- the types

pub version_bits : (rle : Rle) → AreBelow (2 ^ 32) (version_of rle)
version_bits One = (omega arith, (omega arith, tt))
version_bits Two = (omega arith, (omega arith, tt))

number_bits : (k : Scalar) → number k < 2 ^ 32
number_bits scalar_kind.Boolean = omega arith
number_bits scalar_kind.Byte = omega arith
number_bits scalar_kind.Short = omega arith
number_bits scalar_kind.Int = omega arith
number_bits scalar_kind.Long = omega arith
number_bits scalar_kind.String = omega arith
number_bits scalar_kind.Binary = omega arith
number_bits scalar_kind.Date = omega arith

starts_bits : (fs : Fields) (n : ℕ) → n + widths fs ≤ 2 ^ 31 → AreBelow (2 ^ 32) (starts fs n)
starts_bits no_field n h = tt
starts_bits (field name s fs) n h = (omega (arith, h), starts_bits fs (n + width s) (omega (arith, h)))

mutual
  pub types_bits : (s : Shape) (n : ℕ) → n + width s ≤ 2 ^ 31 → AllByRecursion type_text.bounded (types s n)
  types_bits (scalar k o) n h = ((number_bits k, (tt, (tt, tt))), tt)
  types_bits (list_of s o) n h = ((omega arith, ((omega (arith, h), tt), (tt, tt))), types_bits s (n + 1) (omega (arith, h)))
  types_bits (map_of k v o) n h = (
    (omega arith, ((omega (arith, h), (omega (arith, h), tt)), (tt, tt))),
    all_both type_text.bounded (types k (n + 1)) (types v (n + 1 + width k)) (types_bits k (n + 1) (omega (arith, h))) (types_bits v (n + 1 + width k) (omega (arith, h))),
  )
  types_bits (struct_of fs o) n h = ((omega arith, (starts_bits fs (n + 1) (omega (arith, h)), (all_top (names_of fs), tt))), fields_bits fs (n + 1) (omega (arith, h)))

  fields_bits : (fs : Fields) (n : ℕ) → n + widths fs ≤ 2 ^ 31 → AllByRecursion type_text.bounded (fields_types fs n)
  fields_bits no_field n h = tt
  fields_bits (field name s fs) n h =
      all_both type_text.bounded (types s n) (fields_types fs (n + width s)) (types_bits s n (omega (arith, h))) (fields_bits fs (n + width s) (omega (arith, h)))

-- ---- numbers of cells

abbrev IsLong : ℤ → Type 0
IsLong z = zig z < 2 ^ 64

abbrev IsSmall : ℤ → Type 0
IsSmall z = zig z < 2 ^ 32

long_fits : (z : ℤ) → signed_fits 63 z ≡ true → IsLong z
long_fits (pos n) h = let l = ltb-true n (2 ^ 63) h in omega (arith, l)
long_fits (negsuc n) h = let l = ltb-true n (2 ^ 63) h in omega (arith, l)

int_long : (k : Scalar) (z : ℤ) → int_fits k z ≡ true → IsLong z
int_long scalar_kind.Boolean z h = cc
int_long scalar_kind.Byte (pos n) h = let l = ltb-true n (2 ^ 7) h in omega (arith, l)
int_long scalar_kind.Byte (negsuc n) h = let l = ltb-true n (2 ^ 7) h in omega (arith, l)
int_long scalar_kind.Short (pos n) h = let l = ltb-true n (2 ^ 15) h in omega (arith, l)
int_long scalar_kind.Short (negsuc n) h = let l = ltb-true n (2 ^ 15) h in omega (arith, l)
int_long scalar_kind.Int (pos n) h = let l = ltb-true n (2 ^ 31) h in omega (arith, l)
int_long scalar_kind.Int (negsuc n) h = let l = ltb-true n (2 ^ 31) h in omega (arith, l)
int_long scalar_kind.Long z h = long_fits z h
int_long scalar_kind.String z h = cc
int_long scalar_kind.Binary z h = cc
int_long scalar_kind.Date z h = cc

date_small : (b : Bool) (z : ℤ) → (b && signed_fits 31 z) ≡ true → IsSmall z
date_small b (pos n) h = let l = ltb-true n (2 ^ 31) (and_parts b (nat_lt n (2 ^ 31)) h).1 in omega (arith, l)
date_small b (negsuc n) h = let l = ltb-true n (2 ^ 31) (and_parts b (nat_lt n (2 ^ 31)) h).1 in omega (arith, l)

cell_long : (c : Cell) (s : Shape) → fits c s ≡ true → IfSome (int_of c) IsLong
cell_long (leaf (int z)) (scalar k o) h = int_long k z h
cell_long (leaf (int z)) (list_of s o) h = cc
cell_long (leaf (int z)) (map_of k v o) h = cc
cell_long (leaf (int z)) (struct_of fs o) h = cc
cell_long (leaf (bool b)) s h = tt
cell_long (leaf (date b)) s h = tt
cell_long (leaf (text b)) s h = tt
cell_long (leaf (bytes b)) s h = tt
cell_long null s h = tt
cell_long (list cs) s h = tt
cell_long (struct cs) s h = tt
cell_long (pairs ps) s h = tt

cell_small : (c : Cell) (s : Shape) → fits c s ≡ true → IfSome (date_of c) IsSmall
cell_small (leaf (date z)) (scalar k o) h = date_small (is_kind scalar_kind.Date k) z h
cell_small (leaf (date z)) (list_of s o) h = cc
cell_small (leaf (date z)) (map_of k v o) h = cc
cell_small (leaf (date z)) (struct_of fs o) h = cc
cell_small (leaf (bool b)) s h = tt
cell_small (leaf (int b)) s h = tt
cell_small (leaf (text b)) s h = tt
cell_small (leaf (bytes b)) s h = tt
cell_small null s h = tt
cell_small (list cs) s h = tt
cell_small (struct cs) s h = tt
cell_small (pairs ps) s h = tt

all_picked : (P : ℤ → Type 0) (o : Option ℤ) (zs : List ℤ) → IfSome o P → AllByRecursion P zs → AllByRecursion P (cons_option o zs)
all_picked P None zs h all = all
all_picked P (Some z) zs h all = (h, all)

all_long : (s : Shape) (cs : List Cell) → RowsFit s cs → AllByRecursion IsLong (filter_map int_of cs)
all_long s [] h = tt
all_long s (c ∷ cs) h = all_picked IsLong (int_of c) (filter_map int_of cs) (cell_long c s h.0) (all_long s cs h.1)

all_small : (s : Shape) (cs : List Cell) → RowsFit s cs → AllByRecursion IsSmall (filter_map date_of cs)
all_small s [] h = tt
all_small s (c ∷ cs) h = all_picked IsSmall (date_of c) (filter_map date_of cs) (cell_small c s h.0) (all_small s cs h.1)

-- ---- words of them

long_if : (b : Bool) (z : ℤ) → signed_fits 63 z ≡ b → IfSome (if b then Some z else None) IsLong
long_if true z e = long_fits z e
long_if false z e = tt

long_in : (o : Option ℤ) → IfSome (option_and_then in_64 o) IsLong
long_in None = tt
long_in (Some z) = long_if (signed_fits 63 z) z refl

total_long : (zs : List ℤ) → IfSome (total zs) IsLong
total_long zs = long_in (exact_total zs)

-- ---- the body of a statistic

ints_bits : (l g t : Option ℤ) → IfSome l IsLong → IfSome g IsLong → IfSome t IsLong → BodyBits (body.Ints l g t)
ints_bits l g t p q r = (where_so integer_stats_text.bounded _ (record { minimum = l; maximum = g; sum = t }) (p, (q, r)), (tt, (tt, (tt, (tt, tt)))))

dates_bits : (l g : Option ℤ) → IfSome l IsSmall → IfSome g IsSmall → BodyBits (body.Dates l g)
dates_bits l g p q = (tt, (tt, (tt, (where_so date_stats_text.bounded _ (record { minimum = l; maximum = g }) (p, q), (tt, tt)))))

texts_bits : (l g : Option (List ℕ)) (t : Option ℤ) → IfSome t IsLong → BodyBits (body.Texts l g t)
texts_bits l g t r = (tt, (where_so string_stats_text.bounded _ (record { minimum = l; maximum = g; sum = t }) (some_top l, (some_top g, r)), (tt, (tt, (tt, tt)))))

bins_bits : (t : Option ℤ) → IfSome t IsLong → BodyBits (body.Bins t)
bins_bits None r = (tt, (tt, (tt, (tt, (tt, tt)))))
bins_bits (Some z) r = (tt, (tt, (tt, (tt, (r, tt)))))

bools_bits : (t : Option ℕ) → few_trues t ≡ true → BodyBits (body.Bools t)
bools_bits None e = (tt, (tt, (tt, (tt, (tt, tt)))))
bools_bits (Some n) e = let l = le_is n (2 ^ 62) e in (tt, (tt, ((omega (arith, l), tt), (tt, (tt, tt)))))

-- the cells of a column of lists, or of maps, have fewer than 2^64 children together
abbrev pub FewChildren : StatKind → Shape → List Cell → Type 0
FewChildren k s cs = k ≡ kind.Children → sum_by (child_number s) cs < 2 ^ 64

one_more : (f : Cell → ℕ) (c : Cell) (cs : List Cell) (most : ℕ) → sum_by f (c ∷ cs) < most → (f c < most) × (sum_by f cs < most)
one_more f c cs most h = let e = sum_by-cons f c cs in (omega (arith, e, h), omega (arith, e, h))

children_room : (s : Shape) (cs : List Cell) → RowsFit s cs → sum_by (child_number s) cs < 2 ^ 64 → AllByRecursion (λ n. n < 2 ^ 64) (filter_map children_of cs)
children_room s [] fit h = tt
children_room s (null ∷ cs) fit h = children_room s cs fit.1 (one_more (child_number s) null cs (2 ^ 64) h).1
children_room s (leaf a ∷ cs) fit h = children_room s cs fit.1 (one_more (child_number s) (leaf a) cs (2 ^ 64) h).1
children_room s (struct xs ∷ cs) fit h = children_room s cs fit.1 (one_more (child_number s) (struct xs) cs (2 ^ 64) h).1
children_room (list_of e o) (list xs ∷ cs) fit h = let m = one_more (λ c. length (parts c)) (list xs) cs (2 ^ 64) h in (m.0, children_room (list_of e o) cs fit.1 m.1)
children_room (scalar k o) (list xs ∷ cs) fit h = cc (fit.0)
children_room (map_of k v o) (list xs ∷ cs) fit h = cc (fit.0)
children_room (struct_of fs o) (list xs ∷ cs) fit h = cc (fit.0)
children_room (map_of k v o) (pairs ps ∷ cs) fit h = let m = one_more (λ c. length (pairs_in c)) (pairs ps) cs (2 ^ 64) h in (m.0, children_room (map_of k v o) cs fit.1 m.1)
children_room (scalar k o) (pairs ps ∷ cs) fit h = cc (fit.0)
children_room (list_of e o) (pairs ps ∷ cs) fit h = cc (fit.0)
children_room (struct_of fs o) (pairs ps ∷ cs) fit h = cc (fit.0)

room_if : (b : Bool) (n : ℕ) → nat_lt n (2 ^ 64) ≡ b → IfSome (if b then Some n else None) (λ n. n < 2 ^ 64)
room_if true n e = ltb-true n (2 ^ 64) e
room_if false n e = tt

room_in : (o : Option ℕ) → IfSome (option_and_then in_u64 o) (λ n. n < 2 ^ 64)
room_in None = tt
room_in (Some n) = room_if (nat_lt n (2 ^ 64)) n refl

children_bits : (l g t : Option ℕ) → IfSome l (λ n. n < 2 ^ 64) → IfSome g (λ n. n < 2 ^ 64) → IfSome t (λ n. n < 2 ^ 64) → BodyBits (body.Children l g t)
children_bits l g t p q r = (tt, (tt, (tt, (tt, (tt, where_so collection_stats_text.bounded _ (record { min_children = l; max_children = g; total_children = t }) (p, (q, r)))))))

cells_bits : (k : StatKind) (s : Shape) (cs : List Cell) → FewChildren k s cs → RowsFit s cs → few_trues (trues_of (values_body k cs)) ≡ true → BodyBits (values_body k cs)
cells_bits kind.Plain s cs c h few = (tt, (tt, (tt, (tt, (tt, tt)))))
cells_bits kind.Ints s cs c h few =
    let zs = filter_map int_of cs in let all = all_long s cs h in
    ints_bits (least int_cmp zs) (greatest int_cmp zs) (total zs) (least_is IsLong int_cmp zs all) (least_is IsLong (flip_args int_cmp) zs all) (total_long zs)
cells_bits kind.Bools s cs c h few = bools_bits (reduce ◌+◌ (map bit (filter_map bool_of cs))) few
cells_bits kind.Dates s cs c h few =
    let zs = filter_map date_of cs in let all = all_small s cs h in
    dates_bits (least int_cmp zs) (greatest int_cmp zs) (least_is IsSmall int_cmp zs all) (least_is IsSmall (flip_args int_cmp) zs all)
cells_bits kind.Texts s cs c h few = let ts = filter_map text_of cs in texts_bits (least text_cmp ts) (greatest text_cmp ts) (total (lengths ts)) (total_long (lengths ts))
cells_bits kind.Bins s cs c h few = bins_bits (total (lengths (filter_map bytes_of cs))) (total_long (lengths (filter_map bytes_of cs)))
cells_bits kind.Children s cs c h few =
    let ns = filter_map children_of cs in let all = children_room s cs h (c refl) in
    children_bits (least nat_cmp ns) (greatest nat_cmp ns) (children_total ns) (least_is (λ n. n < 2 ^ 64) nat_cmp ns all) (least_is (λ n. n < 2 ^ 64) (flip_args nat_cmp) ns all) (room_in (reduce ◌+◌ ns))

-- the same without a sum
cells_less : (k : StatKind) (s : Shape) (cs : List Cell) → FewChildren k s cs → RowsFit s cs → few_trues (trues_of (values_body k cs)) ≡ true → BodyBits (without_sum (values_body k cs))
cells_less kind.Plain s cs c h few = (tt, (tt, (tt, (tt, (tt, tt)))))
cells_less kind.Ints s cs c h few =
    let zs = filter_map int_of cs in let all = all_long s cs h in
    ints_bits (least int_cmp zs) (greatest int_cmp zs) None (least_is IsLong int_cmp zs all) (least_is IsLong (flip_args int_cmp) zs all) tt
cells_less kind.Bools s cs c h few = cells_bits kind.Bools s cs c h few
cells_less kind.Dates s cs c h few = cells_bits kind.Dates s cs c h few
cells_less kind.Texts s cs c h few = let ts = filter_map text_of cs in texts_bits (least text_cmp ts) (greatest text_cmp ts) None tt
cells_less kind.Bins s cs c h few = (tt, (tt, (tt, (tt, (tt, tt)))))
cells_less kind.Children s cs c h few = cells_bits kind.Children s cs c h few

stat_bits : (x : Stat) → x.count < 2 ^ 64 → BodyBits x.body → column_stats_text.bounded (message_of x)
stat_bits x few b = (few, (b.0, (b.1.0, (b.1.1.0, (b.1.1.1.0, (b.1.1.1.1.0, (some_top x.nulls, b.1.1.1.1.1)))))))

-- the statistic of cells that fit, and the same where its sum may be lost
module _ (s : Shape) (cs : List Cell) (children : FewChildren (kind_of s) s cs) (fit : RowsFit s cs) (few : length cs ≤ 2 ^ 62) where
  normal : IsStat (kind_of s) (stat (kind_of s) cs)
  normal = stat-normal (kind_of s) cs (are_of_kind s cs fit) few

  counted : length (values cs) < 2 ^ 64
  counted = let v = values_few cs in omega (arith, v, few)

  trues : few_trues (trues_of (values_body (kind_of s) cs)) ≡ true
  trues = let is = normal in (and_parts (nat_le (length (values cs)) (2 ^ 62)) (few_trues (trues_of (values_body (kind_of s) cs))) is.limits).1

  pub cells_stat : column_stats_text.bounded (message_of (stat (kind_of s) cs))
  cells_stat = stat_bits (stat (kind_of s) cs) counted (cells_bits (kind_of s) s cs children fit trues)

  pub cells_whole : (b : Bool) → column_stats_text.bounded (message_of (record (stat (kind_of s) cs) { body = if b then values_body (kind_of s) cs else without_sum (values_body (kind_of s) cs) }))
  cells_whole b = stat_bits (record (stat (kind_of s) cs) { body = if b then values_body (kind_of s) cs else without_sum (values_body (kind_of s) cs) }) counted
      (either_bits b (values_body (kind_of s) cs) (without_sum (values_body (kind_of s) cs)) (cells_bits (kind_of s) s cs children fit trues) (cells_less (kind_of s) s cs children fit trues))

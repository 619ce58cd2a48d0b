-- The statistic of a list of cells (ORC specification, "Column Statistics").
use Rattle.std.specs.Prelude.{ℕ, ◌+◌, ◌^◌, nat_lt, ℤ, pos, ◌+ℤ◌, Bool, true, false, not, if◌then◌else◌, List, [], ◌∷◌, length, map, Option, Some, None}
use Rattle.std.specs.List.{filter_map, list_any}
use Rattle.std.specs.Option.{option_and_then}
use Rattle.std.specs.Ordering.{is_gt, int_cmp, nat_cmp, flip_args}
use Rattle.std.specs.Cmp.Lexicographic.{slice_cmp}
use Rattle.std.specs.declared.cmp.Ordering.{Ordering}
use Rattle.orc_values.specs.Cells.{bool, int, date, text, bytes, Cell, leaf, list, pairs, list_of_cells, list_of_pairs, values, is_value}
use Rattle.orc_values.specs.Fits.{signed_fits}
use Rattle.orc_stats.specs.declared.kind.StatKind.{StatKind}
use Rattle.orc_stats.specs.declared.kind.StatKind.TheVariants as kind
use Rattle.orc_stats.specs.declared.stat.Stat.{Stat}
use Rattle.orc_stats.specs.declared.stat.Body.{Body}
use Rattle.orc_stats.specs.declared.stat.Body.TheVariants as body

-- a value combined with the result for the rest, if there is one
abbrev pub onto : {A : Type 0} → (A → A → A) → A → Option A → A
onto op x None = x
onto op x (Some y) = op x y

-- the values of a list combined, if it has any
abbrev pub reduce : {A : Type 0} → (A → A → A) → List A → Option A
reduce op [] = None
reduce op (x ∷ xs) = Some (onto op x (reduce op xs))

-- the lower of two in an order
abbrev pub lower : {A : Type 0} → (A → A → Ordering) → A → A → A
lower cmp x y = if is_gt (cmp x y) then y else x

-- the least value of a list, in an order
abbrev pub least : {A : Type 0} → (A → A → Ordering) → List A → Option A
least cmp xs = reduce (lower cmp) xs

-- the greatest value of a list, in an order
abbrev pub greatest : {A : Type 0} → (A → A → Ordering) → List A → Option A
greatest cmp xs = least (flip_args cmp) xs

-- texts in the order of their bytes, as unsigned numbers
abbrev pub text_cmp : List ℕ → List ℕ → Ordering
text_cmp = slice_cmp nat_cmp

-- the exact total of a list's numbers
abbrev pub exact_total : List ℤ → Option ℤ
exact_total zs = reduce ◌+ℤ◌ zs

-- a number, if it fits 64 bits with the sign
abbrev pub in_64 : ℤ → Option ℤ
in_64 z = if signed_fits 63 z then Some z else None

-- the exact total, if there is a number and the total fits
abbrev pub total : List ℤ → Option ℤ
total zs = option_and_then in_64 (exact_total zs)

-- a number, if it has at most 64 bits
abbrev pub in_u64 : ℕ → Option ℕ
in_u64 n = if nat_lt n (2 ^ 64) then Some n else None

-- the exact total of numbers of children, if there is one and the total has at most 64 bits
abbrev pub children_total : List ℕ → Option ℕ
children_total ns = option_and_then in_u64 (reduce ◌+◌ ns)

-- the lengths of texts
abbrev pub lengths : List (List ℕ) → List ℤ
lengths ts = map (λ t. pos (length t)) ts

-- 1 for true, 0 for false
abbrev pub bit : Bool → ℕ
bit true = 1
bit false = 0

-- the integer that a cell is, if it is one
abbrev pub int_of : Cell → Option ℤ
int_of (leaf (int z)) = Some z
int_of _ = None

-- the date that a cell is, if it is one
abbrev pub date_of : Cell → Option ℤ
date_of (leaf (date z)) = Some z
date_of _ = None

-- the boolean that a cell is, if it is one
abbrev pub bool_of : Cell → Option Bool
bool_of (leaf (bool b)) = Some b
bool_of _ = None

-- the text that a cell is, if it is one
abbrev pub text_of : Cell → Option (List ℕ)
text_of (leaf (text s)) = Some s
text_of _ = None

-- the byte string that a cell is, if it is one
abbrev pub bytes_of : Cell → Option (List ℕ)
bytes_of (leaf (bytes s)) = Some s
bytes_of _ = None

-- how many elements a list has, or pairs a map; any other cell has no such number
abbrev pub children_of : Cell → Option ℕ
children_of (list cs) = Some (length (list_of_cells cs))
children_of (pairs ps) = Some (length (list_of_pairs ps))
children_of _ = None

-- the body of the statistic of cells, for a kind
abbrev pub values_body : StatKind → List Cell → Body
values_body kind.Plain cells = body.Plain
values_body kind.Ints cells =
    let zs = filter_map int_of cells in body.Ints (least int_cmp zs) (greatest int_cmp zs) (total zs)
values_body kind.Bools cells = body.Bools (reduce ◌+◌ (map bit (filter_map bool_of cells)))
values_body kind.Dates cells = let zs = filter_map date_of cells in body.Dates (least int_cmp zs) (greatest int_cmp zs)
values_body kind.Texts cells =
    let ts = filter_map text_of cells in body.Texts (least text_cmp ts) (greatest text_cmp ts) (total (lengths ts))
values_body kind.Bins cells = body.Bins (total (lengths (filter_map bytes_of cells)))
values_body kind.Children cells =
    let ns = filter_map children_of cells in body.Children (least nat_cmp ns) (greatest nat_cmp ns) (children_total ns)

-- whether a cell is null
abbrev pub has_null : List Cell → Bool
has_null cells = list_any (λ c. not (is_value c)) cells

-- the statistic of the cells of a column of a kind
abbrev pub stat : StatKind → List Cell → Stat
stat k cells = record { count = length (values cells); nulls = Some (has_null cells); body = values_body k cells }

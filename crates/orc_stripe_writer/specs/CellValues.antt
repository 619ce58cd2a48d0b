-- The values among the cells of a column, by their kind (ORC specification, "Column Encodings").
use Rattle.std.specs.Prelude.{ℕ, ◌-◌, ℤ, pos, negsuc, nat_lt, if◌then◌else◌, Bool, Option, Some, None, List, length, option_map}
use Rattle.std.specs.List.{flat_map}
use Rattle.std.specs.Option.{option_to_list}
use Rattle.orc_values.specs.Cells.{Cell, null, leaf, list, struct, pairs, int, date, text, bytes, list_of_cells, list_of_pairs}
use Rattle.orc_stats.specs.Statistics.{bool_of}

-- the integer or the date's day in a cell
abbrev pub int_in : Cell → Option ℤ
int_in (leaf (int n)) = Some n
int_in (leaf (date n)) = Some n
int_in _ = None

-- the byte that stores a signed number of 8 bits
abbrev pub byte_of : ℤ → ℕ
byte_of (pos n) = if nat_lt n 256 then n else 0
byte_of (negsuc n) = if nat_lt n 256 then 255 - n else 0

-- the bytes of the text or of the byte string in a cell
abbrev pub bytes_in : Cell → Option (List ℕ)
bytes_in (leaf (text t)) = Some t
bytes_in (leaf (bytes t)) = Some t
bytes_in _ = None

-- the number of elements, fields or pairs of a cell that is not null
abbrev pub size_in : Cell → Option ℕ
size_in null = None
size_in (leaf a) = Some 0
size_in (list cs) = Some (length (list_of_cells cs))
size_in (struct cs) = Some (length (list_of_cells cs))
size_in (pairs ps) = Some (length (list_of_pairs ps))

-- the booleans among cells, in order
abbrev pub bools_in : List Cell → List Bool
bools_in cs = flat_map (λ c. option_to_list (bool_of c)) cs

-- the integers among cells, dates as days, in order
abbrev pub ints_in : List Cell → List ℤ
ints_in cs = flat_map (λ c. option_to_list (int_in c)) cs

-- the integers of TINYINT among cells as bytes, in order
abbrev pub number_bytes_in : List Cell → List ℕ
number_bytes_in cs = flat_map (λ c. option_to_list (option_map byte_of (int_in c))) cs

-- the bytes of strings and byte strings among cells, in order
abbrev pub all_bytes_in : List Cell → List (List ℕ)
all_bytes_in cs = flat_map (λ c. option_to_list (bytes_in c)) cs

-- the sizes of lists and maps among cells, in order
abbrev pub sizes_in : List Cell → List ℤ
sizes_in cs = flat_map (λ c. option_to_list (option_map pos (size_in c))) cs

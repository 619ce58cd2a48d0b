-- What `show` prints of a file: its tail, one item per line.
use Rattle.std.specs.Prelude.{◌≡◌, ◌⊎◌, ℕ, ◌+◌, List, [], ◌∷◌, ◌++◌, map, Bool, true, false, if◌then◌else◌, Option, Some, None, codes, decimal}
use Rattle.std.specs.List.{flat_map, join_with_byte}
use Rattle.std.specs.Fmt.{signed_decimal}
use Rattle.std.specs.Str.{is_utf8}
use Rattle.hex.specs.Hex.{encode_lower}
use Rattle.serde_json.specs.Data.{string}
use Rattle.serde_json.specs.Written.{compact_text}
use Rattle.orc_wire.specs.declared.stripe_info.StripeInfo.{StripeInfo}
use Rattle.orc_wire.specs.declared.footer.UserMetadataItem.{UserMetadataItem}
use Rattle.orc_json_rows.specs.Days.{date_text}
use Rattle.orc_trees.specs.SchemaText.{text}
use Rattle.orc_stats.specs.declared.stat.Stat.{Stat}
use Rattle.orc_stats.specs.declared.stat.Body.{Body}
use Rattle.orc_stats.specs.declared.stat.Body.TheVariants.{Plain, Ints, Bools, Dates, Texts, Bins, Children}
use Rattle.orc_tail.specs.declared.tail.Tail.{Tail}
use Rattle.orc_trees.specs.declared.fault.TypeFault.TheVariants as types
use Rattle.orc_tail.specs.declared.fault.FileFault.TheVariants as file
use Rattle.orc_cli_output.specs.declared.fault.CliFault.{CliFault}
use Rattle.orc_cli_output.specs.declared.fault.CliFault.TheVariants.{Types, File}

-- a number in decimal digits, or the word none
abbrev pub number_or_none : Option ℕ → List ℕ
number_or_none None = codes "none"
number_or_none (Some n) = decimal n

-- a version such as 0.11, or the word none if it has no numbers
abbrev pub version_text : List ℕ → List ℕ
version_text [] = codes "none"
version_text (n ∷ ns) = join_with_byte 46 (map decimal (n ∷ ns))

-- a text as JSON writes it, or `hex:` and the hexadecimal digits of its bytes if they aren't UTF-8
abbrev pub name_text : List ℕ → List ℕ
name_text bytes = if is_utf8 bytes then compact_text (string bytes) else codes "hex:" ++ encode_lower bytes

-- a word that says whether there are nulls
abbrev pub nulls_word : Option Bool → List ℕ
nulls_word None = codes "unknown"
nulls_word (Some true) = codes "yes"
nulls_word (Some false) = codes "no"

-- the name and the value of a part of a statistic, if it is known
abbrev pub known_line : {A : Type 0} → List ℕ → (A → List ℕ) → Option A → List ℕ
known_line name of None = []
known_line name of (Some x) = 32 ∷ (name ++ 32 ∷ of x)

-- the parts of a statistic that depend on the column's kind
abbrev pub body_text : Body → List ℕ
body_text Plain = []
body_text (Ints least greatest sum) =
    known_line (codes "min") signed_decimal least
    ++ (known_line (codes "max") signed_decimal greatest ++ known_line (codes "sum") signed_decimal sum)
body_text (Bools trues) = known_line (codes "true") decimal trues
body_text (Dates least greatest) = known_line (codes "min") date_text least ++ known_line (codes "max") date_text greatest
body_text (Texts least greatest sum) =
    known_line (codes "min") name_text least
    ++ (known_line (codes "max") name_text greatest ++ known_line (codes "sum") signed_decimal sum)
body_text (Bins sum) = known_line (codes "sum") signed_decimal sum
body_text (Children least greatest total) =
    known_line (codes "min") decimal least
    ++ (known_line (codes "max") decimal greatest ++ known_line (codes "sum") decimal total)

-- the line of a pair of user metadata: its name, and the hexadecimal digits of its value
abbrev pub pair_line : UserMetadataItem → List ℕ
pair_line pair = codes "meta " ++ (name_text pair.name ++ 32 ∷ (encode_lower pair.value ++ 10 ∷ []))

-- the line of a stripe: its offset, the lengths of its parts, and its number of rows
abbrev pub stripe_line : ℕ → StripeInfo → List ℕ
stripe_line n s =
    codes "stripe " ++ (decimal n
    ++ (codes " offset " ++ (decimal s.offset
    ++ (codes " index " ++ (decimal s.index_length
    ++ (codes " data " ++ (decimal s.data_length
    ++ (codes " footer " ++ (decimal s.footer_length
    ++ (codes " rows " ++ (decimal s.number_of_rows ++ 10 ∷ [])))))))))))

-- the line of a column: the number of values, whether there are nulls, and the parts that depend on its kind
abbrev pub column_line : ℕ → Stat → List ℕ
column_line n s =
    codes "column " ++ (decimal n
    ++ (codes " count " ++ (decimal s.count
    ++ (codes " nulls " ++ (nulls_word s.nulls
    ++ (body_text s.body ++ 10 ∷ []))))))

-- a line for each item; the items are numbered from this number on
abbrev pub numbered : {A : Type 0} → (ℕ → A → List ℕ) → ℕ → List A → List ℕ
numbered of n [] = []
numbered of n (x ∷ xs) = of n x ++ numbered of (n + 1) xs

-- the lines of the file as a whole
abbrev pub head_lines : Tail → List ℕ
head_lines tail =
    codes "schema " ++ (text tail.schema
    ++ (codes "\nversion " ++ (version_text tail.version
    ++ (codes "\nwriter " ++ (number_or_none tail.writer
    ++ 32 ∷ (number_or_none tail.writer_version
    ++ (codes "\nrows " ++ (decimal tail.rows
    ++ (codes "\nstride " ++ (decimal tail.stride ++ 10 ∷ []))))))))))

-- the lines of the file as a whole, of each pair of user metadata, of each stripe, and of each column's statistic
-- that the file has
abbrev pub show_lines : Tail → List ℕ
show_lines tail =
    head_lines tail
    ++ (flat_map pair_line tail.user
    ++ (numbered stripe_line 0 tail.stripes
    ++ numbered column_line 0 tail.file_stats))

-- The want of memory that `show` may fail with: that of types, for the schema's text, and that of files, in which the
-- program's own counts too.
abbrev pub IsWantOfShow : CliFault → Type 0
IsWantOfShow fault = (fault ≡ Types types.OutOfMemory) ⊎ (fault ≡ File file.OutOfMemory)

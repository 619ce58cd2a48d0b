-- A schema's text has no control character.
use Rattle.std.proofs.Common.{◌≡◌, ℕ, ◌<◌, ◌&&◌, ◌/◌, ◌%◌, List, [], ◌∷◌, ◌++◌, Bool, true, false, codes, refl, sym, ap, ◌∙◌, arith, append-nil}
use Rattle.std.specs.Prelude.{nat_lt}
use Rattle.std.specs.List.{list_all}
use Rattle.std.specs.Char.{is_control, digit_char, encode_utf8}
use Rattle.std.specs.Str.{chars, NoCharPasses}
use lib.Utf8.{encodes}
use Rattle.std.proofs.lemmas.Bool.{and_parts}
use Rattle.std.proofs.lemmas.Bool.Decides.{nat_tests}
use Rattle.std.proofs.lemmas.Str.{NoCharPasses-nil, NoCharPasses-append, encode_ascii}
use Rattle.orc_values.specs.declared.kind.Scalar.{Scalar}
use Rattle.orc_values.specs.declared.kind.Scalar.TheVariants as kind
use Rattle.orc_values.specs.Shapes.{Shape, scalar, list_of, map_of, struct_of, Fields, no_field, field}
use Rattle.orc_trees.specs.SchemaText.{kind_name, comma, colon, is_word, is_plain_name, two_digits, char_text, chars_text, name_text, text, fields_text}
use Rattle.orc_trees.proofs.NameTexts.{AreWords, words, CharForm, tick, slash, control, raw, char_form, control_small, plain_text, quoted_text}

-- no character is a control character
abbrev Shown : List ℕ → Type 0
Shown bytes = NoCharPasses is_control bytes

both : (a b : List ℕ) → Shown a → Shown b → Shown (a ++ b)
both = NoCharPasses-append is_control

-- a byte that is seen: U+0020 to U+007E
abbrev is_seen : ℕ → Bool
is_seen b = nat_lt 31 b && nat_lt b 127

seen_ascii : (b : ℕ) → is_seen b ≡ true → b < 128
seen_ascii b h = grind (arith, nat_tests)

seen_shown : (b : ℕ) → is_seen b ≡ true → is_control b ≡ false
seen_shown b h = grind (arith, nat_tests)

one_shown : (c : ℕ) → is_control c ≡ false → Shown (encode_utf8 c)
one_shown c h = (c ∷ [], append-nil (encode_utf8 c), (h, tt))

seen : (bytes : List ℕ) → list_all is_seen bytes ≡ true → Shown bytes
seen [] h = NoCharPasses-nil is_control
seen (b ∷ bytes) h =
    let p = and_parts (is_seen b) (list_all is_seen bytes) h in
    both (b ∷ []) bytes (rw (sym (encode_ascii b (seen_ascii b p.0))) (one_shown b (seen_shown b p.0))) (seen bytes p.1)

kind_shown : (k : Scalar) → Shown (kind_name k)
kind_shown kind.Boolean = seen (codes "boolean") refl
kind_shown kind.Byte = seen (codes "tinyint") refl
kind_shown kind.Short = seen (codes "smallint") refl
kind_shown kind.Int = seen (codes "int") refl
kind_shown kind.Long = seen (codes "bigint") refl
kind_shown kind.String = seen (codes "string") refl
kind_shown kind.Binary = seen (codes "binary") refl
kind_shown kind.Date = seen (codes "date") refl

word_seen : (b : ℕ) → is_word b ≡ true → is_seen b ≡ true
unfolding is_word
word_seen b h = grind (arith, nat_tests)

words_seen : (name : List ℕ) → AreWords name → list_all is_seen name ≡ true
words_seen [] all = refl
words_seen (b ∷ name) all = rw (word_seen b all.0) (words_seen name all.1)

digit_seen : (d : ℕ) → d < 16 → is_seen (digit_char d) ≡ true
digit_seen d h = grind (arith, nat_tests)

digits_seen : (c : ℕ) → c < 160 → list_all is_seen (two_digits c) ≡ true
digits_seen c h =
    let first : c / 16 < 16 = omega arith in
    let second : c % 16 < 16 = omega arith in
    rw (digit_seen (c / 16) first, digit_seen (c % 16) second) refl

char_shown : (c : ℕ) → Shown (char_text c)
char_shown c = by (char_form c) where
  by : CharForm c → Shown (char_text c)
  by (tick p e) = rw e (seen (codes "``") refl)
  by (slash p e) = rw e (seen (codes "\\\\") refl)
  by (control p e) = rw e (both (codes "\\u00") (two_digits c) (seen (codes "\\u00") refl) (seen (two_digits c) (digits_seen c (control_small c p))))
  by (raw p o n e) = rw e (one_shown c n)

chars_shown : (cs : List ℕ) → Shown (chars_text cs)
chars_shown [] = NoCharPasses-nil is_control
chars_shown (c ∷ cs) = both (char_text c) (chars_text cs) (char_shown c) (chars_shown cs)

name_shown : (name : List ℕ) → Shown (name_text name)
name_shown name = by (is_plain_name name) refl where
  by : (a : Bool) → is_plain_name name ≡ a → Shown (name_text name)
  by true e = rw (plain_text name e) (seen name (words_seen name (words name e)))
  by false e =
      rw (quoted_text name e) (both (codes "`") (chars_text (chars name) ++ codes "`") (seen (codes "`") refl) (both (chars_text (chars name)) (codes "`") (chars_shown (chars name)) (seen (codes "`") refl)))

comma_shown : (first : Bool) → Shown (comma first)
comma_shown true = NoCharPasses-nil is_control
comma_shown false = seen (codes ",") refl

mutual
  pub text_shown : (s : Shape) → Shown (text s)
  text_shown (scalar k o) = kind_shown k
  text_shown (list_of s o) = both (codes "array<" ++ text s) (codes ">") (both (codes "array<") (text s) (seen (codes "array<") refl) (text_shown s)) (seen (codes ">") refl)
  text_shown (map_of s t o) =
      both (codes "map<" ++ text s ++ codes "," ++ text t) (codes ">")
      (both (codes "map<" ++ text s ++ codes ",") (text t) (both (codes "map<" ++ text s) (codes ",") (both (codes "map<") (text s) (seen (codes "map<") refl) (text_shown s)) (seen (codes ",") refl)) (text_shown t))
      (seen (codes ">") refl)
  text_shown (struct_of fs o) = both (codes "struct<" ++ fields_text true fs) (codes ">") (both (codes "struct<") (fields_text true fs) (seen (codes "struct<") refl) (fields_shown true fs)) (seen (codes ">") refl)

  fields_shown : (first : Bool) (fs : Fields) → Shown (fields_text first fs)
  fields_shown first no_field = NoCharPasses-nil is_control
  fields_shown first (field name s fs) =
      both (comma first ++ name_text name ++ colon ++ text s) (fields_text false fs)
      (both (comma first ++ name_text name ++ colon) (text s) (both (comma first ++ name_text name) colon (both (comma first) (name_text name) (comma_shown first) (name_shown name)) (seen colon refl)) (text_shown s))
      (fields_shown false fs)

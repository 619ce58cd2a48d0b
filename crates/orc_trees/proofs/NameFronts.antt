-- The name that stands in front of a text, and what stands there not.
use Rattle.std.proofs.Common.{◌≡◌, ◌≢◌, ℕ, zero, suc, ◌+◌, ◌*◌, ◌<◌, ◌==◌, ◌/◌, ◌%◌, ◌⊎◌, inl, inr, List, [], ◌∷◌, ◌++◌, length, get_or, Bool, true, false, codes, refl, sym, ap, ◌∙◌, append_assoc, arith, append-nil, length-append, String, string_bytes}
use Rattle.std.specs.Prelude.{map, IfNone, Option, None, Some, ◌&&◌, not}
use Rattle.std.specs.List.{list_all}
use Rattle.std.specs.Char.{IsScalar, IsDigitOf, encode_utf8, digit_char, digit_value, is_control, is_ascii_uppercase}
use Rattle.std.proofs.lemmas.Bool.Decides.{nat_tests}
use Rattle.std.proofs.Math.Dec.{eqb-suc-zero}
use Rattle.std.proofs.lemmas.List.{append_cancel_left}
use Rattle.std.specs.Str.{chars, IsUtf8}
use lib.Utf8.{encodes}
use Rattle.std.proofs.lemmas.Str.{encodes-chars, IsUtf8-from_is_utf8, is_utf8-from_IsUtf8, IsUtf8-string_bytes, encode_same, encode_ascii, digit_value-digit_char, chars-append, chars_past_char, chars-nil, IsUtf8-encode, length-encode, len_utf8_bounds}
use Rattle.orc_trees.specs.SchemaText.{colon, is_word, is_plain_name, two_digits, char_text, chars_text, name_text, IsName}
use Rattle.orc_trees.specs.TextFronts.{NoNameFront}
use Rattle.orc_trees.proofs.NameTexts.{AreWords, words, CharForm, tick, slash, control, raw, char_form, control_small, begins, digits_same, char_same, chars_same, plain_text, quoted_text, quoted_front}

pub if_none : {X P : Type 0} (r : Option X) → P → IfNone r P
if_none None p = p
if_none (Some x) p = tt

-- ---- plain names

word_at : (name : List ℕ) (i : ℕ) → AreWords name → i < length name → is_word (get_or name i 0) ≡ true
word_at [] i all h = absurd (omega arith)
word_at (b ∷ name) zero all h = all.0
word_at (b ∷ name) (suc i) all h = word_at name i all.1 (omega arith)

colon_no_word : is_word 58 ≡ false
unfolding is_word
colon_no_word = refl

pub no_colon : (name : List ℕ) → is_plain_name name ≡ true → (i : ℕ) → i < length name → get_or name i 0 ≢ 58
no_colon name plain i h e =
    let wrong : true ≡ false = sym (word_at name i (words name plain) h) ∙ ap is_word e ∙ colon_no_word in
    cc

both_false : (p q : Bool) → q ≡ false → (p && q) ≡ false
both_false true q h = h
both_false false q h = refl

other_word : (name : List ℕ) (i : ℕ) → i < length name → is_word (get_or name i 0) ≡ false → list_all is_word name ≡ false
other_word [] i h e = absurd (omega arith)
other_word (b ∷ name) zero h e = rw e refl
other_word (b ∷ name) (suc i) h e = both_false (is_word b) (list_all is_word name) (other_word name i (omega arith) e)

pub not_plain : (name : List ℕ) (i : ℕ) → i < length name → is_word (get_or name i 0) ≡ false → false ≡ is_plain_name name
unfolding is_plain_name
not_plain [] i h e = refl
not_plain (b ∷ name) i h e = sym (other_word (b ∷ name) i h e)

not_zero : (n : ℕ) → not (suc n == 0) ≡ true
not_zero n = rw (eqb-suc-zero n) refl

pub plain_is : (name : List ℕ) → list_all is_word name ≡ true → not (length name == 0) ≡ is_plain_name name
unfolding is_plain_name
plain_is [] h = refl
plain_is (b ∷ name) h = not_zero (length name) ∙ sym h

-- ---- digits

digit_small : (d : ℕ) → d < 16 → digit_char d < 128
digit_small d h = grind (arith, nat_tests)

digit_no_upper : (d : ℕ) → d < 16 → is_ascii_uppercase (digit_char d) ≡ false
digit_no_upper d h = grind (arith, nat_tests)

-- the character in front is the digit in front
digit_begins : (text more rest : List ℕ) (c d : ℕ) → text ≡ encode_utf8 c ++ more → d < 16 → text ≡ digit_char d ∷ rest → c ≡ digit_char d
digit_begins text more rest c d h small e = begins c (digit_char d) rest more (digit_small d small) (sym e ∙ h)

pub no_digit : (text more : List ℕ) (c : ℕ) → text ≡ encode_utf8 c ++ more → (digit_value c < 16 → ⊥) → (d : ℕ) (rest : List ℕ) → d < 16 → text ≢ digit_char d ∷ rest
no_digit text more c h none d rest small e =
    let value : digit_value c ≡ d = ap digit_value (digit_begins text more rest c d h small e) ∙ digit_value-digit_char d (omega arith) in
    none (omega (arith, value))

pub no_upper : (text more : List ℕ) (c : ℕ) → text ≡ encode_utf8 c ++ more → is_ascii_uppercase c ≡ true → (d : ℕ) (rest : List ℕ) → d < 16 → text ≢ digit_char d ∷ rest
no_upper text more c h upper d rest small e =
    let wrong : true ≡ false = sym upper ∙ ap is_ascii_uppercase (digit_begins text more rest c d h small e) ∙ digit_no_upper d small in
    cc

pub digit_is : (text more : List ℕ) (c d : ℕ) → text ≡ encode_utf8 c ++ more → IsDigitOf c d → d < 16 → is_ascii_uppercase c ≡ false → text ≡ digit_char d ∷ more
digit_is text more c d h is small lower =
    let same : c ≡ digit_char d = grind (arith, nat_tests, is) in
    h ∙ ap (λ (n : ℕ). encode_utf8 n ++ more) same ∙ ap (λ (r : List ℕ). r ++ more) (encode_ascii (digit_char d) (digit_small d small))

pub none_left : (text : List ℕ) → length text ≡ 0 → (d : ℕ) (rest : List ℕ) → d < 16 → text ≢ digit_char d ∷ rest
none_left text h d rest small e = omega (arith, ap length e)

-- ---- characters

pub raw_text : (c : ℕ) → c ≢ 96 → c ≢ 92 → is_control c ≡ false → char_text c ≡ encode_utf8 c
raw_text c p q r = by (char_form c) where
  by : CharForm c → char_text c ≡ encode_utf8 c
  by (tick e t) = absurd (p e)
  by (slash e t) = absurd (q e)
  by (control e t) = (let wrong : true ≡ false = sym e ∙ r in cc)
  by (raw a b d t) = t

control_text : (c : ℕ) → is_control c ≡ true → char_text c ≡ 92 ∷ 117 ∷ 48 ∷ 48 ∷ two_digits c
control_text c p = by (char_form c) where
  by : CharForm c → char_text c ≡ 92 ∷ 117 ∷ 48 ∷ 48 ∷ two_digits c
  by (tick e t) = (let wrong : true ≡ false = sym p ∙ ap is_control e in cc)
  by (slash e t) = (let wrong : true ≡ false = sym p ∙ ap is_control e in cc)
  by (control e t) = t
  by (raw a b d t) = (let wrong : true ≡ false = sym p ∙ d in cc)

two_digits_are : (high low : ℕ) → high < 16 → low < 16 → two_digits (high * 16 + low) ≡ digit_char high ∷ digit_char low ∷ []
two_digits_are high low p q =
    let first : (high * 16 + low) / 16 ≡ high = omega arith in
    let second : (high * 16 + low) % 16 ≡ low = omega arith in
    rw (first, second) refl

-- an escaped character
pub escaped : (high low : ℕ) (text rest : List ℕ) → high < 16 → low < 16 → text ≡ codes "u00" ++ (digit_char high ∷ digit_char low ∷ rest) → is_control (high * 16 + low) ≡ true → 92 ∷ text ≡ char_text (high * 16 + low) ++ rest
escaped high low text rest p q e is =
    ap (λ (r : List ℕ). 92 ∷ r) e ∙ ap (λ (r : List ℕ). 92 ∷ 117 ∷ 48 ∷ 48 ∷ r ++ rest) (sym (two_digits_are high low p q)) ∙ ap (λ (r : List ℕ). r ++ rest) (sym (control_text (high * 16 + low) is))

-- no character is escaped, if neither a backslash nor a control character's number stands behind the backslash
pub not_escaped : (text : List ℕ) → ((rest : List ℕ) → text ≢ codes "\\" ++ rest) → ((c : ℕ) (rest : List ℕ) → is_control c ≡ true → text ≢ codes "u00" ++ (two_digits c ++ rest)) → (c : ℕ) (rest : List ℕ) → 92 ∷ text ≢ char_text c ++ rest
not_escaped text slashes numbers c rest h = by (char_form c) where
  front : {u : List ℕ} → char_text c ≡ u → 92 ∷ text ≡ u ++ rest
  front {u} f = h ∙ ap (λ (r : List ℕ). r ++ rest) f

  by : CharForm c → ⊥
  by (tick q f) = let g : ◌≡◌ {A = ℕ} 92 96 = ap (λ (b : List ℕ). get_or b 0 0) (front f) in omega (arith, g)
  by (slash q f) =
      let g = front f in
      let k : text ≡ codes "\\" ++ rest = cc in
      slashes rest k
  by (control q f) =
      let g = front f in
      let k : text ≡ codes "u00" ++ (two_digits c ++ rest) = cc in
      numbers c rest q k
  by (raw q r s f) = r (begins c 92 text rest (omega arith) (front f))

-- behind "u00" no digit stands
pub no_first : (text digits : List ℕ) → text ≡ codes "u00" ++ digits → ((d : ℕ) (rest : List ℕ) → d < 16 → digits ≢ digit_char d ∷ rest) → (c : ℕ) (rest : List ℕ) → is_control c ≡ true → text ≢ codes "u00" ++ (two_digits c ++ rest)
no_first text digits e none c rest p h =
    none (c / 16) (digit_char (c % 16) ∷ rest) (omega (arith, control_small c p)) (append_cancel_left (codes "u00") digits (two_digits c ++ rest) (sym e ∙ h))

-- no second one
pub no_second : (text last : List ℕ) (high : ℕ) → text ≡ codes "u00" ++ (digit_char high ∷ last) → ((d : ℕ) (rest : List ℕ) → d < 16 → last ≢ digit_char d ∷ rest) → (c : ℕ) (rest : List ℕ) → is_control c ≡ true → text ≢ codes "u00" ++ (two_digits c ++ rest)
no_second text last high e none c rest p h =
    let g = append_cancel_left (codes "u00") (digit_char high ∷ last) (two_digits c ++ rest) (sym e ∙ h) in
    let k : last ≡ digit_char (c % 16) ∷ rest = cc in
    none (c % 16) rest (omega arith) k

-- two, of a number that is no control character's
pub no_control : (text more : List ℕ) (high low : ℕ) → high < 16 → low < 16 → text ≡ codes "u00" ++ (digit_char high ∷ digit_char low ∷ more) → is_control (high * 16 + low) ≡ false → (c : ℕ) (rest : List ℕ) → is_control c ≡ true → text ≢ codes "u00" ++ (two_digits c ++ rest)
no_control text more high low p q e other c rest is h =
    let g = append_cancel_left (codes "u00") (digit_char high ∷ digit_char low ∷ more) (two_digits c ++ rest) (sym e ∙ h) in
    let first : digit_char high ≡ digit_char (c / 16) = cc in
    let second : digit_char low ≡ digit_char (c % 16) = cc in
    let small : c < 160 = control_small c is in
    let a : high ≡ c / 16 = digits_same high (c / 16) (omega arith) (omega arith) first in
    let b : low ≡ c % 16 = digits_same low (c % 16) (omega arith) (omega arith) second in
    let same : high * 16 + low ≡ c = omega (arith, a, b) in
    let wrong : true ≡ false = sym is ∙ ap is_control (sym same) ∙ other in
    cc

-- a character's text takes at least a byte
pub char_long : (c : ℕ) → 0 < length (char_text c)
char_long c = by (char_form c) where
  by : CharForm c → 0 < length (char_text c)
  by (tick p e) = rw e (omega arith)
  by (slash p e) = rw e (omega arith)
  by (control p e) = rw e (omega arith)
  by (raw p o n e) = rw e (omega (arith, length-encode c, len_utf8_bounds c))

-- nothing is left
pub nothing : (text : List ℕ) → length text ≡ 0 → (c : ℕ) (rest : List ℕ) → text ≢ char_text c ++ rest
nothing text h c rest e = omega (arith, ap length e, length-append (char_text c) rest, char_long c)

-- a character that doesn't stand as it is
pub not_raw : (text more : List ℕ) (c : ℕ) → text ≡ encode_utf8 c ++ more → ((rest : List ℕ) → text ≢ codes "``" ++ rest) → ((rest : List ℕ) → text ≢ codes "\\" ++ rest) → (c ≡ 96) ⊎ (is_control c ≡ true) → (d : ℕ) (rest : List ℕ) → text ≢ char_text d ++ rest
not_raw text more c e ticks slashes wrong d rest h = by (char_form d) where
  front : {u : List ℕ} → char_text d ≡ u → text ≡ u ++ rest
  front {u} f = h ∙ ap (λ (r : List ℕ). r ++ rest) f

  by : CharForm d → ⊥
  by (tick q f) = ticks rest (front f)
  by (slash q f) = slashes (92 ∷ rest) (front f)
  by (control q f) = slashes (117 ∷ 48 ∷ 48 ∷ two_digits d ++ rest) (front f)
  by (raw q r s f) =
      let same : c ≡ d = (encode_same c d more rest (sym e ∙ front f)).0 in
      elim wrong [
        | inl p ↦ q (sym same ∙ p)
        | inr p ↦ (let no : true ≡ false = sym p ∙ ap is_control same ∙ s in cc)
      ]

-- a character that does
pub stands_raw : (text more : List ℕ) (c : ℕ) → text ≡ encode_utf8 c ++ more → ((rest : List ℕ) → text ≢ codes "\\" ++ rest) → c ≢ 96 → is_control c ≡ false → text ≡ char_text c ++ more
stands_raw text more c e slashes tick_not other =
    let apart : c ≢ 92 = λ p. slashes more (e ∙ ap (λ (n : ℕ). encode_utf8 n ++ more) p ∙ ap (λ (r : List ℕ). r ++ more) (encode_ascii 92 (omega arith))) in
    e ∙ ap (λ (r : List ℕ). r ++ more) (sym (raw_text c tick_not apart other))

-- no characters of a name, up to the backtick and the colon that end it, stand in front
abbrev pub NoEnd : List ℕ → Type 0
NoEnd bytes = (cs rest : List ℕ) → bytes ≢ chars_text cs ++ (codes "`:" ++ rest)

pub chars_text-append : (cs ds : List ℕ) → chars_text (cs ++ ds) ≡ chars_text cs ++ chars_text ds
chars_text-append [] ds = refl
chars_text-append (c ∷ cs) ds = rw (chars_text-append cs ds) (sym (append_assoc (char_text c) (chars_text cs) (chars_text ds)))

-- one more character
chars_more : (name : List ℕ) (c : ℕ) → IsUtf8 name → IsScalar c → chars (name ++ encode_utf8 c) ≡ chars name ++ c ∷ []
chars_more name c is scalar =
    let one : chars (encode_utf8 c) ≡ c ∷ [] = chars_past_char (encode_utf8 c) [] c (IsUtf8-encode c scalar) (sym (append-nil (encode_utf8 c))) ∙ ap (λ (r : List ℕ). c ∷ r) chars-nil in
    chars-append name (encode_utf8 c) is ∙ ap (λ (r : List ℕ). chars name ++ r) one

map_same : (cs : List ℕ) → map (λ (c : ℕ). c) cs ≡ cs
map_same [] = refl
map_same (c ∷ cs) = ap (λ (r : List ℕ). c ∷ r) (map_same cs)

pub put_more : (old more begun cs : List ℕ) (c : ℕ) → old ≡ begun ++ chars_text cs → more ≡ old ++ char_text c → more ≡ begun ++ chars_text (cs ++ c ∷ [])
put_more old more begun cs c h e =
    e ∙ ap (λ (r : List ℕ). r ++ char_text c) h ∙ append_assoc begun (chars_text cs) (char_text c)
    ∙ ap (λ (r : List ℕ). begun ++ r) (ap (λ (r : List ℕ). chars_text cs ++ r) (sym (append-nil (char_text c))) ∙ sym (chars_text-append cs (c ∷ [])))

-- all characters stand between backticks
pub put_all : (old begun end name cs : List ℕ) → is_plain_name name ≡ false → begun ≡ old ++ codes "`" → end ≡ begun ++ chars_text cs → map (λ (c : ℕ). c) cs ≡ chars name → old ++ name_text name ≡ end ++ codes "`"
put_all old begun end name cs other h e all =
    let same : chars_text cs ≡ chars_text (chars name) = ap chars_text (sym (map_same cs) ∙ all) in
    ap (λ (r : List ℕ). old ++ r) (quoted_text name other) ∙ sym (append_assoc old (codes "`") (chars_text (chars name) ++ codes "`")) ∙ ap (λ (r : List ℕ). r ++ (chars_text (chars name) ++ codes "`")) (sym h)
    ∙ sym (append_assoc begun (chars_text (chars name)) (codes "`")) ∙ ap (λ (r : List ℕ). (begun ++ r) ++ codes "`") (sym same) ∙ ap (λ (r : List ℕ). r ++ codes "`") (sym e)

pub text_begins : (name text : List ℕ) → name ≡ [] → text ≡ chars_text (chars name) ++ text
text_begins name text e = ap (λ (r : List ℕ). chars_text r ++ text) (sym (ap chars e ∙ chars-nil))

pub text_more : (text name left rest : List ℕ) (c : ℕ) → IsUtf8 name → IsScalar c → text ≡ chars_text (chars name) ++ left → left ≡ char_text c ++ rest → text ≡ chars_text (chars (name ++ encode_utf8 c)) ++ rest
text_more text name left rest c is scalar h e =
    let same : chars_text (chars (name ++ encode_utf8 c)) ≡ chars_text (chars name) ++ char_text c = ap chars_text (chars_more name c is scalar) ∙ chars_text-append (chars name) (c ∷ []) ∙ ap (λ (r : List ℕ). chars_text (chars name) ++ r) (append-nil (char_text c)) in
    h ∙ ap (λ (r : List ℕ). chars_text (chars name) ++ r) e ∙ sym (append_assoc (chars_text (chars name)) (char_text c) rest) ∙ ap (λ (r : List ℕ). r ++ rest) (sym same)

-- no end here, if none stands behind the next character
pub end_later : (left rest : List ℕ) (c : ℕ) → ((more : List ℕ) → left ≢ codes "`:" ++ more) → left ≡ char_text c ++ rest → NoEnd rest → NoEnd left
end_later left rest c goes_on e none [] more h = goes_on more h
end_later left rest c goes_on e none (d ∷ ds) more h =
    none ds more (char_same c d rest (chars_text ds ++ (codes "`:" ++ more)) (sym e ∙ h ∙ append_assoc (char_text d) (chars_text ds) (codes "`:" ++ more))).1

-- no end here, if no character stands here
pub no_end : (left : List ℕ) → ((more : List ℕ) → left ≢ codes "`:" ++ more) → ((c : ℕ) (rest : List ℕ) → left ≢ char_text c ++ rest) → NoEnd left
no_end left goes_on none [] more h = goes_on more h
no_end left goes_on none (d ∷ ds) more h = none d (chars_text ds ++ (codes "`:" ++ more)) (h ∙ append_assoc (char_text d) (chars_text ds) (codes "`:" ++ more))

pub char_shorter : (left rest : List ℕ) (c : ℕ) → left ≡ char_text c ++ rest → length rest < length left
char_shorter left rest c e = omega (arith, ap length e, length-append (char_text c) rest, char_long c)

-- ---- names

pub plain_front : (text name : List ℕ) (rest : List ℕ) → is_plain_name name ≡ true → text ≡ name ++ (colon ++ rest) → text ≡ name_text name ++ (colon ++ rest)
plain_front text name rest plain h = h ∙ ap (λ (r : List ℕ). r ++ (colon ++ rest)) (sym (plain_text name plain))

pub ticked_front : (text inner name rest : List ℕ) → is_plain_name name ≡ false → text ≡ codes "`" ++ inner → inner ≡ chars_text (chars name) ++ (codes "`:" ++ rest) → text ≡ name_text name ++ (colon ++ rest)
ticked_front text inner name rest other h e = h ∙ ap (λ (r : List ℕ). codes "`" ++ r) e ∙ sym (quoted_front name rest other)

-- why no name stands in front: no plain one does, and none in backticks
abbrev pub NoPlain : List ℕ → Type 0
NoPlain text = (name rest : List ℕ) → is_plain_name name ≡ true → text ≢ name ++ (colon ++ rest)

pub no_front_name : (text : List ℕ) → NoPlain text → ((name rest : List ℕ) → IsName name → is_plain_name name ≡ false → text ≢ codes "`" ++ (chars_text (chars name) ++ (codes "`:" ++ rest))) → NoNameFront text
no_front_name text plain ticked name rest is h = by (is_plain_name name) refl where
  by : (a : Bool) → is_plain_name name ≡ a → ⊥
  by true e = plain name rest e (h ∙ ap (λ (r : List ℕ). r ++ (colon ++ rest)) (plain_text name e))
  by false e = ticked name rest is e (h ∙ quoted_front name rest e)

pub no_end_inside : (text inner : List ℕ) → text ≡ codes "`" ++ inner → NoEnd inner → (name rest : List ℕ) → IsName name → is_plain_name name ≡ false → text ≢ codes "`" ++ (chars_text (chars name) ++ (codes "`:" ++ rest))
no_end_inside text inner e none name rest is other h = none (chars name) rest (append_cancel_left (codes "`") inner (chars_text (chars name) ++ (codes "`:" ++ rest)) (sym e ∙ h))

-- the name in backticks is a plain one
pub plain_inside : (text inner name rest : List ℕ) → IsUtf8 name → text ≡ codes "`" ++ inner → inner ≡ chars_text (chars name) ++ (codes "`:" ++ rest) → is_plain_name name ≡ true → (other more : List ℕ) → IsName other → is_plain_name other ≡ false → text ≢ codes "`" ++ (chars_text (chars other) ++ (codes "`:" ++ more))
plain_inside text inner name rest is h e plain other more named apart g =
    let k = append_cancel_left (codes "`") inner (chars_text (chars other) ++ (codes "`:" ++ more)) (sym h ∙ g) in
    let r = chars_same (chars name) (chars other) rest more (sym e ∙ k) in
    let same : name ≡ other = sym (encodes-chars name is) ∙ ap encodes r.0 ∙ encodes-chars other (IsUtf8-from_is_utf8 other named) in
    let wrong : true ≡ false = sym plain ∙ ap is_plain_name same ∙ apart in
    cc

pub string_name : {Z : Type 0} (name : String Z) → IsName (string_bytes name)
string_name name = is_utf8-from_IsUtf8 (string_bytes name) (IsUtf8-string_bytes name)

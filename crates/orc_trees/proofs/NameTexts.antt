-- A name's text is of one name alone, whatever stands behind the colon.
use Rattle.std.proofs.Common.{◌≡◌, ◌≢◌, ℕ, ◌<◌, ◌==◌, ◌/◌, ◌%◌, List, [], ◌∷◌, ◌++◌, get_or, Bool, true, false, codes, refl, sym, ap, ◌∙◌, append_assoc, arith}
use Rattle.std.proofs.lemmas.Bool.{and_parts, eqb-true}
use Rattle.std.proofs.lemmas.Bool.Decides.{nat_tests}
use Rattle.std.specs.List.{AllByRecursion, list_all}
use Rattle.std.specs.Char.{is_control, digit_char, digit_value, encode_utf8}
use Rattle.std.specs.Str.{chars}
use lib.Utf8.{encodes}
use Rattle.std.proofs.lemmas.Str.{char_from_byte, encode_same, digit_value-digit_char, encodes-chars, IsUtf8-from_is_utf8}
use Rattle.orc_trees.specs.SchemaText.{colon, is_word, is_plain_name, two_digits, char_text, chars_text, name_text, IsName}

-- ---- plain names

-- each byte is a word's
abbrev pub AreWords : List ℕ → Type 0
AreWords bytes = AllByRecursion (λ b. is_word b ≡ true) bytes

all_words : (name : List ℕ) → list_all is_word name ≡ true → AreWords name
all_words [] h = tt
all_words (b ∷ name) h = let p = and_parts (is_word b) (list_all is_word name) h in (p.0, all_words name p.1)

pub words : (name : List ℕ) → is_plain_name name ≡ true → AreWords name
unfolding is_plain_name
words [] h = tt
words (b ∷ name) h = all_words (b ∷ name) h

word_first : (a b : ℕ) (v x y : List ℕ) → is_word b ≡ false → AreWords (a ∷ v) → b ∷ x ≡ (a ∷ v) ++ y → ⊥
word_first a b v x y other all h =
    let e : b ≡ a = cc in
    let f : true ≡ false = sym all.0 ∙ ap is_word (sym e) ∙ other in
    cc

-- no plain name begins with a byte that is no word's
no_plain : (name : List ℕ) (b : ℕ) (x y : List ℕ) → is_word b ≡ false → is_plain_name name ≡ true → b ∷ x ≡ name ++ y → ⊥
unfolding is_plain_name
no_plain [] b x y other plain h = cc
no_plain (a ∷ v) b x y other plain h = word_first a b v x y other (words (a ∷ v) plain) h

-- words in front of two bytes that are none
pub one_front : (v w : List ℕ) (a b : ℕ) (x y : List ℕ) → AreWords v → AreWords w → is_word a ≡ false → is_word b ≡ false → v ++ (a ∷ x) ≡ w ++ (b ∷ y) → (v ≡ w) × (a ≡ b) × (x ≡ y)
one_front [] [] a b x y vs ws na nb h = (refl, cc, cc)
one_front [] (c ∷ w) a b x y vs ws na nb h = absurd (word_first c a w x (b ∷ y) na ws h)
one_front (c ∷ v) [] a b x y vs ws na nb h = absurd (word_first c b v y (a ∷ x) nb vs (sym h))
one_front (c ∷ v) (d ∷ w) a b x y vs ws na nb h =
    let e : c ≡ d = cc in
    let f : v ++ (a ∷ x) ≡ w ++ (b ∷ y) = cc in
    let r = one_front v w a b x y vs.1 ws.1 na nb f in
    (rw (e, r.0) refl, r.1, r.2)

pub colon_ends : is_word 58 ≡ false
unfolding is_word
colon_ends = refl

pub bracket_ends : is_word 62 ≡ false
unfolding is_word
bracket_ends = refl

tick_ends : is_word 96 ≡ false
unfolding is_word
tick_ends = refl

-- ---- characters in backticks

-- the four forms of a character's text
pub data CharForm (c : ℕ) : Type 0 where
  tick : c ≡ 96 → char_text c ≡ 96 ∷ 96 ∷ [] → CharForm c
  slash : c ≡ 92 → char_text c ≡ 92 ∷ 92 ∷ [] → CharForm c
  control : is_control c ≡ true → char_text c ≡ 92 ∷ 117 ∷ 48 ∷ 48 ∷ two_digits c → CharForm c
  raw : c ≢ 96 → c ≢ 92 → is_control c ≡ false → char_text c ≡ encode_utf8 c → CharForm c

other_number : (m n : ℕ) → (m == n) ≡ false → m ≢ n
other_number m n h e = grind (arith, nat_tests)

pub char_form : (c : ℕ) → CharForm c
unfolding char_text
char_form c = by (c == 96) (c == 92) (is_control c) refl refl refl where
  by : (p q r : Bool) → (c == 96) ≡ p → (c == 92) ≡ q → is_control c ≡ r → CharForm c
  by true q r e f g = tick (eqb-true c 96 e) (rw e refl)
  by false true r e f g = slash (eqb-true c 92 f) (rw (e, f) refl)
  by false false true e f g = control g (rw (e, f, g) refl)
  by false false false e f g = raw (other_number c 96 e) (other_number c 92 f) g (rw (e, f, g) refl)

pub control_small : (c : ℕ) → is_control c ≡ true → c < 160
control_small c h = grind (arith, nat_tests)

pub digits_same : (a b : ℕ) → a < 36 → b < 36 → digit_char a ≡ digit_char b → a ≡ b
digits_same a b p q h = sym (digit_value-digit_char a p) ∙ ap digit_value h ∙ digit_value-digit_char b q

two_digits_same : (c d : ℕ) (x y : List ℕ) → c < 160 → d < 160 → two_digits c ++ x ≡ two_digits d ++ y → (c ≡ d) × (x ≡ y)
two_digits_same c d x y p q h =
    let high : digit_char (c / 16) ≡ digit_char (d / 16) = cc in
    let low : digit_char (c % 16) ≡ digit_char (d % 16) = cc in
    let rest : x ≡ y = cc in
    let first : c / 16 ≡ d / 16 = digits_same (c / 16) (d / 16) (omega arith) (omega arith) high in
    let second : c % 16 ≡ d % 16 = digits_same (c % 16) (d % 16) (omega arith) (omega arith) low in
    (omega (arith, first, second), rest)

-- a character that begins with a byte of ASCII is this byte
pub begins : (d b : ℕ) (x y : List ℕ) → b < 128 → b ∷ x ≡ encode_utf8 d ++ y → d ≡ b
begins d b x y p h = char_from_byte (b ∷ x) y d h p (omega arith)

-- the text of one character
pub char_same : (c d : ℕ) (x y : List ℕ) → char_text c ++ x ≡ char_text d ++ y → (c ≡ d) × (x ≡ y)
char_same c d x y h = by (char_form c) (char_form d) where
  front : {t u : List ℕ} → char_text c ≡ t → char_text d ≡ u → t ++ x ≡ u ++ y
  front {t} {u} e f = sym (ap (λ (r : List ℕ). r ++ x) e) ∙ h ∙ ap (λ (r : List ℕ). r ++ y) f

  by : CharForm c → CharForm d → (c ≡ d) × (x ≡ y)
  by (tick p e) (tick q f) = let g = front e f in (p ∙ sym q, cc)
  by (tick p e) (slash q f) = let g : ◌≡◌ {A = ℕ} 96 92 = ap (λ (b : List ℕ). get_or b 0 0) (front e f) in absurd (omega (arith, g))
  by (tick p e) (control q f) = let g : ◌≡◌ {A = ℕ} 96 92 = ap (λ (b : List ℕ). get_or b 0 0) (front e f) in absurd (omega (arith, g))
  by (tick p e) (raw q r s f) = absurd (q (begins d 96 (96 ∷ x) y (omega arith) (front e f)))
  by (slash p e) (tick q f) = let g : ◌≡◌ {A = ℕ} 92 96 = ap (λ (b : List ℕ). get_or b 0 0) (front e f) in absurd (omega (arith, g))
  by (slash p e) (slash q f) = let g = front e f in (p ∙ sym q, cc)
  by (slash p e) (control q f) = let g : ◌≡◌ {A = ℕ} 92 117 = ap (λ (b : List ℕ). get_or b 1 0) (front e f) in absurd (omega (arith, g))
  by (slash p e) (raw q r s f) = absurd (r (begins d 92 (92 ∷ x) y (omega arith) (front e f)))
  by (control p e) (tick q f) = let g : ◌≡◌ {A = ℕ} 92 96 = ap (λ (b : List ℕ). get_or b 0 0) (front e f) in absurd (omega (arith, g))
  by (control p e) (slash q f) = let g : ◌≡◌ {A = ℕ} 117 92 = ap (λ (b : List ℕ). get_or b 1 0) (front e f) in absurd (omega (arith, g))
  by (control p e) (control q f) =
      let g = front e f in
      let k : two_digits c ++ x ≡ two_digits d ++ y = cc in
      two_digits_same c d x y (control_small c p) (control_small d q) k
  by (control p e) (raw q r s f) = absurd (r (begins d 92 (117 ∷ 48 ∷ 48 ∷ two_digits c ++ x) y (omega arith) (front e f)))
  by (raw p o n e) (tick q f) = absurd (p (begins c 96 (96 ∷ y) x (omega arith) (sym (front e f))))
  by (raw p o n e) (slash q f) = absurd (o (begins c 92 (92 ∷ y) x (omega arith) (sym (front e f))))
  by (raw p o n e) (control q f) = absurd (o (begins c 92 (117 ∷ 48 ∷ 48 ∷ two_digits d ++ y) x (omega arith) (sym (front e f))))
  by (raw p o n e) (raw q r s f) = encode_same c d x y (front e f)

-- no character's text begins with the backtick and the colon that end a name
pub not_closed : (d : ℕ) (x y : List ℕ) → codes "`:" ++ x ≡ char_text d ++ y → ⊥
not_closed d x y h = by (char_form d) where
  front : {u : List ℕ} → char_text d ≡ u → codes "`:" ++ x ≡ u ++ y
  front {u} f = h ∙ ap (λ (r : List ℕ). r ++ y) f

  by : CharForm d → ⊥
  by (tick q f) = let g : ◌≡◌ {A = ℕ} 58 96 = ap (λ (b : List ℕ). get_or b 1 0) (front f) in omega (arith, g)
  by (slash q f) = let g : ◌≡◌ {A = ℕ} 96 92 = ap (λ (b : List ℕ). get_or b 0 0) (front f) in omega (arith, g)
  by (control q f) = let g : ◌≡◌ {A = ℕ} 96 92 = ap (λ (b : List ℕ). get_or b 0 0) (front f) in omega (arith, g)
  by (raw q r s f) = q (begins d 96 (58 ∷ x) y (omega arith) (front f))

pub chars_same : (cs ds x y : List ℕ) → chars_text cs ++ (codes "`:" ++ x) ≡ chars_text ds ++ (codes "`:" ++ y) → (cs ≡ ds) × (x ≡ y)
chars_same [] [] x y h = (refl, cc)
chars_same [] (d ∷ ds) x y h = absurd (not_closed d x _ (h ∙ append_assoc (char_text d) (chars_text ds) (codes "`:" ++ y)))
chars_same (c ∷ cs) [] x y h = absurd (not_closed c y _ (sym h ∙ append_assoc (char_text c) (chars_text cs) (codes "`:" ++ x)))
chars_same (c ∷ cs) (d ∷ ds) x y h =
    let r = char_same c d (chars_text cs ++ (codes "`:" ++ x)) (chars_text ds ++ (codes "`:" ++ y)) (sym (append_assoc (char_text c) (chars_text cs) (codes "`:" ++ x)) ∙ h ∙ append_assoc (char_text d) (chars_text ds) (codes "`:" ++ y)) in
    let q = chars_same cs ds x y r.1 in
    (rw (r.0, q.0) refl, q.1)

-- ---- names

pub plain_text : (name : List ℕ) → is_plain_name name ≡ true → name_text name ≡ name
unfolding name_text
plain_text name h = rw h refl

pub quoted_text : (name : List ℕ) → is_plain_name name ≡ false → name_text name ≡ codes "`" ++ (chars_text (chars name) ++ codes "`")
unfolding name_text
quoted_text name h = rw h refl

pub quoted_front : (name x : List ℕ) → is_plain_name name ≡ false → name_text name ++ (colon ++ x) ≡ codes "`" ++ (chars_text (chars name) ++ (codes "`:" ++ x))
quoted_front name x h = ap (λ (r : List ℕ). r ++ (colon ++ x)) (quoted_text name h) ∙ ap (λ (r : List ℕ). codes "`" ++ r) (append_assoc (chars_text (chars name)) (codes "`") (colon ++ x))

pub one_name : (v w x y : List ℕ) → IsName v → IsName w → name_text v ++ (colon ++ x) ≡ name_text w ++ (colon ++ y) → (v ≡ w) × (x ≡ y)
one_name v w x y vs ws h = by (is_plain_name v) (is_plain_name w) refl refl where
  plain : (name z : List ℕ) → is_plain_name name ≡ true → name_text name ++ z ≡ name ++ z
  plain name z e = ap (λ (r : List ℕ). r ++ z) (plain_text name e)

  by : (a b : Bool) → is_plain_name v ≡ a → is_plain_name w ≡ b → (v ≡ w) × (x ≡ y)
  by true true e f =
      let r = one_front v w 58 58 x y (words v e) (words w f) colon_ends colon_ends (sym (plain v (colon ++ x) e) ∙ h ∙ plain w (colon ++ y) f) in
      (r.0, r.2)
  by true false e f = absurd (no_plain v 96 _ (colon ++ x) tick_ends e (sym (quoted_front w y f) ∙ sym h ∙ plain v (colon ++ x) e))
  by false true e f = absurd (no_plain w 96 _ (colon ++ y) tick_ends f (sym (quoted_front v x e) ∙ h ∙ plain w (colon ++ y) f))
  by false false e f =
      let g : codes "`" ++ (chars_text (chars v) ++ (codes "`:" ++ x)) ≡ codes "`" ++ (chars_text (chars w) ++ (codes "`:" ++ y)) = sym (quoted_front v x e) ∙ h ∙ quoted_front w y f in
      let k : chars_text (chars v) ++ (codes "`:" ++ x) ≡ chars_text (chars w) ++ (codes "`:" ++ y) = cc in
      let r = chars_same (chars v) (chars w) x y k in
      (sym (encodes-chars v (IsUtf8-from_is_utf8 v vs)) ∙ ap encodes r.0 ∙ encodes-chars w (IsUtf8-from_is_utf8 w ws), r.1)

-- no name's text begins with a byte that is neither a word's nor a backtick
pub no_name : (name : List ℕ) (b : ℕ) (x y : List ℕ) → is_word b ≡ false → b ≢ 96 → b ∷ x ≡ name_text name ++ y → ⊥
no_name name b x y other apart h = by (is_plain_name name) refl where
  by : (a : Bool) → is_plain_name name ≡ a → ⊥
  by true e = no_plain name b x y other e (h ∙ ap (λ (r : List ℕ). r ++ y) (plain_text name e))
  by false e =
      let g : b ∷ x ≡ codes "`" ++ (chars_text (chars name) ++ codes "`") ++ y = h ∙ ap (λ (r : List ℕ). r ++ y) (quoted_text name e) in
      let same : b ≡ 96 = cc in
      apart same

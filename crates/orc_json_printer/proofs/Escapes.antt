-- What stands in a text for its bytes.
use Rattle.std.proofs.Common.{Bool, true, false, ◌≡◌, ◌≤◌, ◌<◌, ℕ, ◌+◌, ◌/◌, ◌%◌, List, [], ◌∷◌, ◌++◌, length, take, drop, get_or, refl, sym, ap, ◌∙◌, arith, append-nil, append_assoc}
use Rattle.std.proofs.lemmas.Bool.{ne_eqb, lt-ltb}
use Rattle.std.proofs.lemmas.List.{take_more, take_all, drop_more, drop_all}
use Rattle.std.specs.Prelude.{◌&&◌}
use Rattle.std.specs.Bool.{OnTrue}
use Rattle.std.specs.Char.{digit_char}
use Rattle.hex.specs.Hex.{encode_with, encode_lower}
use Rattle.json.specs.Print.{escape, escape_byte}

-- ---- a byte

pub escape_byte-34 : escape_byte 34 ≡ 92 ∷ 34 ∷ []
unfolding escape_byte
escape_byte-34 = refl

pub escape_byte-92 : escape_byte 92 ≡ 92 ∷ 92 ∷ []
unfolding escape_byte
escape_byte-92 = refl

pub escape_byte-8 : escape_byte 8 ≡ 92 ∷ 98 ∷ []
unfolding escape_byte
escape_byte-8 = refl

pub escape_byte-9 : escape_byte 9 ≡ 92 ∷ 116 ∷ []
unfolding escape_byte
escape_byte-9 = refl

pub escape_byte-10 : escape_byte 10 ≡ 92 ∷ 110 ∷ []
unfolding escape_byte
escape_byte-10 = refl

pub escape_byte-12 : escape_byte 12 ≡ 92 ∷ 102 ∷ []
unfolding escape_byte
escape_byte-12 = refl

pub escape_byte-13 : escape_byte 13 ≡ 92 ∷ 114 ∷ []
unfolding escape_byte
escape_byte-13 = refl

-- a control character without a letter of its own
pub escape_byte-control : (x : ℕ) → x < 32 → (x ≡ 8 → ⊥) → (x ≡ 9 → ⊥) → (x ≡ 10 → ⊥) → (x ≡ 12 → ⊥) → (x ≡ 13 → ⊥)
    → escape_byte x ≡ 92 ∷ 117 ∷ 48 ∷ 48 ∷ digit_char (x / 16) ∷ digit_char (x % 16) ∷ []
unfolding escape_byte
escape_byte-control x lt n8 n9 n10 n12 n13 =
    rw (
      ne_eqb x 34 (λ e. omega arith),
      ne_eqb x 92 (λ e. omega arith),
      ne_eqb x 8 n8,
      ne_eqb x 12 n12,
      ne_eqb x 10 n10,
      ne_eqb x 13 n13,
      ne_eqb x 9 n9,
      lt-ltb x 32 lt,
    )

-- ---- a text, a part after the other

pub escape-append : (a b : List ℕ) → escape (a ++ b) ≡ escape a ++ escape b
escape-append [] b = refl
escape-append (x ∷ a) b = ap (λ (t : List ℕ). escape_byte x ++ t) (escape-append a b) ∙ sym (append_assoc (escape_byte x) (escape a) (escape b))

pub escape_next : (s : List ℕ) (i x : ℕ) → i < length s → x ≡ get_or s i 0 → escape (drop i s) ≡ escape_byte x ++ escape (drop (i + 1) s)
escape_next s i x lt is = ap escape (drop_more s i 0 lt) ∙ ap (λ (y : ℕ). escape_byte y ++ escape (drop (i + 1) s)) (sym is)

pub escape_end : (s : List ℕ) (i : ℕ) → length s ≤ i → escape (drop i s) ≡ []
escape_end s i le = ap escape (drop_all i s le)

encode_with-append : (t a b : List ℕ) → encode_with t (a ++ b) ≡ encode_with t a ++ encode_with t b
unfolding encode_with
encode_with-append t [] b = refl
encode_with-append t (x ∷ a) b = rw (encode_with-append t a b) refl

pub escape-encode_lower : (a b : List ℕ) → escape (encode_lower (a ++ b)) ≡ escape (encode_lower a) ++ escape (encode_lower b)
escape-encode_lower a b = ap escape (encode_with-append _ a b) ∙ escape-append (encode_lower a) (encode_lower b)

pub escape-encode_lower-none : escape (encode_lower []) ≡ []
unfolding encode_with
escape-encode_lower-none = refl

-- ---- a text in which no byte needs an escape

-- none up to here
abbrev pub PlainTo : List ℕ → ℕ → Type 0
PlainTo s i = escape s ≡ take i s ++ escape (drop i s)

pub plain_next : (s : List ℕ) (i x : ℕ) → i < length s → x ≡ get_or s i 0 → escape_byte x ≡ x ∷ [] → PlainTo s i → PlainTo s (i + 1)
plain_next s i x lt is plain h =
    let one : escape (drop i s) ≡ x ∷ escape (drop (i + 1) s) =
    ap escape (drop_more s i 0 lt) ∙ ap (λ (y : ℕ). escape (y ∷ drop (i + 1) s)) (sym is) ∙ ap (λ (t : List ℕ). t ++ escape (drop (i + 1) s)) plain in
    h ∙ ap (λ (t : List ℕ). take i s ++ t) one ∙ sym (append_assoc (take i s) (x ∷ []) (escape (drop (i + 1) s)))
    ∙ ap (λ (t : List ℕ). t ++ escape (drop (i + 1) s)) (ap (λ (y : ℕ). take i s ++ y ∷ []) is ∙ sym (take_more s i 0 lt))

pub plain_all : (s : List ℕ) (i : ℕ) → length s ≤ i → PlainTo s i → escape s ≡ s
plain_all s i le h =
    h ∙ ap (λ (t : List ℕ). take i s ++ escape t) (drop_all i s le) ∙ append-nil (take i s) ∙ take_all i s le

-- the same where it is only known of a test's answers
pub plain_both : (plain own : Bool) (s : List ℕ) (i x : ℕ) → i < length s → x ≡ get_or s i 0 → OnTrue plain (PlainTo s i) → OnTrue own (escape_byte x ≡ x ∷ []) → OnTrue (plain && own) (PlainTo s (i + 1))
plain_both true true s i x lt is h p = plain_next s i x lt is p h
plain_both true false s i x lt is h p = tt
plain_both false own s i x lt is h p = tt

pub plain_end : (plain : Bool) (s : List ℕ) (i : ℕ) → length s ≤ i → OnTrue plain (PlainTo s i) → OnTrue plain (escape s ≡ s)
plain_end true s i le h = plain_all s i le h
plain_end false s i le h = tt

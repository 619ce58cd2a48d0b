-- Laws of short repeats (ORC specification, "Integer Run Length Encoding, version 2", "Short Repeat").
-- None begins another, and where bytes lack one there is none.
use Rattle.std.proofs.Common.{List, ℕ, ℤ, ◌++◌, ◌≡◌, ◌∷◌, arith, ◌/◌, ◌+◌, refl, subst, ◌∙◌, sym, [], ◌%◌, suc, ap, replicate}
use Rattle.byteorder.specs.Endian.{big_number}
use Rattle.orc_bits.proofs.PackedLaws.{same_length}
use Rattle.orc_rle.specs.declared.fault.RunFault.{RunFault}
use Rattle.orc_rle.specs.declared.sign.Sign.{Sign}
use Rattle.orc_rle.specs.laws.FrontLaws.{both, after_one, too_short}
use Rattle.orc_rle.specs.laws.OneLaws.{Same, parts_of, one_value}
use Rattle.orc_rle.specs.ShortRepeat.{IsShortRepeat, NoRepeat}
use Rattle.orc_rle.specs.Values.{Stands}

pub both_repeat : (sign : Sign) (a b x y : List ℕ) (v w : List ℤ)
    → IsShortRepeat sign a v → IsShortRepeat sign b w → a ++ x ≡ b ++ y → Same a b x y v w
both_repeat sign a b x y v w p q e =
    let h = parts_of p.head q.head (p.text ++ x) (q.text ++ y) (both a b x y (p.head ∷ p.text) (q.head ∷ q.text) p.bytes_are q.bytes_are e) in
    let head = h.0 in
    let s = same_length p.text q.text x y (omega (arith, p.len, q.len, head)) h.1 in
    let number : big_number (p.head / 8 + 1) p.text ≡ big_number (q.head / 8 + 1) q.text = rw (head, s.front) refl in
    let value : p.value ≡ q.value = one_value sign p.value q.value (big_number (q.head / 8 + 1) q.text) (subst (λ (n : ℕ). Stands sign p.value n) number p.stands) q.stands in
    record {
      front = p.bytes_are ∙ ((rw (head, s.front) refl) ∙ sym q.bytes_are);
      rest = s.rest;
      values = p.values_are ∙ ((rw (head, value) refl) ∙ sym q.values_are);
    }

pub repeat_none : (sign : Sign) (head : ℕ) (rest a x : List ℕ) (v : List ℤ) (fault : RunFault)
    → NoRepeat head rest fault → IsShortRepeat sign a v → head ∷ rest ≡ a ++ x → ⊥
repeat_none sign head rest a x v fault n p e =
    let h = after_one head p.head rest p.text a x p.bytes_are e in
    let same = h.0 in
    too_short (head / 8 + 1) rest p.text x (omega (arith, p.len, same)) h.1 n.0

pub repeat_some : (sign : Sign) (a : List ℕ) → IsShortRepeat sign a [] → ⊥
repeat_some sign a p =
    let count : p.head % 8 + 3 ≡ suc (p.head % 8 + 2) = omega arith in
    let values = p.values_are ∙ ap (λ (n : ℕ). replicate n p.value) count in
    cc

-- Laws of direct runs (ORC specification, "Integer Run Length Encoding, version 2", "Direct").
-- None begins another, and where bytes lack one there is none.
use Rattle.std.proofs.Common.{List, ℤ, ℕ, ◌≡◌, [], refl, ◌∷◌, ◌++◌, subst, sym, arith, ◌∙◌, length}
use Rattle.orc_bits.proofs.PackedLaws.{one_packed}
use Rattle.orc_bits.specs.Packed.{IsPacked, packed_len}
use Rattle.orc_bits.specs.Width.{width_at}
use Rattle.orc_rle.specs.declared.fault.RunFault.{RunFault}
use Rattle.orc_rle.specs.declared.sign.Sign.{Sign}
use Rattle.orc_rle.specs.Direct.{AllStand, IsDirect, NoDirect}
use Rattle.orc_rle.specs.laws.FrontLaws.{both, after_one, too_short}
use Rattle.orc_rle.specs.Header.{code_in, count_in}
use Rattle.orc_rle.specs.laws.OneLaws.{one_value, Same, parts_of}

pub one_stand : (sign : Sign) (vs ws : List ℤ) (ns : List ℕ) → AllStand sign vs ns → AllStand sign ws ns → vs ≡ ws
one_stand sign [] [] [] p q = refl
one_stand sign [] [] (n ∷ ns) p q = absurd p
one_stand sign [] (w ∷ ws) [] p q = absurd q
one_stand sign [] (w ∷ ws) (n ∷ ns) p q = absurd p
one_stand sign (v ∷ vs) ws [] p q = absurd p
one_stand sign (v ∷ vs) [] (n ∷ ns) p q = absurd q
one_stand sign (v ∷ vs) (w ∷ ws) (n ∷ ns) p q =
    let head = one_value sign v w n p.0 q.0 in
    let tail = one_stand sign vs ws ns p.1 q.1 in
    cc

pub both_direct : (sign : Sign) (a b x y : List ℕ) (v w : List ℤ)
    → IsDirect sign a v → IsDirect sign b w → a ++ x ≡ b ++ y → Same a b x y v w
both_direct sign a b x y v w p q e =
    let h = parts_of p.head q.head (p.low ∷ (p.text ++ x)) (q.low ∷ (q.text ++ y)) (both a b x y (p.head ∷ p.low ∷ p.text) (q.head ∷ q.low ∷ q.text) p.bytes_are q.bytes_are e) in
    let g = parts_of p.low q.low (p.text ++ x) (q.text ++ y) h.1 in
    let head = h.0 in
    let low = g.0 in
    let packed = subst (λ (k : ℕ). IsPacked q.text (width_at (code_in k)) q.numbers) (sym head) q.packed in
    let s = one_packed (width_at (code_in p.head)) p.text q.text x y p.numbers q.numbers (omega (arith, p.len, q.len, head, low)) p.packed packed g.1 in
    record {
      front = p.bytes_are ∙ ((rw (head, low, s.front) refl) ∙ sym q.bytes_are);
      rest = s.rest;
      values = one_stand sign v w q.numbers (subst (λ (ns : List ℕ). AllStand sign v ns) s.values p.stand) q.stand;
    }

pub direct_none : (sign : Sign) (head : ℕ) (rest a x : List ℕ) (v : List ℤ) (fault : RunFault)
    → NoDirect head rest fault → IsDirect sign a v → head ∷ rest ≡ a ++ x → ⊥
direct_none sign head [] a x v fault n p e = let h = (after_one head p.head [] _ a x p.bytes_are e).1 in cc
direct_none sign head (low ∷ rest) a x v fault n p e =
    let h = after_one head p.head (low ∷ rest) (p.low ∷ p.text) a x p.bytes_are e in
    let g = parts_of low p.low rest (p.text ++ x) h.1 in
    let count : count_in head low ≡ length p.numbers = omega (arith, p.len, h.0, g.0) in
    let len : length p.text ≡ packed_len (width_at (code_in head)) (count_in head low) = rw (count, h.0) p.packed.len in
    too_short (packed_len (width_at (code_in head)) (count_in head low)) rest p.text x len g.1 n.0

pub one_direct_fault : (head : ℕ) (rest : List ℕ) (e f : RunFault) → NoDirect head rest e → NoDirect head rest f → e ≡ f
one_direct_fault head [] e f p q = p ∙ sym q
one_direct_fault head (low ∷ rest) e f p q = p.1 ∙ sym q.1

none_stand : (sign : Sign) (ns : List ℕ) → AllStand sign [] ns → length ns ≡ 0
none_stand sign [] h = refl
none_stand sign (n ∷ ns) h = absurd h

pub direct_some : (sign : Sign) (a : List ℕ) → IsDirect sign a [] → ⊥
direct_some sign a p = omega (arith, p.len, none_stand sign p.numbers p.stand)

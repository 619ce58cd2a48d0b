-- Laws of patched runs (ORC specification, "Integer Run Length Encoding, version 2", "Patched Base").
-- None begins another; where a fault of theirs applies there is none, nor another fault of theirs.
use Rattle.std.proofs.Common.{List, ℕ, ℤ, ◌≡◌, ◌++◌, append_assoc, arith, length, sym, ◌∙◌, subst, refl, ap, ◌/◌, ◌+◌, ◌∷◌, ◌%◌, true, length-append, ◌≤◌, inl, inr, [], suc}
use Rattle.byteorder.specs.Endian.{big_number}
use Rattle.orc_bits.proofs.PackedLaws.{same_length, one_packed}
use Rattle.orc_bits.specs.Packed.{IsPacked}
use Rattle.orc_bits.specs.Width.{IsLeastWidth, width_at}
use Rattle.orc_rle.specs.declared.fault.RunFault.{RunFault}
use Rattle.orc_rle.specs.laws.FrontLaws.{both, after_one}
use Rattle.orc_rle.specs.Header.{code_in, count_in}
use Rattle.orc_rle.specs.laws.OneLaws.{Same, parts_of}
use Rattle.orc_rle.specs.laws.PatchLaws.{one_list, no_patches, one_patches_fault}
use Rattle.orc_rle.specs.Patched.{IsPatchedBody, patch_digits, sign_magnitude, IsPatched, LacksPatchedBody, NoPatched, BreaksPatches, raised}
use Rattle.orc_rle.specs.Patches.{HasPatches}
use Rattle.orc_rle.specs.Patching.{NoPatches}
use Rattle.orc_rle.specs.laws.PatchingLaws.{patches_are_applied}

-- what stands after two headers, with what follows each
pub record SameBody (a b x y : List ℕ) (c d : ℤ) (ns ms es fs : List ℕ) : Type 0 where
  pub front : a ≡ b
  pub rest : x ≡ y
  pub base : c ≡ d
  pub numbers : ns ≡ ms
  pub entries : es ≡ fs

parts_three : (a b c x : List ℕ) → (a ++ (b ++ c)) ++ x ≡ a ++ (b ++ (c ++ x))
parts_three a b c x = simp append_assoc

pub same_width : (n c d : ℕ) → IsLeastWidth n c → IsLeastWidth n d → width_at c ≡ width_at d
same_width n c d p q = let below = p.least d q.is q.holds in let above = q.least c p.is p.holds in omega (arith, below, above)

both_bodies : (head third fourth : ℕ) (a b x y : List ℕ) (c d : ℤ) (ns ms es fs : List ℕ)
    → IsPatchedBody head third fourth a c ns es
    → IsPatchedBody head third fourth b d ms fs
    → length ns ≡ length ms → length es ≡ length fs → a ++ x ≡ b ++ y → SameBody a b x y c d ns ms es fs
both_bodies head third fourth a b x y c d ns ms es fs p q n m e =
    let e' = sym (parts_three p.base_text p.number_text p.entry_text x)
    ∙ (both a b x y (p.base_text ++ (p.number_text ++ p.entry_text)) (q.base_text ++ (q.number_text ++ q.entry_text)) p.text_is q.text_is e ∙ parts_three q.base_text q.number_text q.entry_text y) in
    let s = same_length p.base_text q.base_text (p.number_text ++ (p.entry_text ++ x)) (q.number_text ++ (q.entry_text ++ y)) (p.base_len ∙ sym q.base_len) e' in
    let t = one_packed (width_at (code_in head)) p.number_text q.number_text (p.entry_text ++ x) (q.entry_text ++ y) ns ms n p.packed q.packed s.rest in
    let packed = subst (λ (w : ℕ). IsPacked q.entry_text w fs) (sym (same_width (patch_digits third fourth) p.code q.code p.least q.least)) q.entries_packed in
    let u = one_packed (width_at p.code) p.entry_text q.entry_text x y es fs m p.entries_packed packed t.rest in
    record {
      front = p.text_is ∙ ((rw (s.front, t.front, u.front) refl) ∙ sym q.text_is);
      rest = u.rest;
      base = p.base_is ∙ (ap (λ (k : List ℕ). sign_magnitude (third / 32 + 1) (big_number (third / 32 + 1) k)) s.front ∙ sym q.base_is);
      numbers = t.values;
      entries = u.values;
    }

pub both_patched : (a b x y : List ℕ) (v w : List ℤ)
    → IsPatched a v → IsPatched b w → a ++ x ≡ b ++ y → Same a b x y v w
both_patched a b x y v w p q e =
    let h = parts_of p.head q.head (p.low ∷ p.third ∷ p.fourth ∷ (p.text ++ x)) (q.low ∷ q.third ∷ q.fourth ∷ (q.text ++ y))
    (both a b x y (p.head ∷ p.low ∷ p.third ∷ p.fourth ∷ p.text) (q.head ∷ q.low ∷ q.third ∷ q.fourth ∷ q.text) p.bytes_are q.bytes_are e) in
    let g = parts_of p.low q.low (p.third ∷ p.fourth ∷ (p.text ++ x)) (q.third ∷ q.fourth ∷ (q.text ++ y)) h.1 in
    let i = parts_of p.third q.third (p.fourth ∷ (p.text ++ x)) (q.fourth ∷ (q.text ++ y)) g.1 in
    let j = parts_of p.fourth q.fourth (p.text ++ x) (q.text ++ y) i.1 in
    let head = h.0 in
    let low = g.0 in
    let third = i.0 in
    let fourth = j.0 in
    let is1 = subst (λ (k : ℕ). IsPatchedBody k q.third q.fourth q.text q.base q.numbers q.entries) (sym head) q.is in
    let is2 = subst (λ (k : ℕ). IsPatchedBody p.head k q.fourth q.text q.base q.numbers q.entries) (sym third) is1 in
    let is3 = subst (λ (k : ℕ). IsPatchedBody p.head p.third k q.text q.base q.numbers q.entries) (sym fourth) is2 in
    let t = both_bodies p.head p.third p.fourth p.text q.text x y p.base q.base p.numbers q.numbers p.entries q.entries p.is is3
    (omega (arith, p.len, q.len, head, low)) (omega (arith, p.entries_len, q.entries_len, fourth)) j.1 in
    let patches1 = subst (λ (k : ℕ). HasPatches (width_at (code_in k)) (width_at (q.third % 32)) q.entries q.numbers q.patched) (sym head) q.patches in
    let patches2 = subst (λ (k : ℕ). HasPatches (width_at (code_in p.head)) (width_at (k % 32)) q.entries q.numbers q.patched) (sym third) patches1 in
    let patches3 = subst (λ (k : List ℕ). HasPatches (width_at (code_in p.head)) (width_at (p.third % 32)) k q.numbers q.patched) (sym t.entries) patches2 in
    let patches4 = subst (λ (k : List ℕ). HasPatches (width_at (code_in p.head)) (width_at (p.third % 32)) p.entries k q.patched) (sym t.numbers) patches3 in
    let w = width_at (code_in p.head) in
    let pw = width_at (p.third % 32) in
    let patched = one_list w pw true 0 p.entries p.numbers p.patched q.patched (patches_are_applied w pw p.entries p.numbers p.patched p.patches)
    (patches_are_applied w pw p.entries p.numbers q.patched patches4) in
    record {
      front = p.bytes_are ∙ ((rw (head, low, third, fourth, t.front) refl) ∙ sym q.bytes_are);
      rest = t.rest;
      values = p.values_are ∙ ((rw (t.base, patched) refl) ∙ sym q.values_are);
    }

lacks_none : (head third fourth count patches : ℕ) (rest a x : List ℕ) (c : ℤ) (ns es : List ℕ)
    → LacksPatchedBody head third fourth count patches rest
    → IsPatchedBody head third fourth a c ns es
    → count ≡ length ns → patches ≡ length es → rest ≡ a ++ x → ⊥
lacks_none head third fourth count patches rest a x c ns es m p n l e =
    let w = same_width (patch_digits third fourth) m.code p.code m.least p.least in
    let few = rw (n, l, w) at m.few in
    omega (arith, few, ap length e, length-append a x, ap length p.text_is, length-append p.base_text (p.number_text ++ p.entry_text), length-append p.number_text p.entry_text, p.base_len, p.packed.len, p.entries_packed.len)

patched_none_at : (head low third fourth : ℕ) (rest a x : List ℕ) (c : ℤ) (ns es new : List ℕ) (fault : RunFault)
    → NoPatched head (low ∷ third ∷ fourth ∷ rest) fault
    → patch_digits third fourth ≤ 64
    → IsPatchedBody head third fourth a c ns es
    → length ns ≡ count_in head low
    → length es ≡ fourth % 32
    → HasPatches (width_at (code_in head)) (width_at (third % 32)) es ns new
    → rest ≡ a ++ x
    → ⊥
patched_none_at head low third fourth rest a x c ns es new fault (inl n) room p l m q e = omega (arith, n.0, room)
patched_none_at head low third fourth rest a x c ns es new fault (inr (few, inl n)) room p l m q e =
    lacks_none head third fourth (count_in head low) (fourth % 32) rest a x c ns es n.0 p (sym l) (sym m) e
patched_none_at head low third fourth rest a x c ns es new fault (inr (few, inr n)) room p l m q e =
    let t = both_bodies head third fourth n.text a n.more x n.base c n.numbers ns n.entries es n.is p (n.len ∙ sym l) (n.entries_len ∙ sym m) (sym n.parts ∙ e) in
    let breaks = subst (λ (k : List ℕ). NoPatches (width_at (code_in head)) (width_at (third % 32)) true 0 k n.numbers fault) t.entries n.breaks in
    let breaks2 = subst (λ (k : List ℕ). NoPatches (width_at (code_in head)) (width_at (third % 32)) true 0 es k fault) t.numbers breaks in
    no_patches (width_at (code_in head)) (width_at (third % 32)) true 0 es ns new fault breaks2
    (patches_are_applied (width_at (code_in head)) (width_at (third % 32)) es ns new q)

pub patched_none : (head : ℕ) (rest a x : List ℕ) (v : List ℤ) (fault : RunFault)
    → NoPatched head rest fault → IsPatched a v → head ∷ rest ≡ a ++ x → ⊥
patched_none head [] a x v fault n p e = let h = (after_one head p.head [] _ a x p.bytes_are e).1 in cc
patched_none head (low ∷ []) a x v fault n p e = let h = (after_one head p.head (low ∷ []) _ a x p.bytes_are e).1 in cc
patched_none head (low ∷ third ∷ []) a x v fault n p e = let h = (after_one head p.head (low ∷ third ∷ []) _ a x p.bytes_are e).1 in cc
patched_none head (low ∷ third ∷ fourth ∷ rest) a x v fault n p e =
    let h = after_one head p.head (low ∷ third ∷ fourth ∷ rest) (p.low ∷ p.third ∷ p.fourth ∷ p.text) a x p.bytes_are e in
    let g = parts_of low p.low (third ∷ fourth ∷ rest) (p.third ∷ p.fourth ∷ (p.text ++ x)) h.1 in
    let i = parts_of third p.third (fourth ∷ rest) (p.fourth ∷ (p.text ++ x)) g.1 in
    let j = parts_of fourth p.fourth rest (p.text ++ x) i.1 in
    let n1 = subst (λ (k : ℕ). NoPatched k (low ∷ third ∷ fourth ∷ rest) fault) h.0 n in
    let n2 = subst (λ (k : ℕ). NoPatched p.head (k ∷ third ∷ fourth ∷ rest) fault) g.0 n1 in
    let n3 = subst (λ (k : ℕ). NoPatched p.head (p.low ∷ k ∷ fourth ∷ rest) fault) i.0 n2 in
    let n4 = subst (λ (k : ℕ). NoPatched p.head (p.low ∷ p.third ∷ k ∷ rest) fault) j.0 n3 in
    patched_none_at p.head p.low p.third p.fourth rest p.text x p.base p.numbers p.entries p.patched fault n4 p.room p.is p.len p.entries_len p.patches j.1

one_broken : (head low third fourth : ℕ) (rest : List ℕ) (e f : RunFault) → BreaksPatches head low third fourth rest e
    → BreaksPatches head low third fourth rest f → e ≡ f
one_broken head low third fourth rest e f p q =
    let t = both_bodies head third fourth p.text q.text p.more q.more p.base q.base p.numbers q.numbers p.entries q.entries p.is q.is (p.len ∙ sym q.len) (p.entries_len ∙ sym q.entries_len) (sym p.parts ∙ q.parts) in
    let breaks = subst (λ (k : List ℕ). NoPatches (width_at (code_in head)) (width_at (third % 32)) true 0 k p.numbers e) t.entries p.breaks in
    let breaks2 = subst (λ (k : List ℕ). NoPatches (width_at (code_in head)) (width_at (third % 32)) true 0 q.entries k e) t.numbers breaks in
    one_patches_fault (width_at (code_in head)) (width_at (third % 32)) true 0 q.entries q.numbers e f breaks2 q.breaks

lacks_or_breaks : (head low third fourth : ℕ) (rest : List ℕ) (f : RunFault)
    → LacksPatchedBody head third fourth (count_in head low) (fourth % 32) rest
    → BreaksPatches head low third fourth rest f
    → ⊥
lacks_or_breaks head low third fourth rest f p q =
    lacks_none head third fourth (count_in head low) (fourth % 32) rest q.text q.more q.base q.numbers q.entries p q.is (sym q.len) (sym q.entries_len) q.parts

pub one_patched_fault : (head : ℕ) (rest : List ℕ) (e f : RunFault)
    → NoPatched head rest e → NoPatched head rest f → e ≡ f
one_patched_fault head [] e f p q = p ∙ sym q
one_patched_fault head (low ∷ []) e f p q = p ∙ sym q
one_patched_fault head (low ∷ third ∷ []) e f p q = p ∙ sym q
one_patched_fault head (low ∷ third ∷ fourth ∷ rest) e f (inl p) (inl q) = p.1 ∙ sym q.1
one_patched_fault head (low ∷ third ∷ fourth ∷ rest) e f (inl p) (inr q) = absurd (omega (arith, p.0, q.0))
one_patched_fault head (low ∷ third ∷ fourth ∷ rest) e f (inr p) (inl q) = absurd (omega (arith, p.0, q.0))
one_patched_fault head (low ∷ third ∷ fourth ∷ rest) e f (inr (a, inl p)) (inr (b, inl q)) = p.1 ∙ sym q.1
one_patched_fault head (low ∷ third ∷ fourth ∷ rest) e f (inr (a, inl p)) (inr (b, inr q)) = absurd (lacks_or_breaks head low third fourth rest f p.0 q)
one_patched_fault head (low ∷ third ∷ fourth ∷ rest) e f (inr (a, inr p)) (inr (b, inl q)) = absurd (lacks_or_breaks head low third fourth rest e q.0 p)
one_patched_fault head (low ∷ third ∷ fourth ∷ rest) e f (inr (a, inr p)) (inr (b, inr q)) = one_broken head low third fourth rest e f p q

pub length-raised : (base : ℤ) (ns : List ℕ) → length (raised base ns) ≡ length ns
length-raised base [] = refl
length-raised base (n ∷ ns) = ap suc (length-raised base ns)

pub patched_some : (a : List ℕ) → IsPatched a [] → ⊥
patched_some a p =
    omega (arith, p.len, p.patches.len, ap length p.values_are, length-raised p.base p.patched)

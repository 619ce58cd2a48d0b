-- Laws of runs of bytes (ORC specification, "Byte Run Length Encoding").
-- No run begins another, where a fault applies no run stands; what is written has one text, and it is a stream.
use Rattle.std.proofs.Common.{◌≡◌, ℕ, ◌-◌, List, [], ◌∷◌, ◌++◌, length, refl, sym, ap, subst, ◌∙◌, arith, inl, inr, length-append}
use Rattle.orc_bits.specs.Packed.{AllFit}
use Rattle.orc_bits.proofs.PackedLemmas.{AllFit-append, AllFit-replicate}
use Rattle.orc_bits.proofs.PackedLaws.{same_length}
use Rattle.orc_rle.specs.declared.fault.RunFault.{RunFault}
use Rattle.orc_rle.specs.Cut.{AreEqual, IsPiece, IsWritten}
use Rattle.orc_rle.specs.laws.CutLaws.{written_is_stream, one_text}
use Rattle.orc_rle.specs.Stream.{AreRuns, IsStream}
use Rattle.orc_rle.specs.ByteRun.{IsRepeat, AreLiteral, IsByteRun, EndsInside, NoByteRun, byte_rule}

parts_of : (c d : ℕ) (x y : List ℕ) → c ∷ x ≡ d ∷ y → (c ≡ d) × (x ≡ y)
parts_of c d x y e = (cc, cc)

same_repeat : (a b x y v w : List ℕ) → IsRepeat a v → IsRepeat b w → a ++ x ≡ b ++ y → (a ≡ b) × (v ≡ w)
same_repeat a b x y v w p q e =
    let e' : (length v - 3) ∷ p.equal.value ∷ x ≡ (length w - 3) ∷ q.equal.value ∷ y =
    sym (ap (λ (t : List ℕ). t ++ x) p.bytes_are) ∙ (e ∙ ap (λ (t : List ℕ). t ++ y) q.bytes_are) in
    let h = parts_of _ _ _ _ e' in
    let g = parts_of _ _ _ _ h.1 in
    let len : length v ≡ length w = omega (arith, h.0, p.equal.few, q.equal.few) in
    (p.bytes_are ∙ (rw (len, g.0) refl) ∙ sym q.bytes_are, p.equal.values_are ∙ (rw (len, g.0) refl) ∙ sym q.equal.values_are)

same_literal : (a b x y v w : List ℕ) → AreLiteral a v → AreLiteral b w → a ++ x ≡ b ++ y → (a ≡ b) × (v ≡ w)
same_literal a b x y v w p q e =
    let e' : (256 - length v) ∷ (v ++ x) ≡ (256 - length w) ∷ (w ++ y) =
    sym (ap (λ (t : List ℕ). t ++ x) p.bytes_are) ∙ (e ∙ ap (λ (t : List ℕ). t ++ y) q.bytes_are) in
    let h = parts_of _ _ _ _ e' in
    let len : length v ≡ length w = omega (arith, h.0, p.most, q.most) in
    let s = same_length v w x y len h.1 in
    (p.bytes_are ∙ (rw s.front refl) ∙ sym q.bytes_are, s.front)

not_both : (a b x y v w : List ℕ) → IsRepeat a v → AreLiteral b w → a ++ x ≡ b ++ y → ⊥
not_both a b x y v w p q e =
    let e' : (length v - 3) ∷ p.equal.value ∷ x ≡ (256 - length w) ∷ (w ++ y) =
    sym (ap (λ (t : List ℕ). t ++ x) p.bytes_are) ∙ (e ∙ ap (λ (t : List ℕ). t ++ y) q.bytes_are) in
    let h = parts_of _ _ _ _ e' in
    omega (arith, h.0, p.equal.many, p.equal.few, q.few, q.most)

-- no run begins another
pub one_byte_run : (a b x y : List ℕ) (v w : List ℕ)
    → IsByteRun a v → IsByteRun b w → a ++ x ≡ b ++ y → (a ≡ b) × (v ≡ w)
one_byte_run a b x y v w (inl p) (inl q) e = same_repeat a b x y v w p q e
one_byte_run a b x y v w (inl p) (inr q) e = absurd (not_both a b x y v w p q e)
one_byte_run a b x y v w (inr p) (inl q) e = absurd (not_both b a y x w v q p (sym e))
one_byte_run a b x y v w (inr p) (inr q) e = same_literal a b x y v w p q e

ends_none : (bytes a x v : List ℕ) → EndsInside bytes → IsByteRun a v → bytes ≡ a ++ x → ⊥
ends_none [] a x v h (inl p) e = let k = e ∙ ap (λ (t : List ℕ). t ++ x) p.bytes_are in cc
ends_none [] a x v h (inr p) e = let k = e ∙ ap (λ (t : List ℕ). t ++ x) p.bytes_are in cc
ends_none (control ∷ rest) a x v (inl h) (inl p) e =
    let k = parts_of _ _ _ _ (e ∙ ap (λ (t : List ℕ). t ++ x) p.bytes_are) in let none = sym h.1 ∙ k.1 in cc
ends_none (control ∷ rest) a x v (inl h) (inr p) e =
    let k = parts_of _ _ _ _ (e ∙ ap (λ (t : List ℕ). t ++ x) p.bytes_are) in omega (arith, h.0, k.0, p.few, p.most)
ends_none (control ∷ rest) a x v (inr h) (inl p) e =
    let k = parts_of _ _ _ _ (e ∙ ap (λ (t : List ℕ). t ++ x) p.bytes_are) in omega (arith, h.0, k.0, p.equal.few, p.equal.many)
ends_none (control ∷ rest) a x v (inr h) (inr p) e =
    let k = parts_of _ _ _ _ (e ∙ ap (λ (t : List ℕ). t ++ x) p.bytes_are) in omega (arith, h.1, k.0, ap length k.1, length-append v x, p.few, p.most)

pub no_byte_run : (a x : List ℕ) (v : List ℕ) (fault : RunFault) → NoByteRun (a ++ x) fault → IsByteRun a v → ⊥
no_byte_run a x v fault h run = ends_none (a ++ x) a x v h.0 run refl

pub one_byte_fault : (bytes : List ℕ) (e f : RunFault) → NoByteRun bytes e → NoByteRun bytes f → e ≡ f
one_byte_fault bytes e f h k = h.1 ∙ sym k.1

-- a run has bytes
pub byte_run_some : (v : List ℕ) → IsByteRun [] v → ⊥
byte_run_some v (inl p) = let k = p.bytes_are in cc
byte_run_some v (inr p) = let k = p.bytes_are in cc

-- a run has values
pub byte_run_values : (a : List ℕ) → IsByteRun a [] → ⊥
byte_run_values a (inl p) = omega (arith, p.equal.few)
byte_run_values a (inr p) = omega (arith, p.few)

one_equal : (values : List ℕ) (p q : AreEqual 130 values) → p.value ≡ q.value
one_equal [] p q = absurd (omega (arith, p.few))
one_equal (v ∷ vs) p q =
    let h = parts_of _ _ _ _ p.values_are in
    let k = parts_of _ _ _ _ q.values_are in
    sym h.0 ∙ k.0

one_repeat : (piece a b : List ℕ) → IsRepeat a piece → IsRepeat b piece → a ≡ b
one_repeat piece a b p q = p.bytes_are ∙ (rw (one_equal piece p.equal q.equal) refl) ∙ sym q.bytes_are

-- bytes have one text
pub one_byte_text : (values a b : List ℕ) → IsWritten byte_rule values a → IsWritten byte_rule values b → a ≡ b
one_byte_text = one_text byte_rule (λ piece p. omega (arith, p.few)) one_repeat (λ piece a b p q. p.bytes_are ∙ sym q.bytes_are)

piece_run : (piece rest text : List ℕ) → IsPiece byte_rule piece rest text → IsByteRun text piece
piece_run piece rest text (inl p) = inl p.1
piece_run piece rest text (inr p) = inr p.1

-- what was written is a stream of the bytes
pub bytes_written : (values bytes : List ℕ) → IsWritten byte_rule values bytes → IsStream IsByteRun bytes values
bytes_written values bytes h =
    written_is_stream byte_rule (λ v. Unit {0}) IsByteRun (λ v w r. (tt, tt)) (λ piece rest text p r. piece_run piece rest text p) values bytes h tt

run_bytes : (bytes values : List ℕ) → IsByteRun bytes values → AllFit 8 values
run_bytes bytes values (inl p) = subst (λ (t : List ℕ). AllFit 8 t) (sym p.equal.values_are) (AllFit-replicate 8 (length values) p.equal.value p.small)
run_bytes bytes values (inr p) = p.small

runs_bytes : (pieces : List (List ℕ × List ℕ)) (bytes values : List ℕ)
    → AreRuns IsByteRun pieces bytes values → AllFit 8 values
runs_bytes [] bytes values h = subst (λ (t : List ℕ). AllFit 8 t) (sym h.1) tt
runs_bytes (piece ∷ pieces) bytes values h =
    subst (λ (t : List ℕ). AllFit 8 t) (sym h.4) (AllFit-append 8 piece.1 h.1 (run_bytes piece.0 piece.1 h.2) (runs_bytes pieces h.0 h.1 h.5))

-- the values of a stream are bytes
pub stream_bytes : (bytes values : List ℕ) → IsStream IsByteRun bytes values → AllFit 8 values
stream_bytes bytes values h = runs_bytes h.0 bytes values h.1

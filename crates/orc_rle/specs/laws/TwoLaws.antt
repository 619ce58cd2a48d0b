-- Laws of runs (ORC specification, "Integer Run Length Encoding, version 2").
-- No run begins another, and where a fault applies no run stands, nor another fault.
use Rattle.std.proofs.Common.{List, ℕ, ℤ, ◌++◌, ◌≡◌, inl, inr, arith, [], ◌∙◌, ap, ◌∷◌, refl, subst, sym}
use Rattle.orc_rle.specs.declared.fault.RunFault.{RunFault}
use Rattle.orc_rle.specs.declared.fault.RunFault.TheVariants.{Short}
use Rattle.orc_rle.specs.declared.sign.Sign.{Sign}
use Rattle.orc_rle.specs.laws.DeltaLaws.{both_delta, delta_none, delta_some, one_delta_fault}
use Rattle.orc_rle.specs.laws.DirectLaws.{both_direct, direct_none, direct_some, one_direct_fault}
use Rattle.orc_rle.specs.laws.FrontLaws.{heads, after_one}
use Rattle.orc_rle.specs.laws.OneLaws.{Same}
use Rattle.orc_rle.specs.laws.PatchedLaws.{both_patched, patched_none, patched_some, one_patched_fault}
use Rattle.orc_rle.specs.RunTwo.{IsShapeTwo, IsRunTwo, NoShapeTwo, NoRunTwo}
use Rattle.orc_rle.specs.laws.ShortRepeatLaws.{both_repeat, repeat_none, repeat_some}
use Rattle.orc_rle.specs.Values.{AllInRange}

pub one_shape_two : (sign : Sign) (a b x y : List ℕ) (v w : List ℤ)
    → IsShapeTwo sign a v → IsShapeTwo sign b w → a ++ x ≡ b ++ y → Same a b x y v w
one_shape_two sign a b x y v w (inl p) (inl q) e = both_repeat sign a b x y v w p q e
one_shape_two sign a b x y v w (inl p) (inr (inl q)) e = absurd (omega (arith, heads a b x y _ _ p.head q.head p.bytes_are q.bytes_are e, p.top, q.bottom))
one_shape_two sign a b x y v w (inl p) (inr (inr (inl q))) e =
    absurd (omega (arith, heads a b x y _ _ p.head q.head p.bytes_are q.bytes_are e, p.top, q.bottom))
one_shape_two sign a b x y v w (inl p) (inr (inr (inr q))) e =
    absurd (omega (arith, heads a b x y _ _ p.head q.head p.bytes_are q.bytes_are e, p.top, q.bottom))
one_shape_two sign a b x y v w (inr (inl p)) (inl q) e = absurd (omega (arith, heads a b x y _ _ p.head q.head p.bytes_are q.bytes_are e, p.bottom, q.top))
one_shape_two sign a b x y v w (inr (inl p)) (inr (inl q)) e = both_direct sign a b x y v w p q e
one_shape_two sign a b x y v w (inr (inl p)) (inr (inr (inl q))) e =
    absurd (omega (arith, heads a b x y _ _ p.head q.head p.bytes_are q.bytes_are e, p.top, q.bottom))
one_shape_two sign a b x y v w (inr (inl p)) (inr (inr (inr q))) e =
    absurd (omega (arith, heads a b x y _ _ p.head q.head p.bytes_are q.bytes_are e, p.top, q.bottom))
one_shape_two sign a b x y v w (inr (inr (inl p))) (inl q) e =
    absurd (omega (arith, heads a b x y _ _ p.head q.head p.bytes_are q.bytes_are e, p.bottom, q.top))
one_shape_two sign a b x y v w (inr (inr (inl p))) (inr (inl q)) e =
    absurd (omega (arith, heads a b x y _ _ p.head q.head p.bytes_are q.bytes_are e, p.bottom, q.top))
one_shape_two sign a b x y v w (inr (inr (inl p))) (inr (inr (inl q))) e = both_patched a b x y v w p q e
one_shape_two sign a b x y v w (inr (inr (inl p))) (inr (inr (inr q))) e =
    absurd (omega (arith, heads a b x y _ _ p.head q.head p.bytes_are q.bytes_are e, p.top, q.bottom))
one_shape_two sign a b x y v w (inr (inr (inr p))) (inl q) e =
    absurd (omega (arith, heads a b x y _ _ p.head q.head p.bytes_are q.bytes_are e, p.bottom, q.top))
one_shape_two sign a b x y v w (inr (inr (inr p))) (inr (inl q)) e =
    absurd (omega (arith, heads a b x y _ _ p.head q.head p.bytes_are q.bytes_are e, p.bottom, q.top))
one_shape_two sign a b x y v w (inr (inr (inr p))) (inr (inr (inl q))) e =
    absurd (omega (arith, heads a b x y _ _ p.head q.head p.bytes_are q.bytes_are e, p.bottom, q.top))
one_shape_two sign a b x y v w (inr (inr (inr p))) (inr (inr (inr q))) e = both_delta sign a b x y v w p q e

-- no run begins another
pub one_run_two : (sign : Sign) (a b x y : List ℕ) (v w : List ℤ)
    → IsRunTwo sign a v → IsRunTwo sign b w → a ++ x ≡ b ++ y → (a ≡ b) × (v ≡ w)
one_run_two sign a b x y v w p q e = let s = one_shape_two sign a b x y v w p.shape q.shape e in (s.front, s.values)

pub no_shape_two : (sign : Sign) (bytes a x : List ℕ) (v : List ℤ) (fault : RunFault)
    → NoShapeTwo bytes fault → IsShapeTwo sign a v → bytes ≡ a ++ x → ⊥
no_shape_two sign [] a x v fault n (inl p) e = let k = e ∙ ap (λ (t : List ℕ). t ++ x) p.bytes_are in cc
no_shape_two sign [] a x v fault n (inr (inl p)) e = let k = e ∙ ap (λ (t : List ℕ). t ++ x) p.bytes_are in cc
no_shape_two sign [] a x v fault n (inr (inr (inl p))) e = let k = e ∙ ap (λ (t : List ℕ). t ++ x) p.bytes_are in cc
no_shape_two sign [] a x v fault n (inr (inr (inr p))) e = let k = e ∙ ap (λ (t : List ℕ). t ++ x) p.bytes_are in cc
no_shape_two sign (head ∷ rest) a x v fault (inl n) (inl p) e = repeat_none sign head rest a x v fault n.1 p e
no_shape_two sign (head ∷ rest) a x v fault (inl n) (inr (inl p)) e = omega (arith, (after_one head p.head rest _ a x p.bytes_are e).0, n.0, p.bottom)
no_shape_two sign (head ∷ rest) a x v fault (inl n) (inr (inr (inl p))) e = omega (arith, (after_one head p.head rest _ a x p.bytes_are e).0, n.0, p.bottom)
no_shape_two sign (head ∷ rest) a x v fault (inl n) (inr (inr (inr p))) e = omega (arith, (after_one head p.head rest _ a x p.bytes_are e).0, n.0, p.bottom)
no_shape_two sign (head ∷ rest) a x v fault (inr (inl n)) (inl p) e = omega (arith, (after_one head p.head rest _ a x p.bytes_are e).0, p.top, n.0)
no_shape_two sign (head ∷ rest) a x v fault (inr (inl n)) (inr (inl p)) e = direct_none sign head rest a x v fault n.2 p e
no_shape_two sign (head ∷ rest) a x v fault (inr (inl n)) (inr (inr (inl p))) e =
    omega (arith, (after_one head p.head rest _ a x p.bytes_are e).0, n.1, p.bottom)
no_shape_two sign (head ∷ rest) a x v fault (inr (inl n)) (inr (inr (inr p))) e =
    omega (arith, (after_one head p.head rest _ a x p.bytes_are e).0, n.1, p.bottom)
no_shape_two sign (head ∷ rest) a x v fault (inr (inr (inl n))) (inl p) e = omega (arith, (after_one head p.head rest _ a x p.bytes_are e).0, p.top, n.0)
no_shape_two sign (head ∷ rest) a x v fault (inr (inr (inl n))) (inr (inl p)) e = omega (arith, (after_one head p.head rest _ a x p.bytes_are e).0, p.top, n.0)
no_shape_two sign (head ∷ rest) a x v fault (inr (inr (inl n))) (inr (inr (inl p))) e = patched_none head rest a x v fault n.2 p e
no_shape_two sign (head ∷ rest) a x v fault (inr (inr (inl n))) (inr (inr (inr p))) e =
    omega (arith, (after_one head p.head rest _ a x p.bytes_are e).0, n.1, p.bottom)
no_shape_two sign (head ∷ rest) a x v fault (inr (inr (inr n))) (inl p) e = omega (arith, (after_one head p.head rest _ a x p.bytes_are e).0, p.top, n.0)
no_shape_two sign (head ∷ rest) a x v fault (inr (inr (inr n))) (inr (inl p)) e = omega (arith, (after_one head p.head rest _ a x p.bytes_are e).0, p.top, n.0)
no_shape_two sign (head ∷ rest) a x v fault (inr (inr (inr n))) (inr (inr (inl p))) e =
    omega (arith, (after_one head p.head rest _ a x p.bytes_are e).0, p.top, n.0)
no_shape_two sign (head ∷ rest) a x v fault (inr (inr (inr n))) (inr (inr (inr p))) e = delta_none sign head rest a x v fault n.1 p e

-- where a fault applies there is no run
pub no_run_two : (sign : Sign) (a x : List ℕ) (v : List ℤ) (fault : RunFault)
    → NoRunTwo sign (a ++ x) fault → IsRunTwo sign a v → ⊥
no_run_two sign a x v fault (inl n) run = no_shape_two sign (a ++ x) a x v fault n run.shape refl
no_run_two sign a x v fault (inr n) run =
    let k = n.0 in
    let s = one_shape_two sign a k.front x k.rest v k.values run.shape k.shape k.parts in
    k.out (subst (λ (t : List ℤ). AllInRange sign t) s.values run.in_range)

-- a run has bytes
pub not_empty_two : (sign : Sign) (v : List ℤ) → IsRunTwo sign [] v → ⊥
not_empty_two sign v run = no_run_two sign [] [] v (Short 0) (inl refl) run

some_values_in : (sign : Sign) (a : List ℕ) → IsShapeTwo sign a [] → ⊥
some_values_in sign a (inl p) = repeat_some sign a p
some_values_in sign a (inr (inl p)) = direct_some sign a p
some_values_in sign a (inr (inr (inl p))) = patched_some a p
some_values_in sign a (inr (inr (inr p))) = delta_some sign a p

-- a run has values
pub some_values_two : (sign : Sign) (a : List ℕ) → IsRunTwo sign a [] → ⊥
some_values_two sign a run = some_values_in sign a run.shape

one_shape_fault : (bytes : List ℕ) (e f : RunFault) → NoShapeTwo bytes e → NoShapeTwo bytes f → e ≡ f
one_shape_fault [] e f p q = p ∙ sym q
one_shape_fault (head ∷ rest) e f (inl p) (inl q) = p.1.1 ∙ sym q.1.1
one_shape_fault (head ∷ rest) e f (inl p) (inr (inl q)) = absurd (omega (arith, p.0, q.0))
one_shape_fault (head ∷ rest) e f (inl p) (inr (inr (inl q))) = absurd (omega (arith, p.0, q.0))
one_shape_fault (head ∷ rest) e f (inl p) (inr (inr (inr q))) = absurd (omega (arith, p.0, q.0))
one_shape_fault (head ∷ rest) e f (inr (inl p)) (inl q) = absurd (omega (arith, q.0, p.0))
one_shape_fault (head ∷ rest) e f (inr (inl p)) (inr (inl q)) = one_direct_fault head rest e f p.2 q.2
one_shape_fault (head ∷ rest) e f (inr (inl p)) (inr (inr (inl q))) = absurd (omega (arith, p.1, q.0))
one_shape_fault (head ∷ rest) e f (inr (inl p)) (inr (inr (inr q))) = absurd (omega (arith, p.1, q.0))
one_shape_fault (head ∷ rest) e f (inr (inr (inl p))) (inl q) = absurd (omega (arith, q.0, p.0))
one_shape_fault (head ∷ rest) e f (inr (inr (inl p))) (inr (inl q)) = absurd (omega (arith, q.1, p.0))
one_shape_fault (head ∷ rest) e f (inr (inr (inl p))) (inr (inr (inl q))) = one_patched_fault head rest e f p.2 q.2
one_shape_fault (head ∷ rest) e f (inr (inr (inl p))) (inr (inr (inr q))) = absurd (omega (arith, p.1, q.0))
one_shape_fault (head ∷ rest) e f (inr (inr (inr p))) (inl q) = absurd (omega (arith, q.0, p.0))
one_shape_fault (head ∷ rest) e f (inr (inr (inr p))) (inr (inl q)) = absurd (omega (arith, q.1, p.0))
one_shape_fault (head ∷ rest) e f (inr (inr (inr p))) (inr (inr (inl q))) = absurd (omega (arith, q.1, p.0))
one_shape_fault (head ∷ rest) e f (inr (inr (inr p))) (inr (inr (inr q))) = one_delta_fault head rest e f p.1 q.1

-- bytes have one fault
pub one_run_two_fault : (sign : Sign) (bytes : List ℕ) (e f : RunFault)
    → NoRunTwo sign bytes e → NoRunTwo sign bytes f → e ≡ f
one_run_two_fault sign bytes e f (inl p) (inl q) = one_shape_fault bytes e f p q
one_run_two_fault sign bytes e f (inl p) (inr q) = absurd (no_shape_two sign bytes q.0.front q.0.rest q.0.values e p q.0.shape q.0.parts)
one_run_two_fault sign bytes e f (inr p) (inl q) = absurd (no_shape_two sign bytes p.0.front p.0.rest p.0.values f q p.0.shape p.0.parts)
one_run_two_fault sign bytes e f (inr p) (inr q) = p.1 ∙ sym q.1

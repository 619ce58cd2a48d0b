-- Laws of patches (ORC specification, "Integer Run Length Encoding, version 2", "Patched Base").
-- Entries lead to one list of numbers or to one fault.
use Rattle.std.proofs.Common.{ℕ, Bool, List, ◌≡◌, [], ◌∙◌, sym, ◌∷◌, false, inl, subst, arith, inr, ◌+◌, length, ap, length-set}
use Rattle.orc_rle.specs.declared.fault.RunFault.{RunFault}
use Rattle.orc_rle.specs.Patches.{gap_of}
use Rattle.orc_rle.specs.Patching.{ArePatched, NoPatch, IsPatch, IsOrdered, NoPatches, put_patch}

pub one_list : (w pw : ℕ) (first : Bool) (from : ℕ) (entries old new other : List ℕ)
    → ArePatched w pw first from entries old new → ArePatched w pw first from entries old other → new ≡ other
one_list w pw first from [] old new other p q = p ∙ sym q
one_list w pw first from (e ∷ es) old new other p q = one_list w pw false _ es _ new other p.1 q.1

no_patch : (w pw : ℕ) (first : Bool) (from entry : ℕ) (old : List ℕ) (fault : RunFault)
    → NoPatch w pw first from entry old fault → IsPatch w pw first from entry old → ⊥
no_patch w pw first from entry old fault (inl b) q =
    let order = subst (λ (k : Bool). IsOrdered k (gap_of pw entry)) b.later q.order in omega (arith, order, b.none)
no_patch w pw first from entry old fault (inr (inl b)) q = omega (arith, b.past, q.place)
no_patch w pw first from entry old fault (inr (inr b)) q = omega (arith, b.large, q.range)

pub no_patches : (w pw : ℕ) (first : Bool) (from : ℕ) (entries old new : List ℕ) (fault : RunFault)
    → NoPatches w pw first from entries old fault → ArePatched w pw first from entries old new → ⊥
no_patches w pw first from [] old new fault p q = p
no_patches w pw first from (e ∷ es) old new fault (inl p) q = no_patch w pw first from e old fault p q.0
no_patches w pw first from (e ∷ es) old new fault (inr p) q = no_patches w pw false _ es _ new fault p.1 q.1

unordered : (pw : ℕ) (first : Bool) (entry : ℕ)
    → first ≡ false → gap_of pw entry ≡ 0 → IsOrdered first (gap_of pw entry) → ⊥
unordered pw first entry later none order = let o = subst (λ (k : Bool). IsOrdered k (gap_of pw entry)) later order in omega (arith, o, none)

one_patch_fault : (w pw : ℕ) (first : Bool) (from entry : ℕ) (old : List ℕ) (e f : RunFault)
    → NoPatch w pw first from entry old e → NoPatch w pw first from entry old f → e ≡ f
one_patch_fault w pw first from entry old e f (inl p) (inl q) = p.fault_is ∙ sym q.fault_is
one_patch_fault w pw first from entry old e f (inl p) (inr (inl q)) = absurd (unordered pw first entry p.later p.none q.order)
one_patch_fault w pw first from entry old e f (inl p) (inr (inr q)) = absurd (unordered pw first entry p.later p.none q.order)
one_patch_fault w pw first from entry old e f (inr (inl p)) (inl q) = absurd (unordered pw first entry q.later q.none p.order)
one_patch_fault w pw first from entry old e f (inr (inl p)) (inr (inl q)) = p.fault_is ∙ sym q.fault_is
one_patch_fault w pw first from entry old e f (inr (inl p)) (inr (inr q)) = absurd (omega (arith, p.past, q.place))
one_patch_fault w pw first from entry old e f (inr (inr p)) (inl q) = absurd (unordered pw first entry q.later q.none p.order)
one_patch_fault w pw first from entry old e f (inr (inr p)) (inr (inl q)) = absurd (omega (arith, q.past, p.place))
one_patch_fault w pw first from entry old e f (inr (inr p)) (inr (inr q)) = p.fault_is ∙ sym q.fault_is

pub one_patches_fault : (w pw : ℕ) (first : Bool) (from : ℕ) (es old : List ℕ) (e f : RunFault)
    → NoPatches w pw first from es old e → NoPatches w pw first from es old f → e ≡ f
one_patches_fault w pw first from [] old e f p q = absurd p
one_patches_fault w pw first from (n ∷ es) old e f (inl p) (inl q) = one_patch_fault w pw first from n old e f p q
one_patches_fault w pw first from (n ∷ es) old e f (inl p) (inr q) = absurd (no_patch w pw first from n old e p q.0)
one_patches_fault w pw first from (n ∷ es) old e f (inr p) (inl q) = absurd (no_patch w pw first from n old f q p.0)
one_patches_fault w pw first from (n ∷ es) old e f (inr p) (inr q) =
    one_patches_fault w pw false (from + gap_of pw n) es (put_patch w pw from n old) e f p.1 q.1

pub length-patched : (w pw : ℕ) (first : Bool) (from : ℕ) (es old new : List ℕ)
    → ArePatched w pw first from es old new → length new ≡ length old
length-patched w pw first from [] old new p = ap length p
length-patched w pw first from (e ∷ es) old new p = length-patched w pw false (from + gap_of pw e) es _ new p.1 ∙ length-set old (from + gap_of pw e) _

-- Entries that are applied one after the other are those of the equation by index, both ways (ORC specification,
-- "Integer Run Length Encoding, version 2", "Patched Base").
use Rattle.std.proofs.Common.{ℕ, List, [], ◌∷◌, cond, eqb, ◌+◌, false, ◌≤◌, ◌≡◌, refl, arith, Bool, get_or, ◌^◌, ◌*◌, set, inl, ◌∙◌, inr, suc, take, ◌<◌, length, zero, true, sym, length-set, subst, ◌⊎◌}
use Rattle.std.proofs.lemmas.Bool.{ne_eqb, cases_eq, eq-eqb}
use Rattle.std.proofs.lemmas.List.{get_or-set_same, get_or-set_other, ext_get_or}
use Rattle.std.proofs.lemmas.List.Sums.{sum_by-append}
use Rattle.orc_bits.proofs.PackedLemmas.{AllFit-at}
use Rattle.orc_bits.specs.Packed.{AllFit}
use Rattle.orc_rle.specs.laws.PatchLaws.{length-patched}
use Rattle.orc_rle.specs.Patches.{gap_of, patch_of, patch_place, IsPatchAt, HasPatches}
use Rattle.orc_rle.specs.Patching.{ArePatched, patched_at, IsOrdered}

-- the patch at a place, else 0, where the gaps are counted from here
abbrev patch_at : ℕ → ℕ → List ℕ → ℕ → ℕ
patch_at pw from [] i = 0
patch_at pw from (e ∷ es) i = cond (eqb i (from + gap_of pw e)) (patch_of pw e) (patch_at pw (from + gap_of pw e) es i)

-- later patches stand further on
none_before : (w pw from : ℕ) (es old new : List ℕ) (i : ℕ)
    → ArePatched w pw false from es old new → i ≤ from → patch_at pw from es i ≡ 0
none_before w pw from [] old new i p le = refl
none_before w pw from (e ∷ es) old new i p le =
    let order = p.0.order in
    let t = ne_eqb i (from + gap_of pw e) (λ same. omega (arith, same, order, le)) in
    rw t (none_before w pw (from + gap_of pw e) es _ new i p.1 (omega (arith, le)))

-- each number is the one there was, with the patch at its place above it
patched_number : (w pw : ℕ) (first : Bool) (from : ℕ) (es old new : List ℕ) (i : ℕ)
    → ArePatched w pw first from es old new → get_or new i 0 ≡ get_or old i 0 + 2 ^ w * patch_at pw from es i
patched_number w pw first from [] old new i p = rw p (omega arith)
patched_number w pw first from (e ∷ es) old new i p =
    let at = from + gap_of pw e in
    let number = patched_at w (patch_of pw e) at old in
    let rest = patched_number w pw false at es (set old at number) new i p.1 in
    elim (cases_eq i at) [
      | inl same ↦
          let t = eq-eqb i at same in
          let none = none_before w pw at es _ new i p.1 (omega (arith, same)) in
          let here : get_or (set old at number) i 0 ≡ number = rw same (get_or-set_same old at number 0 p.0.place) in
          let value : number ≡ get_or old i 0 + 2 ^ w * patch_of pw e = rw same refl in
          rw t (rest ∙ (rw (here, none) (omega (arith, value))))
      | inr other ↦
          let t = ne_eqb i at other in
          let there : get_or (set old at number) i 0 ≡ get_or old i 0 = get_or-set_other old at i number 0 other in
          rw t (rest ∙ (rw there refl))
    ]

place_more : (pw e : ℕ) (es : List ℕ) (j : ℕ) → patch_place pw (e ∷ es) (suc j) ≡ gap_of pw e + patch_place pw es j
place_more pw e es j = sum_by-append (gap_of pw) (e ∷ []) (take (suc j) es) ∙ omega arith

-- every place after the first entry's is past where the gaps are counted from
place_some : (w pw from : ℕ) (es old new : List ℕ) (j : ℕ)
    → ArePatched w pw false from es old new → j < length es → 0 < patch_place pw es j
place_some w pw from [] old new j p lt = absurd (omega (arith, lt))
place_some w pw from (e ∷ es) old new zero p lt = let order = p.0.order in omega (arith, order)
place_some w pw from (e ∷ es) old new (suc j) p lt = let order = p.0.order in omega (arith, order, place_more pw e es j)

-- the patch at an entry's place is its own
patch_there : (w pw : ℕ) (first : Bool) (from : ℕ) (es old new : List ℕ) (j : ℕ)
    → ArePatched w pw first from es old new → j < length es
    → patch_at pw from es (from + patch_place pw es j) ≡ patch_of pw (get_or es j 0)
patch_there w pw first from [] old new j p lt = absurd (omega (arith, lt))
patch_there w pw first from (e ∷ es) old new zero p lt = rw (eq-eqb (from + patch_place pw (e ∷ es) 0) (from + gap_of pw e) (omega arith)) refl
patch_there w pw first from (e ∷ es) old new (suc j) p lt =
    let here = from + gap_of pw e in
    let more = place_some w pw here es _ new j p.1 (omega (arith, lt)) in
    let same : here + patch_place pw es j ≡ from + patch_place pw (e ∷ es) (suc j) = omega (arith, place_more pw e es j) in
    let t = ne_eqb (from + patch_place pw (e ∷ es) (suc j)) here (λ e. omega (arith, e, more, same)) in
    let there = patch_there w pw false here es _ new j p.1 (omega (arith, lt)) in
    rw t (rw same at there)

-- a place that is no entry's has no patch
patch_none : (pw from : ℕ) (es : List ℕ) (i : ℕ)
    → ((j : ℕ) → j < length es → from + patch_place pw es j ≡ i → ⊥) → patch_at pw from es i ≡ 0
patch_none pw from [] i none = refl
patch_none pw from (e ∷ es) i none =
    let t = ne_eqb i (from + gap_of pw e) (λ same. none 0 (omega arith) (omega (arith, same))) in
    rw t (patch_none pw (from + gap_of pw e) es i (λ j lt same. none (suc j) (omega (arith, lt)) (omega (arith, same, place_more pw e es j))))

one_patch_at : (w pw : ℕ) (es old new : List ℕ) (i patch : ℕ)
    → ArePatched w pw true 0 es old new → IsPatchAt pw es i patch → patch_at pw 0 es i ≡ patch
one_patch_at w pw es old new i patch p (inl entry) =
    let there : i ≡ 0 + patch_place pw es entry.0 = omega (arith, entry.2) in
    rw there (patch_there w pw true 0 es old new entry.0 p entry.1 ∙ sym entry.3)
one_patch_at w pw es old new i patch p (inr none) = patch_none pw 0 es i (λ j lt there. none.0 j lt (omega (arith, there))) ∙ sym none.1

place_within : (w pw : ℕ) (first : Bool) (from : ℕ) (es old new : List ℕ) (j : ℕ)
    → ArePatched w pw first from es old new → j < length es → from + patch_place pw es j < length old
place_within w pw first from [] old new j p lt = absurd (omega (arith, lt))
place_within w pw first from (e ∷ es) old new zero p lt = omega (arith, p.0.place)
place_within w pw first from (e ∷ es) old new (suc j) p lt =
    let more = place_within w pw false (from + gap_of pw e) es _ new j p.1 (omega (arith, lt)) in
    omega (arith, more, place_more pw e es j, length-set old (from + gap_of pw e) (patched_at w (patch_of pw e) (from + gap_of pw e) old))

later_gap : (w pw from : ℕ) (es old new : List ℕ) (j : ℕ)
    → ArePatched w pw false from es old new → j < length es → 0 < gap_of pw (get_or es j 0)
later_gap w pw from [] old new j p lt = absurd (omega (arith, lt))
later_gap w pw from (e ∷ es) old new zero p lt = p.0.order
later_gap w pw from (e ∷ es) old new (suc j) p lt = later_gap w pw (from + gap_of pw e) es _ new j p.1 (omega (arith, lt))

gap_after : (w pw : ℕ) (es old new : List ℕ) (j : ℕ)
    → ArePatched w pw true 0 es old new → j < length es → 0 < j → 0 < gap_of pw (get_or es j 0)
gap_after w pw [] old new j p lt some = absurd (omega (arith, lt))
gap_after w pw (e ∷ es) old new zero p lt some = absurd (omega (arith, some))
gap_after w pw (e ∷ es) old new (suc j) p lt some = later_gap w pw (0 + gap_of pw e) es _ new j p.1 (omega (arith, lt))

AllFit-set : (w i v : ℕ) (ns : List ℕ) → v < 2 ^ w → AllFit w ns → AllFit w (set ns i v)
AllFit-set w i v [] lt h = tt
AllFit-set w zero v (n ∷ ns) lt h = (lt, h.1)
AllFit-set w (suc i) v (n ∷ ns) lt h = (h.0, AllFit-set w i v ns lt h.1)

patched_fit : (w pw : ℕ) (first : Bool) (from : ℕ) (es old new : List ℕ)
    → AllFit 64 old → ArePatched w pw first from es old new → AllFit 64 new
patched_fit w pw first from [] old new h p = subst (λ (t : List ℕ). AllFit 64 t) (sym p) h
patched_fit w pw first from (e ∷ es) old new h p =
    let at = from + gap_of pw e in
    patched_fit w pw false at es _ new (AllFit-set 64 at (patched_at w (patch_of pw e) at old) old p.0.range h) p.1

-- applied one after the other, they are the patches
pub applied_are_patches : (w pw : ℕ) (entries numbers patched : List ℕ)
    → AllFit 64 numbers → ArePatched w pw true 0 entries numbers patched → HasPatches w pw entries numbers patched
applied_are_patches w pw entries numbers patched small p = record {
  ascend = λ j lt some. gap_after w pw entries numbers patched j p lt some;
  within = λ j lt. omega (arith, place_within w pw true 0 entries numbers patched j p lt);
  len = length-patched w pw true 0 entries numbers patched p;
  number = λ i patch lt there.
      patched_number w pw true 0 entries numbers patched i p ∙ rw (one_patch_at w pw entries numbers patched i patch p there) refl;
  fit = patched_fit w pw true 0 entries numbers patched small p;
}

-- only the first gap may be 0
abbrev AreOrdered : ℕ → Bool → List ℕ → Type 0
AreOrdered pw first [] = Unit {0}
AreOrdered pw first (e ∷ es) = IsOrdered first (gap_of pw e) × AreOrdered pw false es

later_ordered : (pw : ℕ) (es : List ℕ)
    → ((j : ℕ) → j < length es → 0 < gap_of pw (get_or es j 0)) → AreOrdered pw false es
later_ordered pw [] h = tt
later_ordered pw (e ∷ es) h = (h 0 (omega arith), later_ordered pw es (λ j lt. h (suc j) (omega (arith, lt))))

all_ordered : (pw : ℕ) (es : List ℕ)
    → ((j : ℕ) → j < length es → 0 < j → 0 < gap_of pw (get_or es j 0)) → AreOrdered pw true es
all_ordered pw [] h = tt
all_ordered pw (e ∷ es) h = (tt, later_ordered pw es (λ j lt. h (suc j) (omega (arith, lt)) (omega arith)))

none_by_order : (pw from : ℕ) (es : List ℕ) (i : ℕ) → AreOrdered pw false es → i ≤ from → patch_at pw from es i ≡ 0
none_by_order pw from [] i h le = refl
none_by_order pw from (e ∷ es) i h le =
    let order = h.0 in
    let t = ne_eqb i (from + gap_of pw e) (λ same. omega (arith, same, order, le)) in
    rw t (none_by_order pw (from + gap_of pw e) es i h.1 (omega (arith, le)))

none_there : (pw from e : ℕ) (es : List ℕ) (i : ℕ) → (i ≡ from + gap_of pw e → ⊥)
    → ((j : ℕ) → j < length es → (from + gap_of pw e) + patch_place pw es j ≡ i → ⊥)
    → (j : ℕ) → j < suc (length es) → from + patch_place pw (e ∷ es) j ≡ i → ⊥
none_there pw from e es i other none zero lt same = other (omega (arith, same))
none_there pw from e es i other none (suc j) lt same = none j (omega (arith, lt)) (omega (arith, same, place_more pw e es j))

-- the patch at a place is one entry's, or none has the place
patch_found : (pw from : ℕ) (es : List ℕ) (i : ℕ)
    → ((j : ℕ) × (j < length es) × (from + patch_place pw es j ≡ i)
    × (patch_at pw from es i ≡ patch_of pw (get_or es j 0)))
    ⊎ (((j : ℕ) → j < length es → from + patch_place pw es j ≡ i → ⊥) × (patch_at pw from es i ≡ 0))
patch_found pw from [] i = inr (λ j lt. absurd (omega (arith, lt)), refl)
patch_found pw from (e ∷ es) i =
    elim (cases_eq i (from + gap_of pw e)) [
      | inl same ↦
          let t = eq-eqb i (from + gap_of pw e) same in
          inl (0, omega arith, omega (arith, same), rw t refl)
      | inr other ↦
          let t = ne_eqb i (from + gap_of pw e) other in
          elim (patch_found pw (from + gap_of pw e) es i) [
            | inl there ↦ inl (suc there.0, omega (arith, there.1), omega (arith, there.2, place_more pw e es there.0), rw t there.3)
            | inr none ↦ inr (λ j lt same. none_there pw from e es i other none.0 j lt same, rw t none.1)
          ]
    ]

patch_is_at : (pw : ℕ) (es : List ℕ) (i : ℕ) → IsPatchAt pw es i (patch_at pw 0 es i)
patch_is_at pw es i =
    elim (patch_found pw 0 es i) [
      | inl there ↦ inl (there.0, there.1, omega (arith, there.2), there.3)
      | inr none ↦ inr (λ j lt same. none.0 j lt (omega (arith, same)), none.1)
    ]

-- past an entry each number is what it was, with the patches that are left
number_after : (w pw from e : ℕ) (es old new : List ℕ) (value i : ℕ)
    → AreOrdered pw false es → from + gap_of pw e < length old
    → get_or new (from + gap_of pw e) 0 ≡ value → get_or new i 0 ≡ get_or old i 0 + 2 ^ w * patch_at pw from (e ∷ es) i
    → get_or new i 0 ≡ get_or (set old (from + gap_of pw e) value) i 0 + 2 ^ w * patch_at pw (from + gap_of pw e) es i
number_after w pw from e es old new value i order place here number =
    let at = from + gap_of pw e in
    elim (cases_eq i at) [
      | inl same ↦
          let none = none_by_order pw at es i order (omega (arith, same)) in
          let there : get_or (set old at value) i 0 ≡ value = rw same (get_or-set_same old at value 0 place) in
          let here2 : get_or new i 0 ≡ value = rw same here in
          rw (there, none) (here2 ∙ omega arith)
      | inr other ↦
          let t = ne_eqb i at other in
          let there : get_or (set old at value) i 0 ≡ get_or old i 0 = get_or-set_other old at i value 0 other in
          rw there (rw t at number)
    ]

patches_from : (w pw : ℕ) (first : Bool) (from : ℕ) (es old new : List ℕ)
    → length new ≡ length old → AreOrdered pw first es
    → ((j : ℕ) → j < length es → from + patch_place pw es j < length old)
    → ((i : ℕ) → i < length old → get_or new i 0 ≡ get_or old i 0 + 2 ^ w * patch_at pw from es i)
    → AllFit 64 new → ArePatched w pw first from es old new
patches_from w pw first from [] old new len order within number fit =
    ext_get_or 0 new old len (λ i lt. number i (omega (arith, lt, len)) ∙ omega arith)
patches_from w pw first from (e ∷ es) old new len order within number fit =
    let at = from + gap_of pw e in
    let value = patched_at w (patch_of pw e) at old in
    let place : at < length old = omega (arith, within 0 (omega arith)) in
    let here : get_or new at 0 ≡ value = number at place ∙ rw (eq-eqb at at refl) refl in
    let range : value < 2 ^ 64 = subst (λ (n : ℕ). n < 2 ^ 64) here (AllFit-at 64 at new (omega (arith, place, len)) fit) in
    let same_len = length-set old at value in (
      record { order = order.0; place = place; range = range },
      patches_from w pw false at es (set old at value) new (omega (arith, len, same_len)) order.1
          (λ j lt. omega (arith, within (suc j) (omega (arith, lt)), place_more pw e es j, same_len))
          (λ i lt. number_after w pw from e es old new value i order.1 place here (number i (omega (arith, lt, same_len))))
          fit,
    )

-- the patches are what applying them one after the other gives
pub patches_are_applied : (w pw : ℕ) (entries numbers patched : List ℕ) → HasPatches w pw entries numbers patched
    → ArePatched w pw true 0 entries numbers patched
patches_are_applied w pw entries numbers patched p =
    patches_from w pw true 0 entries numbers patched p.len (all_ordered pw entries p.ascend)
    (λ j lt. omega (arith, p.within j lt)) (λ i lt. p.number i (patch_at pw 0 entries i) lt (patch_is_at pw entries i)) p.fit

-- Going through the fields of bytes until one has a number of 10 or less.
use Rattle.std.specs.Prelude.{◌≡◌, ℕ, ◌+◌, ◌^◌, ◌<◌, ◌≤◌, List, [], ◌∷◌, length, ◌++◌, refl}
use Rattle.std.proofs.Common.{sym, ◌∙◌, ap, subst, inl, inr, arith, append_assoc, length-append}
use Rattle.std.proofs.lemmas.List.{append-nil}
use Rattle.std.specs.List.{AllByRecursion}
use Rattle.orc_wire.specs.declared.fault.WireFault.{WireFault}
use Rattle.orc_wire.specs.Fields.{Item, IsField, IsFields, NoField}
use Rattle.orc_wire.specs.laws.FieldLaws.{one_field, none_field}
use Rattle.orc_wire.specs.laws.SpellsLaws.{IsFrontOfFields, after_front, text_some}
use Rattle.orc_wire.specs.Canonical.{IsBetween}
use Rattle.orc_wire.specs.CanonicalKinds.{AreKept}

-- the fields so far have numbers above 10
pub record Scanned (kept rest : List ℕ) (place : ℕ) : Type 0 where
  pub fields : List Item
  pub front : List ℕ
  pub parts : kept ≡ front ++ rest
  pub at : place ≡ 0 + length front
  pub are : IsFields 0 fields front
  pub above : AllByRecursion (IsBetween 11 (2 ^ 29)) fields

pub scanned_none : (kept : List ℕ) → Scanned kept kept 0
scanned_none kept = record { fields = []; front = []; parts = refl; at = omega arith; are = refl; above = tt }

pub scanned_next : (kept rest rest2 : List ℕ) (place place2 : ℕ) (item : Item) → Scanned kept rest place → IsField place item → rest ≡ item.text ++ rest2 → place2 ≡ place + length item.text
    → 10 < item.number → Scanned kept rest2 place2
scanned_next kept rest rest2 place place2 item s is parts at high = record {
  fields = item ∷ s.fields;
  front = s.front ++ item.text;
  parts = s.parts ∙ (ap (λ (t : List ℕ). s.front ++ t) parts ∙ sym (append_assoc s.front item.text rest2));
  at = omega (arith, at, s.at, length-append s.front item.text);
  are = (s.front, refl, s.are, subst (λ (k : ℕ). IsField k item) s.at is);
  above = (let most = is.most in record { least = omega (arith, high); most = most }, s.above);
}

pub scanned_all : (kept rest : List ℕ) (place : ℕ) → Scanned kept rest place → rest ≡ [] → AreKept 11 kept
scanned_all kept rest place s e = record {
  fields = s.fields;
  are = subst (λ (t : List ℕ). IsFields 0 s.fields t) (sym (s.parts ∙ (ap (λ (t : List ℕ). s.front ++ t) e ∙ append-nil s.front))) s.are;
  from = s.above;
}

within_above : (item : Item) (fs gs : List Item) → IsFrontOfFields (item ∷ fs) gs → AllByRecursion (IsBetween 11 (2 ^ 29)) gs → 11 ≤ item.number
within_above item fs [] e all = let h : item ∷ fs ≡ [] = e in cc
within_above item fs (g ∷ gs) (inl e) all = let h : item ∷ fs ≡ g ∷ gs = e in let k : item ≡ g = cc in subst (λ (t : Item). 11 ≤ t.number) (sym k) (let b = all.0 in b.least)
within_above item fs (g ∷ gs) (inr w) all = within_above item fs gs w all.1

pub low_field : (kept rest rest2 : List ℕ) (place : ℕ) (item : Item) → Scanned kept rest place → IsField place item → rest ≡ item.text ++ rest2 → item.number ≤ 10 → AreKept 11 kept → ⊥
low_field kept rest rest2 place item s is parts low k =
    let here : IsField (0 + length s.front) item = subst (λ (t : ℕ). IsField t item) s.at is in
    elim (after_front 0 s.fields k.fields s.front rest kept s.are k.are s.parts) [
      | inl ends ↦
          let some = text_some place item is in
          let e : item.text ++ rest2 ≡ [] = sym parts ∙ ends.rest_is in
          let len : length item.text + length rest2 ≡ 0 = sym (length-append item.text rest2) ∙ ap length e in
          omega (arith, some, len)
      | inr next ↦
          let same = one_field (0 + length s.front) item next.item rest2 next.more here next.next (sym parts ∙ next.parts) in
          let high = within_above next.item s.fields k.fields next.within k.from in
          let low2 : next.item.number ≤ 10 = subst (λ (t : Item). t.number ≤ 10) same low in
          omega (arith, high, low2)
    ]

pub bad_field : (kept rest : List ℕ) (place : ℕ) (fault : WireFault) → Scanned kept rest place → (rest ≡ [] → ⊥) → NoField place rest fault → AreKept 11 kept → ⊥
bad_field kept rest place fault s some none k =
    elim (after_front 0 s.fields k.fields s.front rest kept s.are k.are s.parts) [
      | inl ends ↦ some ends.rest_is
      | inr next ↦
          let here : NoField (0 + length s.front) rest fault = subst (λ (t : ℕ). NoField t rest fault) s.at none in
          none_field (0 + length s.front) next.item next.more fault (subst (λ (t : List ℕ). NoField (0 + length s.front) t fault) next.parts here) next.next
    ]

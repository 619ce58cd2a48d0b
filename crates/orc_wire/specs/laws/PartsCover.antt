-- What a field gives to a member, or why it is refused, whatever bytes it holds (Protocol Buffers encoding,
-- "Packed Repeated Fields", "Submessages").
use Rattle.std.specs.Prelude.{◌≡◌, ℕ, zero, suc, ◌<◌, ◌≤◌, List, [], ◌∷◌, length, ◌++◌, ◌⊎◌, Option, Some, None, Bool, true, false, cond, ◌==◌, ℤ, refl}
use Rattle.std.specs.Option.{option_map, IfSome}
use Rattle.std.specs.Bool.{MatchBool}
use Rattle.std.proofs.Common.{sym, ◌∙◌, ap, subst, inl, inr, arith, append_assoc, length-append, pos, negsuc, ◌/◌, ◌%◌}
use Rattle.std.proofs.lemmas.Bool.{cases_lt, cases_eq}
use Rattle.orc_bits.specs.Varint.{AllBytes, HasVarint, NoVarint}
use Rattle.orc_bits.specs.declared.fault.BitFault.{BitFault}
use Rattle.orc_bits.specs.Zigzag.{zig}
use Rattle.orc_bits.proofs.VarintCover.{some_varint}
use Rattle.orc_wire.specs.declared.fault.WireFault.{WireFault}
use Rattle.orc_wire.specs.declared.fault.WireFault.TheVariants.{ValueRange, RepeatedMessage}
use Rattle.orc_wire.specs.Fields.{Payload, varint, eight, four, sized, Item, HoldsBytes, fault_at}
use Rattle.orc_wire.specs.laws.FieldCover.{bytes_behind}
use Rattle.orc_wire.specs.Members.{Member}
use Rattle.orc_wire.specs.Spells.{as_bytes, number_in, bytes_of_field}
use Rattle.orc_wire.specs.laws.SpellsLaws.{chain_some}
use Rattle.orc_wire.specs.laws.SpellsCover.{some_spelled}
use Rattle.orc_wire.specs.Parts.{IsTooLarge, AreVarints, FailsWithin, PackedPart, PackedFails, inside, MessageIn, MessageFails, OnlyFails, JoinsOnly}

-- ---- numbers

below_or_large : (limit n : ℕ) (item : Item) (p : Option ℕ) → p ≡ number_in n item
    → IfSome p (λ v. v < limit) ⊎ ((fault : WireFault) × IsTooLarge limit n item fault)
below_or_large limit n item None e = inl tt
below_or_large limit n item (Some v) e = elim (cases_lt v limit) [
  | inl less ↦ inl less
  | inr more ↦ inr (ValueRange item.place, record { value = v; is = sym e; large = more; fails = refl })
]

pub some_small : (limit n : ℕ) (item : Item)
    → ((p : Option ℕ) × ((p ≡ number_in n item) × IfSome p (λ v. v < limit)))
    ⊎ ((fault : WireFault) × IsTooLarge limit n item fault)
some_small limit n item = elim (below_or_large limit n item (number_in n item) refl) [
  | inl less ↦ inl (number_in n item, (refl, less))
  | inr bad ↦ inr bad
]

-- each number stands for a signed one
unfolded : (n : ℕ) → (z : ℤ) × (zig z ≡ n)
unfolded n = elim (cases_eq (n % 2) 0) [
  | inl even ↦ (pos (n / 2), omega (arith, even))
  | inr odd ↦ (negsuc (n / 2), omega (arith, odd))
]

signed_of : (p : Option ℕ) → (q : Option ℤ) × (option_map zig q ≡ p)
signed_of None = (None, refl)
signed_of (Some n) = let z = unfolded n in (Some z.0, ap (λ (k : ℕ). Some k) z.1)

pub some_signed : (n : ℕ) (item : Item) → (p : Option ℤ) × (option_map zig p ≡ number_in n item)
some_signed n item = signed_of (number_in n item)

same_below : (limit : ℕ) (q : Option ℤ) → IfSome (option_map zig q) (λ v. v < limit) → IfSome q (λ z. zig z < limit)
same_below limit None less = tt
same_below limit (Some z) less = less

pub some_small_signed : (limit n : ℕ) (item : Item)
    → ((p : Option ℤ) × ((option_map zig p ≡ number_in n item) × IfSome p (λ z. zig z < limit)))
    ⊎ ((fault : WireFault) × IsTooLarge limit n item fault)
some_small_signed limit n item =
    let q = some_signed n item in
    elim (below_or_large limit n item (option_map zig q.0) q.1) [
      | inl less ↦ inl (q.0, (q.1, same_below limit q.0 less))
      | inr bad ↦ inr bad
    ]

-- ---- packed numbers

shorter : (k : ℕ) (bytes : List ℕ) (h : HasVarint bytes) → length bytes ≤ suc k → length h.rest ≤ k
shorter k bytes h le =
    let some = chain_some h.front h.is.chain in
    let sum = length-append h.front h.rest in
    let same = ap length h.parts in
    omega (arith, le, some, sum, same)

module _ (limit place : ℕ) where
  -- the bytes are varints of numbers below the limit, or there is a fault that says why not
  abbrev SomeVarints : List ℕ → Type 0
  SomeVarints bytes =
      ((ns : List ℕ) × AreVarints limit ns bytes)
      ⊎ ((fault : WireFault) × FailsWithin limit bytes place fault)

  one_more : (bytes : List ℕ) (h : HasVarint bytes) → h.number < limit → SomeVarints h.rest → SomeVarints bytes
  one_more bytes h less (inl more) = inl (h.number ∷ more.0, (h.front, h.rest, h.is, less, h.parts, more.1))
  one_more bytes h less (inr (fault, bad)) = inr (
    fault,
    record {
      values = h.number ∷ bad.values;
      front = h.front ++ bad.front;
      rest = bad.rest;
      are = (h.front, bad.front, h.is, less, refl, bad.are);
      parts = h.parts ∙ (ap (λ (t : List ℕ). h.front ++ t) bad.parts ∙ sym (append_assoc h.front bad.front bad.rest));
      fails = bad.fails;
    },
  )

  large_first : (bytes : List ℕ) (h : HasVarint bytes) → limit ≤ h.number → SomeVarints bytes
  large_first bytes h large = inr (
    ValueRange place,
    record {
      values = [];
      front = [];
      rest = bytes;
      are = refl;
      parts = refl;
      fails = inr (record { front = h.front; rest = h.rest; value = h.number; is = h.is; large = large; parts = h.parts }, refl);
    },
  )

  none_first : (bytes : List ℕ) (why : BitFault) → (bytes ≡ [] → ⊥) → NoVarint bytes why → SomeVarints bytes
  none_first bytes why some none = inr (
    fault_at place why,
    record {
      values = [];
      front = [];
      rest = bytes;
      are = refl;
      parts = refl;
      fails = inl (some, why, none, refl);
    },
  )

  some_varints : (k : ℕ) (bytes : List ℕ) → length bytes ≤ k → AllBytes bytes → SomeVarints bytes
  some_varints k [] le are = inl ([], refl)
  some_varints zero (b ∷ bytes) le are = absurd (omega (arith, le))
  some_varints (suc k) (b ∷ bytes) le are = elim (some_varint (b ∷ bytes) are) [
    | inl h ↦
        let behind = bytes_behind h.front h.rest (subst AllBytes h.parts are) in
        elim (cases_lt h.number limit) [
          | inl less ↦ one_more (b ∷ bytes) h less (some_varints k h.rest (shorter k (b ∷ bytes) h le) behind)
          | inr large ↦ large_first (b ∷ bytes) h large
        ]
    | inr none ↦ none_first (b ∷ bytes) none.0 (λ e. cc) none.1
  ]

  pub packed_or : (payload : Payload) → HoldsBytes payload
      → ((ns : List ℕ) × PackedPart limit payload ns) ⊎ ((fault : WireFault) × PackedFails limit payload place fault)
  packed_or (varint v) are = elim (cases_lt v limit) [ inl less ↦ inl (v ∷ [], (less, refl)) | inr large ↦ inr (ValueRange place, (large, refl)) ]
  packed_or (eight b) are = inl ([], refl)
  packed_or (four b) are = inl ([], refl)
  packed_or (sized b) are = some_varints (length b) b (omega arith) are

  pub some_packed : (test : Bool) (payload : Payload) → HoldsBytes payload
      → ((ns : List ℕ) × MatchBool test (PackedPart limit payload ns) (ns ≡ []))
      ⊎ ((fault : WireFault) × MatchBool test (PackedFails limit payload place fault) ⊥)
  some_packed true payload are = packed_or payload are
  some_packed false payload are = inl ([], refl)

-- ---- messages

held_by : (test : Bool) (payload : Payload) (b : List ℕ)
    → HoldsBytes payload → cond test (as_bytes payload) None ≡ Some b → AllBytes b
held_by true (varint n) b are e = absurd cc
held_by true (eight c) b are e = absurd cc
held_by true (four c) b are e = absurd cc
held_by true (sized c) b are e = let same : c ≡ b = cc in subst AllBytes same are
held_by false payload b are e = absurd cc

module _ {C : Type 0} (members : Member C) (required n : ℕ) (item : Item) (are : HoldsBytes item.payload) where
  message_or : (t : Option (List ℕ))
      → bytes_of_field n item ≡ t
      → ((p : Option C) × MessageIn members required n item t p)
      ⊎ ((fault : WireFault) × MessageFails members required n item t fault)
  message_or None e = inl (None, refl)
  message_or (Some b) e = elim (some_spelled members required (inside item b) b (held_by (item.number == n) item.payload b are e)) [
    | inl is ↦ inl (Some is.0, (is.0, refl, is.1))
    | inr bad ↦ inr bad
  ]

  pub some_message : ((p : Option C) × MessageIn members required n item (bytes_of_field n item) p) ⊎
      ((fault : WireFault) × MessageFails members required n item (bytes_of_field n item) fault)
  some_message = message_or (bytes_of_field n item) refl

  -- the field is joined to what was there, or there is a fault that says why not
  abbrev SomeOnly : Option C → Type 0
  SomeOnly old =
      ((v : Option C) × ((p : Option C) × MessageIn members required n item (bytes_of_field n item) p × JoinsOnly old p v))
      ⊎ ((fault : WireFault) × OnlyFails members required n item old fault)

  another : (c : C) (t : Option (List ℕ)) → bytes_of_field n item ≡ t → SomeOnly (Some c)
  another c None e = inl (Some c, (None, subst (λ (t : Option (List ℕ)). MessageIn members required n item t None) (sym e) refl, (refl, refl)))
  another c (Some b) e = inr (RepeatedMessage item.place, (b, e, refl))

  pub some_only : (old : Option C) → SomeOnly old
  some_only None = elim some_message [ inl is ↦ inl (is.0, (is.0, is.1, refl)) | inr bad ↦ inr bad ]
  some_only (Some c) = another c (bytes_of_field n item) refl

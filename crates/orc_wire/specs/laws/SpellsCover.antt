-- Where bytes spell no message, there is a fault (Protocol Buffers encoding, "Message Structure").
use Rattle.std.specs.Prelude.{◌≡◌, ℕ, zero, suc, ◌+◌, ◌≤◌, List, [], ◌∷◌, length, ◌++◌, ◌⊎◌, refl}
use Rattle.std.proofs.Common.{sym, ◌∙◌, subst, inl, inr, arith, ap, append_assoc, length-append}
use Rattle.std.proofs.lemmas.Bool.{cases_Bool}
use Rattle.std.proofs.lemmas.List.{append-nil}
use Rattle.orc_bits.specs.Varint.{AllBytes}
use Rattle.orc_wire.specs.declared.fault.WireFault.{WireFault}
use Rattle.orc_wire.specs.declared.fault.WireFault.TheVariants.{Missing}
use Rattle.orc_wire.specs.Fields.{Item, IsFields, NoField, HasField}
use Rattle.orc_wire.specs.laws.FieldCover.{bytes_behind, bytes_before, some_field, field_bytes}
use Rattle.orc_wire.specs.Members.{Member}
use Rattle.orc_wire.specs.Spells.{has_number, Spells, Faults}
use Rattle.orc_wire.specs.laws.SpellsLaws.{text_some}

module _ {C : Type 0} (members : Member C) (required base : ℕ) (bytes : List ℕ) where
  -- the bytes spell a content of the message, or there is a fault that says why not
  abbrev SomeContent : Type 0
  SomeContent =
      ((content : C) × Spells members required base bytes content)
      ⊎ ((fault : WireFault) × Faults members required base bytes fault)

  -- the fields read so far, what they say, and what is left
  record IsBefore (rest : List ℕ) : Type 0 where
    fields : List Item
    front : List ℕ
    content : C
    parts : bytes ≡ front ++ rest
    are : IsFields base fields front
    says : members.says fields content

  all_read : IsBefore [] → SomeContent
  all_read r =
      let whole : r.front ≡ bytes = sym (r.parts ∙ append-nil r.front) in
      let are = subst (λ (t : List ℕ). IsFields base r.fields t) whole r.are in
      elim (cases_Bool (has_number required r.fields)) [
        | inl there ↦ inl (r.content, record { fields = r.fields; are = are; says = r.says; complete = there })
        | inr missing ↦ inr (
          Missing,
          inr (inr (record {
            fields = r.fields;
            content = r.content;
            are = are;
            says = r.says;
            incomplete = missing;
            fails = refl;
          })),
        )
      ]

  ends : (rest : List ℕ) (r : IsBefore rest) (fault : WireFault)
      → (rest ≡ [] → ⊥) → NoField (base + length r.front) rest fault → SomeContent
  ends rest r fault some none = inr (
    fault,
    inl (record {
      fields = r.fields;
      front = r.front;
      rest = rest;
      content = r.content;
      parts = r.parts;
      are = r.are;
      says = r.says;
      some = some;
      fails = none;
    }),
  )

  whole_parts : (front rest text more : List ℕ)
      → bytes ≡ front ++ rest → rest ≡ text ++ more → bytes ≡ front ++ (text ++ more)
  whole_parts front rest text more e f = e ∙ ap (λ (t : List ℕ). front ++ t) f

  refused : (rest : List ℕ) (r : IsBefore rest) (next : HasField (base + length r.front) rest) (fault : WireFault)
      → members.refuses next.item r.content fault → SomeContent
  refused rest r next fault bad = inr (
    fault,
    inr (inl (record {
      fields = r.fields;
      front = r.front;
      item = next.item;
      rest = next.rest;
      content = r.content;
      parts = whole_parts r.front rest next.item.text next.rest r.parts next.parts;
      are = r.are;
      says = r.says;
      next = next.is;
      fails = bad;
    })),
  )

  grown : (rest : List ℕ) (r : IsBefore rest) (next : HasField (base + length r.front) rest) (new : C)
      → members.steps next.item r.content new → IsBefore next.rest
  grown rest r next new step = record {
    fields = next.item ∷ r.fields;
    front = r.front ++ next.item.text;
    content = new;
    parts = whole_parts r.front rest next.item.text next.rest r.parts next.parts ∙ sym (append_assoc r.front next.item.text next.rest);
    are = (r.front, refl, r.are, next.is);
    says = members.grow next.item r.fields r.content new r.says step;
  }

  shorter : (k place : ℕ) (rest : List ℕ) (next : HasField place rest) → length rest ≤ suc k → length next.rest ≤ k
  shorter k place rest next le =
      let some = text_some place next.item next.is in
      let sum = length-append next.item.text next.rest in
      let same = ap length next.parts in
      omega (arith, le, some, sum, same)

  read_on : (k : ℕ) (rest : List ℕ) → length rest ≤ k → AllBytes rest → IsBefore rest → SomeContent
  read_on k [] le are r = all_read r
  read_on zero (b ∷ rest) le are r = absurd (omega (arith, le))
  read_on (suc k) (b ∷ rest) le are r = elim (some_field (base + length r.front) (b ∷ rest) are) [
    | inl next ↦
        let parts = subst AllBytes next.parts are in
        let held = field_bytes (base + length r.front) next.item next.is (bytes_before next.item.text next.rest parts) in
        elim (members.cover next.item r.content held) [
          | inl step ↦
              read_on k next.rest (shorter k (base + length r.front) (b ∷ rest) next le) (bytes_behind next.item.text next.rest parts)
              (grown (b ∷ rest) r next step.0 step.1)
          | inr bad ↦ refused (b ∷ rest) r next bad.0 bad.1
        ]
    | inr none ↦ ends (b ∷ rest) r none.0 (λ e. cc) none.1
  ]

  -- bytes spell a message or have a fault
  pub some_spelled : AllBytes bytes
      → ((content : C) × Spells members required base bytes content)
      ⊎ ((fault : WireFault) × Faults members required base bytes fault)
  some_spelled are =
      read_on (length bytes) bytes (omega arith) are
      (record { fields = []; front = []; content = members.start; parts = refl; are = refl; says = members.starts })

-- Where no field stands, one fault says why (Protocol Buffers encoding, "Message Structure").
use Rattle.std.proofs.Common.{◌≡◌, ℕ, ◌%◌, List, refl, sym, ap, ◌∙◌, subst, arith, inl, inr, ◌⊎◌}
use Rattle.orc_bits.specs.Varint.{NoVarint}
use Rattle.orc_bits.specs.declared.fault.BitFault.{BitFault}
use Rattle.orc_bits.specs.declared.fault.BitFault.TheVariants as bits
use Rattle.orc_bits.proofs.VarintLaws.{no_varint, one_fault}
use Rattle.orc_wire.specs.declared.fault.WireFault.{WireFault}
use Rattle.orc_wire.specs.declared.fault.WireFault.TheVariants.{Short, BadVarint, BadWireType, ValueRange, RepeatedMessage, Missing, OutOfMemory}
use Rattle.orc_wire.specs.Fields.{IsWire, IsCut, IsGoodKey, IsBadKey, HasBadKey, LacksPayload, NoPayload, NoField, fault_at}
use Rattle.orc_wire.specs.laws.FieldLaws.{one_varint}

-- no varint, and no bytes after a length
no_sized : (bytes : List ℕ) (why : BitFault) → NoVarint bytes why → IsCut bytes → ⊥
no_sized bytes why none cut = no_varint cut.size cut.rest cut.most why (subst (λ (t : List ℕ). NoVarint t why) cut.parts none) cut.sized

short_long : (w : ℕ) (bytes : List ℕ)
    → NoPayload w bytes bits.Short → NoPayload w bytes bits.TooLong → bits.Short ≡ bits.TooLong
short_long w bytes (inl p) q = one_fault bytes bits.Short bits.TooLong p.1 q.1
short_long w bytes (inr (inl p)) q = elim q.0 [ inl z ↦ absurd (omega (arith, p.0, z)) | inr z ↦ absurd (omega (arith, p.0, z)) ]
short_long w bytes (inr (inr (inl (z, inl p)))) q = one_fault bytes bits.Short bits.TooLong p q.1
short_long w bytes (inr (inr (inl (z, inr p)))) q = absurd (no_sized bytes bits.TooLong q.1 p)
short_long w bytes (inr (inr (inr p))) q = elim q.0 [ inl z ↦ absurd (omega (arith, p.0, z)) | inr z ↦ absurd (omega (arith, p.0, z)) ]

one_payload_fault : (w : ℕ) (bytes : List ℕ) (e f : BitFault) → NoPayload w bytes e → NoPayload w bytes f → e ≡ f
one_payload_fault w bytes bits.Short bits.Short p q = refl
one_payload_fault w bytes bits.Short bits.TooLong p q = short_long w bytes p q
one_payload_fault w bytes bits.TooLong bits.Short p q = sym (short_long w bytes q p)
one_payload_fault w bytes bits.TooLong bits.TooLong p q = refl
one_payload_fault w bytes bits.OutOfMemory f p q = absurd p
one_payload_fault w bytes bits.Short bits.OutOfMemory p q = absurd q
one_payload_fault w bytes bits.TooLong bits.OutOfMemory p q = absurd q

-- the three reasons for a fault
record NoKey (place : ℕ) (bytes : List ℕ) (fault : WireFault) : Type 0 where
  why : BitFault
  none : NoVarint bytes why
  fails : fault ≡ fault_at place why

-- a key stands in front, and its payload does not
record HasNoPayload (place : ℕ) (bytes : List ℕ) (fault : WireFault) : Type 0 where
  why : BitFault
  lacks : LacksPayload bytes why
  fails : fault ≡ fault_at place why

-- the key in front has a field number or a wire type that no field has
record IsBad (place : ℕ) (bytes : List ℕ) (fault : WireFault) : Type 0 where
  bad : HasBadKey bytes
  fails : fault ≡ BadWireType place

-- one of the three
abbrev Why : ℕ → List ℕ → WireFault → Type 0
Why place bytes fault = NoKey place bytes fault ⊎ (HasNoPayload place bytes fault ⊎ IsBad place bytes fault)

why_not : (place : ℕ) (bytes : List ℕ) (fault : WireFault) → NoField place bytes fault → Why place bytes fault
why_not place bytes (Short p) h = elim h.1 [
  | inl k ↦ inl (record { why = bits.Short; none = k; fails = ap Short h.0 })
  | inr k ↦ inr (inl (record { why = bits.Short; lacks = k; fails = ap Short h.0 }))
]
why_not place bytes (BadVarint p) h = elim h.1 [
  | inl k ↦ inl (record { why = bits.TooLong; none = k; fails = ap BadVarint h.0 })
  | inr k ↦ inr (inl (record { why = bits.TooLong; lacks = k; fails = ap BadVarint h.0 }))
]
why_not place bytes (BadWireType p) h = inr (inr (record { bad = h.1; fails = ap BadWireType h.0 }))
why_not place bytes (ValueRange p) h = absurd h
why_not place bytes (RepeatedMessage p) h = absurd h
why_not place bytes Missing h = absurd h
why_not place bytes OutOfMemory h = absurd h

key_lacks : (place : ℕ) (bytes : List ℕ) (e f : WireFault) → NoKey place bytes e → HasNoPayload place bytes f → ⊥
key_lacks place bytes e f p q = no_varint q.lacks.key q.lacks.rest q.lacks.number p.why
    (subst (λ (t : List ℕ). NoVarint t p.why) q.lacks.parts p.none) q.lacks.keyed

key_bad : (place : ℕ) (bytes : List ℕ) (e f : WireFault) → NoKey place bytes e → IsBad place bytes f → ⊥
key_bad place bytes e f p q = no_varint q.bad.key q.bad.rest q.bad.number p.why (subst (λ (t : List ℕ). NoVarint t p.why) q.bad.parts p.none) q.bad.keyed

good_bad : (m n : ℕ) → m ≡ n → IsGoodKey m → IsBadKey n → ⊥
good_bad m n e good (inl z) = omega (arith, e, z, good.least)
good_bad m n e good (inr (inl z)) = omega (arith, e, z, good.most)
good_bad m n e good (inr (inr z)) = z (subst (λ (k : ℕ). IsWire (k % 8)) e good.kind)

lacks_bad : (place : ℕ) (bytes : List ℕ) (e f : WireFault) → HasNoPayload place bytes e → IsBad place bytes f → ⊥
lacks_bad place bytes e f p q =
    let t = one_varint p.lacks.key q.bad.key p.lacks.rest q.bad.rest p.lacks.number q.bad.number p.lacks.keyed q.bad.keyed (sym p.lacks.parts ∙ q.bad.parts) in
    good_bad p.lacks.number q.bad.number t.number p.lacks.good q.bad.bad

lacks_lacks : (place : ℕ) (bytes : List ℕ) (e f : WireFault) → HasNoPayload place bytes e → HasNoPayload place bytes f → e ≡ f
lacks_lacks place bytes e f p q =
    let t = one_varint p.lacks.key q.lacks.key p.lacks.rest q.lacks.rest p.lacks.number q.lacks.number p.lacks.keyed q.lacks.keyed
    (sym p.lacks.parts ∙ q.lacks.parts) in
    let number = subst (λ (k : ℕ). NoPayload (k % 8) p.lacks.rest p.why) t.number p.lacks.missing in
    let moved = subst (λ (r : List ℕ). NoPayload (q.lacks.number % 8) r p.why) t.rest number in
    let same = one_payload_fault (q.lacks.number % 8) q.lacks.rest p.why q.why moved q.lacks.missing in
    p.fails ∙ (ap (fault_at place) same ∙ sym q.fails)

one_why : (place : ℕ) (bytes : List ℕ) (e f : WireFault) → Why place bytes e → Why place bytes f → e ≡ f
one_why place bytes e f (inl p) (inl q) = p.fails ∙ (ap (fault_at place) (one_fault bytes p.why q.why p.none q.none) ∙ sym q.fails)
one_why place bytes e f (inl p) (inr (inl q)) = absurd (key_lacks place bytes e f p q)
one_why place bytes e f (inl p) (inr (inr q)) = absurd (key_bad place bytes e f p q)
one_why place bytes e f (inr (inl p)) (inl q) = absurd (key_lacks place bytes f e q p)
one_why place bytes e f (inr (inr p)) (inl q) = absurd (key_bad place bytes f e q p)
one_why place bytes e f (inr (inl p)) (inr (inl q)) = lacks_lacks place bytes e f p q
one_why place bytes e f (inr (inl p)) (inr (inr q)) = absurd (lacks_bad place bytes e f p q)
one_why place bytes e f (inr (inr p)) (inr (inl q)) = absurd (lacks_bad place bytes f e q p)
one_why place bytes e f (inr (inr p)) (inr (inr q)) = p.fails ∙ sym q.fails

pub one_no_field : (place : ℕ) (bytes : List ℕ) (e f : WireFault)
    → NoField place bytes e → NoField place bytes f → e ≡ f
one_no_field place bytes e f p q = one_why place bytes e f (why_not place bytes e p) (why_not place bytes f q)

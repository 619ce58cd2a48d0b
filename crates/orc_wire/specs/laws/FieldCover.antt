-- Where no field stands in front of bytes, there is a fault (Protocol Buffers encoding, "Message
-- Structure").
use Rattle.std.proofs.Common.{◌≡◌, ℕ, ◌*◌, ◌+◌, ◌/◌, ◌%◌, ◌^◌, List, [], ◌∷◌, ◌++◌, ◌⊎◌, length, take, drop}
use Rattle.std.proofs.Common.{refl, sym, ◌∙◌, ap, subst, arith, inl, inr, append_assoc}
use Rattle.std.proofs.lemmas.Bool.{cases_lt, cases_eq}
use Rattle.std.proofs.lemmas.List.{take-append-drop, length-take-le}
use Rattle.orc_bits.specs.Varint.{IsVarint, AllBytes, HasVarint}
use Rattle.orc_bits.specs.declared.fault.BitFault.{BitFault}
use Rattle.orc_bits.specs.declared.fault.BitFault.TheVariants as bits
use Rattle.orc_bits.proofs.VarintCover.{some_varint}
use Rattle.orc_wire.specs.declared.fault.WireFault.{WireFault}
use Rattle.orc_wire.specs.declared.fault.WireFault.TheVariants.{Short, BadVarint, BadWireType}
use Rattle.orc_wire.specs.Fields.{Payload, varint, eight, four, sized, Item, wire, IsWire, IsPayload, IsField, HoldsBytes, HasField}
use Rattle.orc_wire.specs.Fields.{IsBadKey, IsGoodKey, LacksPayload, NoPayload, NoField}

pub bytes_behind : (front rest : List ℕ) → AllBytes (front ++ rest) → AllBytes rest
bytes_behind [] rest are = are
bytes_behind (b ∷ front) rest are = bytes_behind front rest are.1

pub bytes_before : (front rest : List ℕ) → AllBytes (front ++ rest) → AllBytes front
bytes_before [] rest are = tt
bytes_before (b ∷ front) rest are = (are.0, bytes_before front rest are.1)

-- a payload of the wire type in front
record HasPayload (w : ℕ) (bytes : List ℕ) : Type 0 where
  payload : Payload
  text : List ℕ
  rest : List ℕ
  parts : bytes ≡ text ++ rest
  holds : IsPayload payload text
  kind : wire payload ≡ w

-- a payload of the wire type stands in front, or there is a reason why none does
abbrev SomePayload : ℕ → List ℕ → Type 0
SomePayload w bytes = HasPayload w bytes ⊎ ((why : BitFault) × NoPayload w bytes why)

some_number : (w : ℕ) (bytes : List ℕ) → AllBytes bytes → w ≡ 0 → SomePayload w bytes
some_number w bytes are e = elim (some_varint bytes are) [
  | inl h ↦ inl (record { payload = varint h.number; text = h.front; rest = h.rest; parts = h.parts; holds = h.is; kind = sym e })
  | inr (bits.Short, none) ↦ inr (bits.Short, inl (e, none))
  | inr (bits.TooLong, none) ↦ inr (bits.TooLong, (inl e, none))
  | inr (bits.OutOfMemory, none) ↦ absurd none
]

some_eight : (w : ℕ) (bytes : List ℕ) → w ≡ 1 → SomePayload w bytes
some_eight w bytes e = elim (cases_lt (length bytes) 8) [
  | inl few ↦ inr (bits.Short, inr (inl (e, few)))
  | inr there ↦ inl (record {
    payload = eight (take 8 bytes);
    text = take 8 bytes;
    rest = drop 8 bytes;
    parts = sym (take-append-drop 8 bytes);
    holds = (length-take-le 8 bytes there, refl);
    kind = sym e;
  })
]

some_four : (w : ℕ) (bytes : List ℕ) → w ≡ 5 → SomePayload w bytes
some_four w bytes e = elim (cases_lt (length bytes) 4) [
  | inl few ↦ inr (bits.Short, inr (inr (inr (e, few))))
  | inr there ↦ inl (record {
    payload = four (take 4 bytes);
    text = take 4 bytes;
    rest = drop 4 bytes;
    parts = sym (take-append-drop 4 bytes);
    holds = (length-take-le 4 bytes there, refl);
    kind = sym e;
  })
]

-- a length, and as many bytes or fewer
behind_size : (w : ℕ) (bytes : List ℕ) → w ≡ 2 → HasVarint bytes → SomePayload w bytes
behind_size w bytes e h = elim (cases_lt (length h.rest) h.number) [
  | inl fewer ↦ inr (
    bits.Short,
    inr (inr (inl (
      e,
      inr (record {
        size = h.front;
        most = h.number;
        rest = h.rest;
        sized = h.is;
        parts = h.parts;
        fewer = fewer;
      }),
    ))),
  )
  | inr there ↦
      let content = take h.number h.rest in
      let more = drop h.number h.rest in
      inl (record {
        payload = sized content;
        text = h.front ++ content;
        rest = more;
        parts = h.parts ∙ (ap (λ (t : List ℕ). h.front ++ t) (sym (take-append-drop h.number h.rest)) ∙ sym (append_assoc h.front content more));
        holds = record { size = h.front; sized = subst (IsVarint h.front) (sym (length-take-le h.number h.rest there)) h.is; parts = refl };
        kind = sym e;
      })
]

some_sized : (w : ℕ) (bytes : List ℕ) → AllBytes bytes → w ≡ 2 → SomePayload w bytes
some_sized w bytes are e = elim (some_varint bytes are) [
  | inl h ↦ behind_size w bytes e h
  | inr (bits.Short, none) ↦ inr (bits.Short, inr (inr (inl (e, inl none))))
  | inr (bits.TooLong, none) ↦ inr (bits.TooLong, (inr e, none))
  | inr (bits.OutOfMemory, none) ↦ absurd none
]

some_payload : (w : ℕ) (bytes : List ℕ) → AllBytes bytes → IsWire w → SomePayload w bytes
some_payload w bytes are (inl e) = some_number w bytes are e
some_payload w bytes are (inr (inl e)) = some_eight w bytes e
some_payload w bytes are (inr (inr (inl e))) = some_sized w bytes are e
some_payload w bytes are (inr (inr (inr e))) = some_four w bytes e

wire_or_not : (w : ℕ) → IsWire w ⊎ (IsWire w → ⊥)
wire_or_not w = elim (cases_eq w 0) [
  | inl zero ↦ inl (inl zero)
  | inr not_zero ↦ elim (cases_eq w 1) [
    | inl one ↦ inl (inr (inl one))
    | inr not_one ↦ elim (cases_eq w 2) [
      | inl two ↦ inl (inr (inr (inl two)))
      | inr not_two ↦ elim (cases_eq w 5) [
        | inl five ↦ inl (inr (inr (inr five)))
        | inr not_five ↦ inr (λ is. elim is [
          | inl zero ↦ not_zero zero
          | inr (inl one) ↦ not_one one
          | inr (inr (inl two)) ↦ not_two two
          | inr (inr (inr five)) ↦ not_five five
        ])
      ]
    ]
  ]
]

good_or_bad : (key : ℕ) → IsGoodKey key ⊎ IsBadKey key
good_or_bad key = elim (cases_lt 0 (key / 8)) [
  | inl least ↦ elim (cases_lt (key / 8) (2 ^ 29)) [
    | inl most ↦ elim (wire_or_not (key % 8)) [
      | inl kind ↦ inl (record { least = omega (arith, least); most = most; kind = kind })
      | inr none ↦ inr (inr (inr none))
    ]
    | inr large ↦ inr (inr (inl large))
  ]
  | inr none ↦ inr (inl (omega (arith, none)))
]

-- a field stands in front, or there is a fault that says why none does
abbrev SomeField : ℕ → List ℕ → Type 0
SomeField place bytes = HasField place bytes ⊎ ((fault : WireFault) × NoField place bytes fault)

behind_key : (place : ℕ) (bytes : List ℕ) (h : HasVarint bytes)
    → IsGoodKey h.number → HasPayload (h.number % 8) h.rest → HasField place bytes
behind_key place bytes h good p =
    let key : h.number / 8 * 8 + wire p.payload ≡ h.number = let kind = p.kind in omega (arith, kind) in
    record {
      item = record { number = h.number / 8; place = place; payload = p.payload; text = h.front ++ p.text };
      rest = p.rest;
      parts = h.parts ∙ (ap (λ (t : List ℕ). h.front ++ t) p.parts ∙ sym (append_assoc h.front p.text p.rest));
      is = record {
        key = h.front;
        rest = p.text;
        parts = refl;
        keyed = subst (IsVarint h.front) (sym key) h.is;
        least = good.least;
        most = good.most;
        holds = p.holds;
        at_place = refl;
      };
    }

lacks : (bytes : List ℕ) (h : HasVarint bytes) (why : BitFault)
    → IsGoodKey h.number → NoPayload (h.number % 8) h.rest why → LacksPayload bytes why
lacks bytes h why good none = record {
  key = h.front;
  rest = h.rest;
  number = h.number;
  parts = h.parts;
  keyed = h.is;
  good = good;
  missing = none;
}

after_key : (place : ℕ) (bytes : List ℕ) (h : HasVarint bytes)
    → AllBytes h.rest → IsGoodKey h.number → SomeField place bytes
after_key place bytes h are good = elim (some_payload (h.number % 8) h.rest are good.kind) [
  | inl p ↦ inl (behind_key place bytes h good p)
  | inr (bits.Short, none) ↦ inr (Short place, (refl, inr (lacks bytes h bits.Short good none)))
  | inr (bits.TooLong, none) ↦ inr (BadVarint place, (refl, inr (lacks bytes h bits.TooLong good none)))
  | inr (bits.OutOfMemory, none) ↦ absurd none
]

pub some_field : (place : ℕ) (bytes : List ℕ)
    → AllBytes bytes → HasField place bytes ⊎ ((fault : WireFault) × NoField place bytes fault)
some_field place bytes are = elim (some_varint bytes are) [
  | inl h ↦ elim (good_or_bad h.number) [
    | inl good ↦ after_key place bytes h (bytes_behind h.front h.rest (subst AllBytes h.parts are)) good
    | inr bad ↦ inr (BadWireType place, (refl, record { key = h.front; rest = h.rest; number = h.number; parts = h.parts; keyed = h.is; bad = bad }))
  ]
  | inr (bits.Short, none) ↦ inr (Short place, (refl, inl none))
  | inr (bits.TooLong, none) ↦ inr (BadVarint place, (refl, inl none))
  | inr (bits.OutOfMemory, none) ↦ absurd none
]

payload_bytes : (payload : Payload) (text : List ℕ) → IsPayload payload text → AllBytes text → HoldsBytes payload
payload_bytes (varint n) text is are = tt
payload_bytes (eight b) text is are = subst AllBytes is.1 are
payload_bytes (four b) text is are = subst AllBytes is.1 are
payload_bytes (sized b) text is are = bytes_behind is.size b (subst AllBytes is.parts are)

-- a field that is spelled by bytes holds bytes
pub field_bytes : (place : ℕ) (item : Item) → IsField place item → AllBytes item.text → HoldsBytes item.payload
field_bytes place item is are = payload_bytes item.payload is.rest is.holds (bytes_behind is.key is.rest (subst AllBytes is.parts are))

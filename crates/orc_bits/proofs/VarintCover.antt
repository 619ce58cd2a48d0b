-- Where no varint stands in front of bytes, there is a fault.
use Rattle.std.proofs.Common.{◌≡◌, ℕ, zero, suc, ◌+◌, ◌*◌, ◌^◌, ◌<◌, ◌≤◌, List, [], ◌∷◌, ◌++◌, length, get_or, take, drop, refl, sym, arith, inl, inr, ◌⊎◌, subst}
use Rattle.std.proofs.Math.Nat.{pow-suc}
use Rattle.std.proofs.lemmas.Bool.{cases_lt}
use Rattle.std.proofs.lemmas.List.{take-append-drop, take_all, length-take-le}
use Rattle.std.specs.List.{AllByRecursion}
use Rattle.orc_bits.specs.declared.fault.BitFault.{BitFault}
use Rattle.orc_bits.specs.declared.fault.BitFault.TheVariants.{Short, TooLong}
use Rattle.orc_bits.specs.Varint.{varint_value, GoesOn, IsChain, AllBytes, HasVarint, NoVarint}
use Rattle.orc_bits.proofs.VarintLemmas.{ends, tenth_fits}

-- a chain of at most k bytes in front
record HasChain (k : ℕ) (bytes : List ℕ) : Type 0 where
  front : List ℕ
  rest : List ℕ
  parts : bytes ≡ front ++ rest
  chain : IsChain front
  len : length front ≤ k

longer_chain : (b : ℕ) (front : List ℕ) → GoesOn b → IsChain front → IsChain (b ∷ front)
longer_chain b [] goes chain = absurd chain
longer_chain b (c ∷ front) goes chain = (goes, chain)

chain_or_on : (k : ℕ) (bytes : List ℕ) → AllBytes bytes → HasChain k bytes ⊎ AllByRecursion GoesOn (take k bytes)
chain_or_on zero bytes are = inr tt
chain_or_on (suc k) [] are = inr tt
chain_or_on (suc k) (b ∷ bytes) are = elim (cases_lt b 128) [
  | inl less ↦ inl (record { front = b ∷ []; rest = bytes; parts = refl; chain = less; len = omega arith })
  | inr more ↦ elim (chain_or_on k bytes are.1) [
    | inl h ↦
        let same = h.parts in
        let few = h.len in
        inl (record { front = b ∷ h.front; rest = h.rest; parts = cc; chain = longer_chain b h.front (more, are.0) h.chain; len = omega (arith, few) })
    | inr on ↦ inr ((more, are.0), on)
  ]
]

value_below : (bytes : List ℕ) (k : ℕ) → length bytes ≤ k → varint_value bytes < 128 ^ k
value_below [] zero le = omega arith
value_below [] (suc k) le = let h = value_below [] k (omega arith) in rw pow-suc (omega (arith, h))
value_below (b ∷ bytes) zero le = absurd (omega (arith, le))
value_below (b ∷ bytes) (suc k) le = let h = value_below bytes k (omega (arith, le)) in rw pow-suc (omega (arith, h))

value_joined : (front rest : List ℕ) (k : ℕ) → length front ≡ k → varint_value (front ++ rest) ≡ varint_value front + 128 ^ k * varint_value rest
value_joined [] rest zero e = omega arith
value_joined [] rest (suc k) e = absurd (omega (arith, e))
value_joined (b ∷ front) rest zero e = absurd (omega (arith, e))
value_joined (b ∷ front) rest (suc k) e = let h = value_joined front rest k (omega (arith, e)) in rw pow-suc (omega (arith, h))

-- nine bytes at most have 63 bits
short_chain : (bytes : List ℕ) → HasChain 9 bytes → HasVarint bytes
short_chain bytes h =
    let few = h.len in
    let below = value_below h.front 9 h.len in
    record {
      front = h.front;
      rest = h.rest;
      number = varint_value h.front;
      parts = h.parts;
      is = record { chain = h.chain; len = omega (arith, few); value = refl; fits = omega (arith, below) };
    }

-- a tenth byte of one bit ends the varint
tenth_ends : (bytes : List ℕ) → 9 < length bytes → get_or bytes 9 0 ≤ 1 → AllByRecursion GoesOn (take 9 bytes) → HasVarint bytes
tenth_ends bytes long small on =
    let b = get_or bytes 9 0 in
    let v = varint_value (take 9 bytes) in
    let nine = length-take-le 9 bytes (omega (arith, long)) in
    let below = value_below (take 9 bytes) 9 (omega (arith, nine)) in
    let fits = tenth_fits v (128 ^ 9) b 9 below refl refl small in
    record {
      front = take 10 bytes;
      rest = drop 10 bytes;
      number = v + b * 128 ^ 9;
      parts = sym (take-append-drop 10 bytes);
      is = ends bytes 9 b v (128 ^ 9) long refl (omega arith) (omega (arith, small)) fits on (λ rest. value_joined (take 9 bytes) rest 9 nine);
    }

pub some_varint : (bytes : List ℕ) → AllBytes bytes → HasVarint bytes ⊎ ((fault : BitFault) × NoVarint bytes fault)
some_varint bytes are = elim (chain_or_on 9 bytes are) [
  | inl chain ↦ inl (short_chain bytes chain)
  | inr on ↦ elim (cases_lt 9 (length bytes)) [
    | inl long ↦ elim (cases_lt 1 (get_or bytes 9 0)) [
      | inl large ↦ inr (TooLong, (on, long, large))
      | inr small ↦ inl (tenth_ends bytes long small on)
    ]
    | inr few ↦ inr (Short, (omega (arith, few), subst (AllByRecursion GoesOn) (take_all 9 bytes few) on))
  ]
]

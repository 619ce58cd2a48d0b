-- Laws of deltas (ORC specification, "Integer Run Length Encoding, version 2", "Delta").
-- None begins another; where a fault of theirs applies there is none, nor another fault of theirs.
use Rattle.std.proofs.Common.{List, ℕ, ℤ, ◌≡◌, ◌++◌, sym, append_assoc, ◌∙◌, refl, ◌⊎◌, inl, [], inr, arith, subst, ◌∷◌, ap, ◌<◌, length, ◌-◌, suc, ◌%◌, ◌*◌, ◌+◌}
use Rattle.orc_bits.proofs.PackedLaws.{one_packed}
use Rattle.orc_bits.proofs.VarintLaws.{one_chain, one_number, same_zig, no_varint, one_fault}
use Rattle.orc_bits.specs.Packed.{IsPacked, packed_len}
use Rattle.orc_bits.specs.Varint.{NoVarint}
use Rattle.orc_bits.specs.Width.{width_at}
use Rattle.orc_bits.specs.Zigzag.{zig}
use Rattle.orc_rle.specs.declared.fault.RunFault.{RunFault}
use Rattle.orc_rle.specs.declared.sign.Sign.{Sign}
use Rattle.orc_rle.specs.Delta.{IsStart, AreEven, AreSized, IsDelta, NoStart, NoDelta, MissesOne, MissesNext}
use Rattle.orc_rle.specs.laws.FrontLaws.{both, too_short, after_one}
use Rattle.orc_rle.specs.Header.{code_in, count_in}
use Rattle.orc_rle.specs.laws.OneLaws.{Same, parts_of, one_value}
use Rattle.orc_rle.specs.RunOne.{progression}
use Rattle.orc_rle.specs.Values.{Stands, run_fault}

-- two beginnings of deltas, with what follows each
pub record SameStart (a b x y : List ℕ) (m n : ℕ) (s t : ℤ) : Type 0 where
  pub front : a ≡ b
  pub rest : x ≡ y
  pub number : m ≡ n
  pub step : s ≡ t

pub both_starts : (a b x y : List ℕ) (m n : ℕ) (s t : ℤ)
    → IsStart a m s → IsStart b n t → a ++ x ≡ b ++ y → SameStart a b x y m n s t
both_starts a b x y m n s t p q e =
    let e' : p.front ++ (p.middle ++ x) ≡ q.front ++ (q.middle ++ y) =
    sym (append_assoc p.front p.middle x) ∙ (both a b x y (p.front ++ p.middle) (q.front ++ q.middle) p.text_is q.text_is e ∙ append_assoc q.front q.middle y) in
    let c1 = one_chain p.front q.front (p.middle ++ x) (q.middle ++ y) p.first.chain q.first.chain e' in
    let c2 = one_chain p.middle q.middle x y p.second.chain q.second.chain c1.rest in
    record {
      front = p.text_is ∙ ((rw (c1.front, c2.front) refl) ∙ sym q.text_is);
      rest = c2.rest;
      number = one_number p.front q.front m n p.first q.first c1.front;
      step = same_zig s t (one_number p.middle q.middle (zig s) (zig t) p.second q.second c2.front);
    }

one_steps : (code code' count count' : ℕ) (first first' step step' : ℤ) (a b x y : List ℕ) (v w : List ℤ)
    → code ≡ code'
    → count ≡ count'
    → first ≡ first'
    → step ≡ step'
    → AreEven code count first step a v ⊎ AreSized code count first step a v
    → AreEven code' count' first' step' b w ⊎ AreSized code' count' first' step' b w
    → a ++ x ≡ b ++ y
    → Same a b x y v w
one_steps code code' count count' first first' step step' a b x y v w ec en ef es (inl p) (inl q) e = record {
  front = p.text_is ∙ sym q.text_is;
  rest = both a b x y [] [] p.text_is q.text_is e;
  values = p.values_are ∙ ((rw (en, ef, es) refl) ∙ sym q.values_are);
}
one_steps code code' count count' first first' step step' a b x y v w ec en ef es (inl p) (inr q) e = absurd (omega (arith, ec, p.code_is, q.code_is))
one_steps code code' count count' first first' step step' a b x y v w ec en ef es (inr p) (inl q) e = absurd (omega (arith, ec, p.code_is, q.code_is))
one_steps code code' count count' first first' step step' a b x y v w ec en ef es (inr p) (inr q) e =
    let packed = subst (λ (k : ℕ). IsPacked b (width_at k) q.sizes) (sym ec) q.packed in
    let s = one_packed (width_at code) a b x y p.sizes q.sizes (omega (arith, p.len, q.len, en)) p.packed packed e in
    record { front = s.front; rest = s.rest; values = p.values_are ∙ ((rw (ef, es, s.values) refl) ∙ sym q.values_are) }

pub both_delta : (sign : Sign) (a b x y : List ℕ) (v w : List ℤ)
    → IsDelta sign a v → IsDelta sign b w → a ++ x ≡ b ++ y → Same a b x y v w
both_delta sign a b x y v w p q e =
    let h = parts_of p.head q.head (p.low ∷ ((p.start ++ p.text) ++ x)) (q.low ∷ ((q.start ++ q.text) ++ y))
    (both a b x y (p.head ∷ p.low ∷ (p.start ++ p.text)) (q.head ∷ q.low ∷ (q.start ++ q.text)) p.bytes_are q.bytes_are e) in
    let g = parts_of p.low q.low ((p.start ++ p.text) ++ x) ((q.start ++ q.text) ++ y) h.1 in
    let head = h.0 in
    let low = g.0 in
    let e' : p.start ++ (p.text ++ x) ≡ q.start ++ (q.text ++ y) = sym (append_assoc p.start p.text x) ∙ (g.1 ∙ append_assoc q.start q.text y) in
    let s = both_starts p.start q.start (p.text ++ x) (q.text ++ y) p.number q.number p.step q.step p.started q.started e' in
    let first = one_value sign p.first q.first q.number (subst (λ (n : ℕ). Stands sign p.first n) s.number p.stands) q.stands in
    let t = one_steps (code_in p.head) (code_in q.head) (count_in p.head p.low) (count_in q.head q.low) p.first q.first p.step q.step p.text q.text x y v w
    (ap code_in head) (rw (head, low) refl) first s.step p.steps q.steps s.rest in
    record {
      front = p.bytes_are ∙ ((rw (head, low, s.front, t.front) refl) ∙ sym q.bytes_are);
      rest = t.rest;
      values = t.values;
    }

-- where a varint is missing, no delta begins
pub start_none : (rest start more : List ℕ) (number : ℕ) (step : ℤ) (fault : RunFault)
    → NoStart rest fault → IsStart start number step → rest ≡ start ++ more → ⊥
start_none rest start more number step fault (inl n) p e =
    let e' : rest ≡ p.front ++ (p.middle ++ more) = e ∙ (ap (λ (k : List ℕ). k ++ more) p.text_is ∙ append_assoc p.front p.middle more) in
    no_varint p.front (p.middle ++ more) number n.0 (subst (λ (k : List ℕ). NoVarint k n.0) e' n.1) p.first
start_none rest start more number step fault (inr n) p e =
    let e' : rest ≡ p.front ++ (p.middle ++ more) = e ∙ (ap (λ (k : List ℕ). k ++ more) p.text_is ∙ append_assoc p.front p.middle more) in
    let c = one_chain n.front p.front n.more (p.middle ++ more) n.first.chain p.first.chain (sym n.parts ∙ e') in
    let m = n.missing in
    no_varint p.middle more (zig step) m.0 (subst (λ (k : List ℕ). NoVarint k m.0) c.rest m.1) p.second

sizes_none : (code count : ℕ) (first step : ℤ) (text rest x : List ℕ) (v : List ℤ)
    → AreEven code count first step text v ⊎ AreSized code count first step text v → 0 < code
    → length rest < packed_len (width_at code) (count - 2) → rest ≡ text ++ x → ⊥
sizes_none code count first step text rest x v (inl p) c lt e = omega (arith, p.code_is, c)
sizes_none code count first step text rest x v (inr p) c lt e =
    let n : count - 2 ≡ length p.sizes = omega (arith, p.len) in
    too_short (packed_len (width_at code) (count - 2)) rest text x (rw n p.packed.len) e lt

bad_none : (code count : ℕ) (first step : ℤ) (text : List ℕ) (v : List ℤ)
    → AreEven code count first step text v ⊎ AreSized code count first step text v → 0 < code → count ≡ 1 → ⊥
bad_none code count first step text v (inl p) c one = omega (arith, p.code_is, c)
bad_none code count first step text v (inr p) c one = omega (arith, p.len, one)

delta_none_at : (head low : ℕ) (rest : List ℕ) (sign : Sign) (start text x : List ℕ)
    (number : ℕ) (first step : ℤ) (v : List ℤ) (fault : RunFault)
    → NoDelta head (low ∷ rest) fault
    → IsStart start number step
    → AreEven (code_in head) (count_in head low) first step text v
    ⊎ AreSized (code_in head) (count_in head low) first step text v
    → rest ≡ start ++ (text ++ x) → ⊥
delta_none_at head low rest sign start text x number first step v fault (inl n) p q e =
    bad_none (code_in head) (count_in head low) first step text v q n.0.0 n.0.1
delta_none_at head low rest sign start text x number first step v fault (inr (good, inl n)) p q e = start_none rest start (text ++ x) number step fault n p e
delta_none_at head low rest sign start text x number first step v fault (inr (good, inr n)) p q e =
    let s = both_starts n.start start n.text (text ++ x) n.number number n.step step n.started p (sym n.parts ∙ e) in
    sizes_none (code_in head) (count_in head low) first step text n.text x v q n.code_is n.few s.rest

pub delta_none : (sign : Sign) (head : ℕ) (rest a x : List ℕ) (v : List ℤ) (fault : RunFault)
    → NoDelta head rest fault → IsDelta sign a v → head ∷ rest ≡ a ++ x → ⊥
delta_none sign head [] a x v fault n p e = let h = (after_one head p.head [] _ a x p.bytes_are e).1 in cc
delta_none sign head (low ∷ rest) a x v fault n p e =
    let h = after_one head p.head (low ∷ rest) (p.low ∷ (p.start ++ p.text)) a x p.bytes_are e in
    let g = parts_of low p.low rest ((p.start ++ p.text) ++ x) h.1 in
    let n1 = subst (λ (k : ℕ). NoDelta k (low ∷ rest) fault) h.0 n in
    let n2 = subst (λ (k : ℕ). NoDelta p.head (k ∷ rest) fault) g.0 n1 in
    delta_none_at p.head p.low rest sign p.start p.text x p.number p.first p.step v fault n2 p.started p.steps (g.1 ∙ append_assoc p.start p.text x)

one_missing : (rest : List ℕ) (e f : RunFault) → MissesOne rest e → MissesOne rest f → e ≡ f
one_missing rest e f a b = a.2 ∙ (ap run_fault (one_fault rest a.0 b.0 a.1 b.1) ∙ sym b.2)

one_or_next : (rest : List ℕ) (e f : RunFault) → MissesOne rest e → MissesNext rest f → ⊥
one_or_next rest e f a b = no_varint b.front b.more b.number a.0 (subst (λ (k : List ℕ). NoVarint k a.0) b.parts a.1) b.first

one_start_fault : (rest : List ℕ) (e f : RunFault) → NoStart rest e → NoStart rest f → e ≡ f
one_start_fault rest e f (inl a) (inl b) = one_missing rest e f a b
one_start_fault rest e f (inl a) (inr b) = absurd (one_or_next rest e f a b)
one_start_fault rest e f (inr a) (inl b) = absurd (one_or_next rest f e b a)
one_start_fault rest e f (inr a) (inr b) =
    let c = one_chain a.front b.front a.more b.more a.first.chain b.first.chain (sym a.parts ∙ b.parts) in
    one_missing b.more e f (subst (λ (k : List ℕ). MissesOne k e) c.rest a.missing) b.missing

pub one_delta_fault : (head : ℕ) (rest : List ℕ) (e f : RunFault) → NoDelta head rest e → NoDelta head rest f → e ≡ f
one_delta_fault head [] e f p q = p ∙ sym q
one_delta_fault head (low ∷ rest) e f (inl p) (inl q) = p.1 ∙ sym q.1
one_delta_fault head (low ∷ rest) e f (inl p) (inr q) = absurd (q.0 p.0)
one_delta_fault head (low ∷ rest) e f (inr p) (inl q) = absurd (p.0 q.0)
one_delta_fault head (low ∷ rest) e f (inr (a, inl p)) (inr (b, inl q)) = one_start_fault rest e f p q
one_delta_fault head (low ∷ rest) e f (inr (a, inl p)) (inr (b, inr q)) = absurd (start_none rest q.start q.text q.number q.step e p q.started q.parts)
one_delta_fault head (low ∷ rest) e f (inr (a, inr p)) (inr (b, inl q)) = absurd (start_none rest p.start p.text p.number p.step f q p.started p.parts)
one_delta_fault head (low ∷ rest) e f (inr (a, inr p)) (inr (b, inr q)) = p.fault_is ∙ sym q.fault_is

pub delta_some : (sign : Sign) (a : List ℕ) → IsDelta sign a [] → ⊥
delta_some sign a p =
    elim p.steps [
      | inl even ↦
          let count : count_in p.head p.low ≡ suc (p.head % 2 * 256 + p.low) = omega arith in
          let values = even.values_are ∙ ap (λ (n : ℕ). progression p.first p.step n) count in
          cc
      | inr sized ↦ let values = sized.values_are in cc
    ]

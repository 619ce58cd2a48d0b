-- No varint begins another, and where there is a fault no varint stands.
use Rattle.std.proofs.Common.{◌≡◌, ℕ, zero, suc, ◌*◌, ◌%◌, ◌^◌, ◌<◌, ◌≤◌, List, [], ◌∷◌, ◌++◌, length, get_or, take, drop, refl, sym, ap, subst, ◌∙◌, arith, inl, inr, ℤ, pos, negsuc, Result, Ok, Err}
use Rattle.std.proofs.Math.Nat.{pow-suc}
use Rattle.std.proofs.lemmas.Bool.{cases_lt}
use Rattle.std.specs.List.{AllByRecursion}
use Rattle.orc_bits.specs.declared.fault.BitFault.{BitFault}
use Rattle.orc_bits.specs.declared.fault.BitFault.TheVariants.{Short, TooLong, OutOfMemory}
use Rattle.std.proofs.lemmas.List.{length-take, take-append-drop}
use Rattle.orc_bits.specs.Varint.{varint_value, GoesOn, IsChain, IsVarint, IsShortest, NoVarint, varint_text}
use Rattle.orc_bits.proofs.VarintLemmas.{varint_text-is}
use Rattle.orc_bits.specs.Zigzag.{zig}

pub record SameFront (a b x y : List ℕ) : Type 0 where
  pub front : a ≡ b
  pub rest : x ≡ y

pub one_chain : (a b x y : List ℕ) → IsChain a → IsChain b → a ++ x ≡ b ++ y → SameFront a b x y
one_chain [] b x y p q e = absurd p
one_chain (c ∷ a) [] x y p q e = absurd q
one_chain (c ∷ []) (d ∷ []) x y p q e = record { front = let h : c ≡ d = cc in ap (λ (k : ℕ). k ∷ []) h; rest = cc }
one_chain (c ∷ []) (d ∷ f ∷ b) x y p q e = let h : c ≡ d = cc in absurd (omega (arith, h, p, q.0.0))
one_chain (c ∷ g ∷ a) (d ∷ []) x y p q e = let h : c ≡ d = cc in absurd (omega (arith, h, q, p.0.0))
one_chain (c ∷ g ∷ a) (d ∷ f ∷ b) x y p q e =
    let h : c ≡ d = cc in
    let r = one_chain (g ∷ a) (f ∷ b) x y p.1 q.1 cc in
    let front = r.front in
    record { front = cc; rest = r.rest }

pub one_number : (a b : List ℕ) (m n : ℕ) → IsVarint a m → IsVarint b n → a ≡ b → m ≡ n
one_number a b m n p q e = p.value ∙ ap varint_value e ∙ sym q.value

pub value_at : (i : ℕ) (bs : List ℕ) → 128 ^ i * (get_or bs i 0 % 128) ≤ varint_value bs
value_at zero [] = omega arith
value_at (suc i) [] = let z : 0 % 128 ≡ 0 = refl in rw z (omega arith)
value_at zero (b ∷ bs) = omega arith
value_at (suc i) (b ∷ bs) =
    let h = value_at i bs in
    rw pow-suc (omega (arith, h))

no_end : (a x : List ℕ) → AllByRecursion GoesOn (a ++ x) → IsChain a → ⊥
no_end [] x all p = p
no_end (b ∷ []) x all p = omega (arith, all.0.0, p)
no_end (b ∷ c ∷ bs) x all p = no_end (c ∷ bs) x all.1 p.1

-- a chain within the first k bytes
no_end_within : (k : ℕ) (a x : List ℕ) → length a ≤ k → AllByRecursion GoesOn (take k (a ++ x)) → IsChain a → ⊥
no_end_within k [] x le all p = p
no_end_within zero (b ∷ a) x le all p = absurd (omega (arith, le))
no_end_within (suc k) (b ∷ []) x le all p = omega (arith, all.0.0, p)
no_end_within (suc k) (b ∷ c ∷ bs) x le all p = no_end_within k (c ∷ bs) x (omega (arith, le)) all.1 p.1

last_at : (a x : List ℕ) (k : ℕ) → IsChain a → length a ≡ suc k → get_or (a ++ x) k 0 ≡ get_or a k 0
last_at [] x k p e = absurd p
last_at (b ∷ a) x zero p e = refl
last_at (b ∷ []) x (suc k) p e = absurd (omega (arith, e))
last_at (b ∷ c ∷ a) x (suc k) p e = last_at (c ∷ a) x k p.1 (omega (arith, e))

last_small : (a : List ℕ) (k : ℕ) → IsChain a → length a ≡ suc k → get_or a k 0 < 128
last_small [] k p e = absurd p
last_small (b ∷ []) zero p e = p
last_small (b ∷ []) (suc k) p e = absurd (omega (arith, e))
last_small (b ∷ c ∷ a) zero p e = absurd (omega (arith, e))
last_small (b ∷ c ∷ a) (suc k) p e = last_small (c ∷ a) k p.1 (omega (arith, e))

pub no_varint : (a x : List ℕ) (n : ℕ) (fault : BitFault) → NoVarint (a ++ x) fault → IsVarint a n → ⊥
no_varint a x n Short none is = no_end a x none.1 is.chain
no_varint a x n TooLong none is =
    elim (cases_lt (length a) 10) [
      | inl lt ↦ no_end_within 9 a x (omega arith) none.0 is.chain
      | inr ge ↦
          let ten : length a ≡ suc 9 = omega (arith, is.len) in
          let at = last_at a x 9 is.chain ten in
          let small = last_small a 9 is.chain ten in
          let big = value_at 9 a in
          omega (arith, at, small, big, is.fits, is.value, none.2)
    ]
no_varint a x n OutOfMemory none is = none

pub same_zig : (v w : ℤ) → zig v ≡ zig w → v ≡ w
same_zig (pos a) (pos b) e = ap pos (omega arith)
same_zig (pos a) (negsuc b) e = absurd (omega arith)
same_zig (negsuc a) (pos b) e = absurd (omega arith)
same_zig (negsuc a) (negsuc b) e = ap negsuc (omega arith)

one_value : (a b : List ℕ) → IsChain a → IsChain b → length a ≡ length b → varint_value a ≡ varint_value b → a ≡ b
one_value [] b p q e v = absurd p
one_value (c ∷ a) [] p q e v = absurd q
one_value (c ∷ []) (d ∷ []) p q e v = let same : c ≡ d = omega arith in ap (λ (k : ℕ). k ∷ []) same
one_value (c ∷ []) (d ∷ f ∷ b) p q e v = absurd (omega (arith, e))
one_value (c ∷ g ∷ a) (d ∷ []) p q e v = absurd (omega (arith, e))
one_value (c ∷ g ∷ a) (d ∷ f ∷ b) p q e v =
    let same : c ≡ d = omega (arith, v, p.0.0, p.0.1, q.0.0, q.0.1) in
    let high : varint_value (g ∷ a) ≡ varint_value (f ∷ b) = omega (arith, v) in
    let rest = one_value (g ∷ a) (f ∷ b) p.1 q.1 (omega (arith, e)) high in
    cc (same, rest)

pub one_shortest : (a : List ℕ) (n : ℕ) → IsShortest a n → a ≡ varint_text n
one_shortest a n is =
    let text = varint_text-is n is.varint.fits in
    let len : length a ≡ length (varint_text n) = omega (arith, is.shortest (varint_text n) text.varint, text.shortest a is.varint) in
    one_value a (varint_text n) is.varint.chain text.varint.chain len (sym is.varint.value ∙ text.varint.value)

pub one_varint : (a b x y : List ℕ) (m n : ℕ) → IsVarint a m → IsVarint b n → a ++ x ≡ b ++ y → (a ≡ b) × (m ≡ n)
one_varint a b x y m n p q e =
    let same = one_chain a b x y p.chain q.chain e in
    (same.front, one_number a b m n p q same.front)

pub one_fault : (bytes : List ℕ) (e f : BitFault) → NoVarint bytes e → NoVarint bytes f → e ≡ f
one_fault bytes Short Short p q = refl
one_fault bytes Short TooLong p q = absurd (omega (arith, p.0, q.1))
one_fault bytes TooLong Short p q = absurd (omega (arith, p.1, q.0))
one_fault bytes TooLong TooLong p q = refl
one_fault bytes OutOfMemory f p q = absurd p
one_fault bytes Short OutOfMemory p q = absurd q
one_fault bytes TooLong OutOfMemory p q = absurd q

-- what was read in front is what stands there
pub front_is : (bytes front rest : List ℕ) (k m n : ℕ) → k ≤ length bytes → IsVarint (take k bytes) m → IsVarint front n → bytes ≡ front ++ rest
    → (m ≡ n) × (k ≡ length front)
front_is bytes front rest k m n le is other e =
    let same = one_varint (take k bytes) front (drop k bytes) rest m n is other (take-append-drop k bytes ∙ e) in
    (same.1, let len = length-take k bytes in omega (arith, le, len, ap (λ (t : List ℕ). length t) same.0))

-- the two answers of a reader
abbrev pub Answer : Type 0
Answer = Result (ℕ × ℕ) BitFault

abbrev pub found_of : ℕ → ℕ → Answer
found_of m k = Ok (m, k)

abbrev pub fault_of : BitFault → Answer
fault_of fault = Err fault

pub found_only : (bytes : List ℕ) (k m : ℕ) → k ≤ length bytes → IsVarint (take k bytes) m
    → (front rest : List ℕ) (n : ℕ) → IsVarint front n → bytes ≡ front ++ rest → found_of m k ≡ found_of n (length front)
found_only bytes k m le is front rest n other e =
    let same = front_is bytes front rest k m n le is other e in
    let number = same.0 in
    let len = same.1 in
    cc

pub fault_only : (bytes : List ℕ) (fault : BitFault) → NoVarint bytes fault
    → (front rest : List ℕ) (n : ℕ) → IsVarint front n → bytes ≡ front ++ rest → fault_of fault ≡ found_of n (length front)
fault_only bytes fault none front rest n is e =
    absurd (no_varint front rest n fault (subst (λ (t : List ℕ). NoVarint t fault) e none) is)

pub found_refused : (bytes : List ℕ) (k m : ℕ) → IsVarint (take k bytes) m → (fault : BitFault) → NoVarint bytes fault → found_of m k ≡ fault_of fault
found_refused bytes k m is fault none =
    absurd (no_varint (take k bytes) (drop k bytes) m fault (subst (λ (t : List ℕ). NoVarint t fault) (sym (take-append-drop k bytes)) none) is)

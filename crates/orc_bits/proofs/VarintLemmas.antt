-- Varints: their values, and that no varint begins another.
use Rattle.std.proofs.Common.{◌≡◌, ℕ, ◌+◌, ◌*◌, ◌/◌, ◌%◌, ◌^◌, ◌<◌, ◌≤◌, List, [], ◌∷◌, ◌++◌, length, get_or, take, refl, ◌∙◌, sym, ap, arith, inl, inr, append_assoc, add-one, zero, suc, nat_lt, true, false}
use Rattle.std.proofs.Math.Nat.{pow-le-pow_right, pow-suc, mul-le-mul_left}
use Rattle.std.proofs.lemmas.List.{take_more, length-take}
use Rattle.std.proofs.lemmas.Bool.{cases_lt}
use Rattle.std.proofs.lemmas.Bool.Decides.{nat_tests}
use Rattle.std.specs.List.{AllByRecursion}
use Rattle.orc_bits.specs.Varint.{varint_value, GoesOn, IsChain, IsVarint, IsShortest, groups, varint_text}

-- each number has one text
abbrev pub IsText : List ℕ → ℕ → Type 0
IsText [] n = ⊥
IsText (b ∷ []) n = (b < 128) × (n ≡ b)
IsText (b ∷ c ∷ bs) n = GoesOn b × (high : ℕ) × (0 < high) × (n + 128 ≡ b + 128 * high) × IsText (c ∷ bs) high

pub scale_small : (i : ℕ) → i ≤ 8 → 128 ^ i ≤ 2 ^ 56
scale_small i le = let h : 128 ^ i ≤ 128 ^ 8 = pow-le-pow_right (omega arith) le in omega (arith, h)

pub all_push : (xs : List ℕ) (b : ℕ) → AllByRecursion GoesOn xs → GoesOn b → AllByRecursion GoesOn (xs ++ b ∷ [])
all_push [] b h g = (g, tt)
all_push (x ∷ xs) b h g = (h.0, all_push xs b h.1 g)

pub chain_end : (xs : List ℕ) (b : ℕ) → AllByRecursion GoesOn xs → b < 128 → IsChain (xs ++ b ∷ [])
chain_end [] b h lt = lt
chain_end (x ∷ []) b h lt = (h.0, lt)
chain_end (x ∷ y ∷ xs) b h lt = (h.0, chain_end (y ∷ xs) b h.1 lt)

step_value : (v s b m : ℕ) → v + s * (b % 128 + 128 * m) ≡ (v + b % 128 * s) + (s * 128) * m
step_value v s b m = omega arith

-- one more byte of value b
pub so_far_more : (xs : List ℕ) (v s b : ℕ) → ((rest : List ℕ) → varint_value (xs ++ rest) ≡ v + s * varint_value rest)
    → (rest : List ℕ) → varint_value ((xs ++ b ∷ []) ++ rest) ≡ (v + b % 128 * s) + (s * 128) * varint_value rest
so_far_more xs v s b h rest = rw append_assoc (h (b ∷ rest) ∙ step_value v s b (varint_value rest))

-- the last byte
pub last_value : (xs : List ℕ) (v s b : ℕ) → ((rest : List ℕ) → varint_value (xs ++ rest) ≡ v + s * varint_value rest)
    → b < 128 → v + b * s ≡ varint_value (xs ++ b ∷ [])
last_value xs v s b h lt = let e = h (b ∷ []) in let m : b % 128 ≡ b = omega arith in rw e (rw m (omega arith))

pub last_fits : (v s b i : ℕ) → v < s → s ≡ 128 ^ i → i ≤ 8 → b < 128 → v + b * s < 2 ^ 64
last_fits v s b i below is le lt =
    let small = scale_small i le in
    let m : b * s ≤ 127 * s = grind arith in
    omega (arith, small, m)

-- the tenth byte has one bit
pub tenth_fits : (v s b i : ℕ) → v < s → s ≡ 128 ^ i → i ≡ 9 → b ≤ 1 → v + b * s < 2 ^ 64
tenth_fits v s b i below is nine le =
    let scale : s ≡ 128 ^ 9 = is ∙ ap (λ (k : ℕ). 128 ^ k) nine in
    let m : b * s ≤ 1 * s = grind arith in
    omega (arith, m)

pub ends : (bytes : List ℕ) (i b v s : ℕ) → i < length bytes → get_or bytes i 0 ≡ b → i ≤ 9 → b < 128 → v + b * s < 2 ^ 64
    → AllByRecursion GoesOn (take i bytes) → ((rest : List ℕ) → varint_value (take i bytes ++ rest) ≡ v + s * varint_value rest)
    → IsVarint (take (i + 1) bytes) (v + b * s)
ends bytes i b v s lt is few small fits goes so_far =
    let e : take (i + 1) bytes ≡ take i bytes ++ b ∷ [] = rw (take_more bytes i 0 lt, is) refl in
    record {
      chain = rw e (chain_end (take i bytes) b goes small);
      len = omega (arith, length-take (i + 1) bytes);
      value = rw e (last_value (take i bytes) v s b so_far small);
      fits = fits;
    }

-- ---- the text

pub text_value : (bs : List ℕ) (n : ℕ) → IsText bs n → n ≡ varint_value bs
text_value [] n h = absurd h
text_value (b ∷ []) n h = omega (arith, h.0, h.1)
text_value (b ∷ c ∷ bs) n h =
    let v = text_value (c ∷ bs) h.1 h.4 in
    let high : h.1 ≡ varint_value (c ∷ bs) = v in
    rw (← high) (omega (arith, h.0.0, h.0.1, h.3))

pub text_chain : (bs : List ℕ) (n : ℕ) → IsText bs n → IsChain bs
text_chain [] n h = h
text_chain (b ∷ []) n h = h.0
text_chain (b ∷ c ∷ bs) n h = (h.0, text_chain (c ∷ bs) h.1 h.4)

same_high : (n b m h : ℕ) → n + 128 ≡ b + 128 * h → 128 ≤ b → b < 256 → (o : ℕ) → n ≡ o % 128 + 128 * m → h ≡ m
same_high n b m h e le lt o f = omega arith

pub shortest : (bs os : List ℕ) (n : ℕ) → IsText bs n → IsChain os → n ≡ varint_value os → length bs ≤ length os
shortest [] os n h c e = absurd h
shortest (b ∷ bs) [] n h c e = absurd c
shortest (b ∷ []) (o ∷ os) n h c e = omega arith
shortest (b ∷ d ∷ bs) (o ∷ []) n h c e = absurd (omega (arith, h.0.0, h.0.1, h.2, h.3, c, e))
shortest (b ∷ d ∷ bs) (o ∷ p ∷ os) n h c e =
    let same = same_high n b (varint_value (p ∷ os)) h.1 h.3 h.0.0 h.0.1 o e in
    let r = shortest (d ∷ bs) (p ∷ os) h.1 h.4 c.1 same in
    omega (arith, r)

pub text_is_shortest : (bs : List ℕ) (n : ℕ) → IsText bs n → length bs ≤ 10 → n < 2 ^ 64 → IsShortest bs n
text_is_shortest bs n h le lt = record {
  varint = record { chain = text_chain bs n h; len = le; value = text_value bs n h; fits = lt };
  shortest = λ os v. shortest bs os n h v.chain v.value;
}

pub few_bytes : (k r n : ℕ) → 128 ^ k * r ≤ n → 128 ≤ r → n < 2 ^ 64 → k ≤ 8
few_bytes k r n h le lt =
    elim (cases_lt k 9) [
      | inl small ↦ omega arith
      | inr big ↦
          let p : 128 ^ 9 ≤ 128 ^ k = pow-le-pow_right (omega arith) big in
          let q : 128 ^ k * 128 ≤ 128 ^ k * r = mul-le-mul_left (128 ^ k) le in
          absurd (omega (arith, p, q))
    ]

pub grows : (k r n : ℕ) → 128 ^ k * r ≤ n → 128 ^ (k + 1) * (r / 128) ≤ n
grows k r n h =
    let q : 128 ^ k * (128 * (r / 128)) ≤ 128 ^ k * r = mul-le-mul_left (128 ^ k) (omega arith) in
    rw (add-one, pow-suc) (omega (arith, q))

pub text_more : (front : List ℕ) (r n : ℕ) → 128 ≤ r → ((tail : List ℕ) → IsText tail r → IsText (front ++ tail) n)
    → (tail : List ℕ) → IsText tail (r / 128) → IsText ((front ++ (r % 128 + 128) ∷ []) ++ tail) n
text_more front r n le h [] t = absurd t
text_more front r n le h (c ∷ bs) t =
    rw append_assoc (h ((r % 128 + 128) ∷ c ∷ bs) ((omega arith, omega arith), r / 128, omega arith, omega arith, t))

-- ---- the text as a function

ltb_yes : (m n : ℕ) → m < n → nat_lt m n ≡ true
ltb_yes m n h = grind (arith, nat_tests)

ltb_no : (m n : ℕ) → n ≤ m → nat_lt m n ≡ false
ltb_no m n h = grind (arith, nat_tests)

pub text_groups : (k : ℕ) (bs : List ℕ) (n : ℕ) → n < 128 ^ (suc k) → IsText bs n → bs ≡ groups k n
text_groups k [] n lt h = absurd h
text_groups zero (b ∷ []) n lt h = ap (λ (t : ℕ). t ∷ []) (sym h.1)
text_groups (suc k) (b ∷ []) n lt h = rw (ltb_yes n 128 (omega (arith, h.0, h.1))) (ap (λ (t : ℕ). t ∷ []) (sym h.1))
text_groups zero (b ∷ c ∷ bs) n lt h = absurd (omega (arith, lt, h.0.0, h.2, h.3))
text_groups (suc k) (b ∷ c ∷ bs) n lt h =
    let big : 128 ≤ n = omega (arith, h.0.0, h.0.1, h.2, h.3) in
    let low : b ≡ n % 128 + 128 = omega (arith, h.0.0, h.0.1, h.3) in
    let high : h.1 ≡ n / 128 = omega (arith, h.0.0, h.0.1, h.3) in
    let small : h.1 < 128 ^ (suc k) = (let p = pow-suc 128 (suc k) in omega (arith, p, lt, high)) in
    let rest = text_groups k (c ∷ bs) h.1 small h.4 in
    rw (ltb_no n 128 big) (cc (low, rest, high))

text_cons : (b n high : ℕ) (rest : List ℕ) → GoesOn b → 0 < high → n + 128 ≡ b + 128 * high → IsText rest high → IsText (b ∷ rest) n
text_cons b n high [] g some e h = absurd h
text_cons b n high (c ∷ bs) g some e h = (g, high, some, e, h)

pub groups_text : (k : ℕ) (n : ℕ) → n < 128 ^ (suc k) → IsText (groups k n) n
groups_text zero n lt = (omega (arith, lt), refl)
groups_text (suc k) n lt = elim (cases_lt n 128) [
  | inl less ↦ rw (ltb_yes n 128 less) (less, refl)
  | inr more ↦
      let small : n / 128 < 128 ^ (suc k) = (let p = pow-suc 128 (suc k) in omega (arith, p, lt)) in
      rw (ltb_no n 128 more) (text_cons (n % 128 + 128) n (n / 128) (groups k (n / 128)) (omega arith, omega arith) (omega arith) (omega arith) (groups_text k (n / 128) small))
]

pub groups_len : (k n : ℕ) → length (groups k n) ≤ suc k
groups_len zero n = omega arith
groups_len (suc k) n = elim (cases_lt n 128) [
  | inl less ↦ rw (ltb_yes n 128 less) (omega arith)
  | inr more ↦ rw (ltb_no n 128 more) (omega (arith, groups_len k (n / 128)))
]

pub varint_text-is : (n : ℕ) → n < 2 ^ 64 → IsShortest (varint_text n) n
unfolding varint_text
varint_text-is n lt = text_is_shortest (groups 9 n) n (groups_text 9 n (omega arith)) (groups_len 9 n) lt

pub text_is : (bs : List ℕ) (n : ℕ) → n < 2 ^ 64 → IsText bs n → bs ≡ varint_text n
unfolding varint_text
text_is bs n lt h = text_groups 9 bs n (omega arith) h

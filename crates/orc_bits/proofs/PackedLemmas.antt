-- Digits of numbers.
use Rattle.std.proofs.Common.{◌≡◌, ℕ, zero, suc, ◌+◌, ◌-◌, ◌*◌, ◌/◌, ◌%◌, ◌^◌, ◌<◌, ◌≤◌, List, [], ◌∷◌, ◌++◌, length, get_or, replicate, set, take, drop, refl, sym, ap, ◌∙◌, arith, append_assoc, add-suc, add-zero, mul-suc, length-append, length-set}
use Rattle.std.proofs.Math.Nat.{pow-suc, mul-add, mul_assoc, mul_comm, mul_left_comm}
use Rattle.std.proofs.lemmas.List.{drop_more, append-nil, take_all, take_more, take_more_set, take-append-drop, append_cancel_right, length-take-le}
use Rattle.std.proofs.lemmas.Nat.{shr_split, mod_below, pow_pos, pow-add, mul-le, shr_below, one_shl, mul-add-lt, shl_below, and_mask}
use Rattle.std.specs.Int.Bits.{bit_and}
use Rattle.orc_bits.specs.Packed.{bits, digits, packed_len, AllFit, IsPacked, IsPackedText}
use Rattle.std.specs.List.{AllByRecursion}

pub length-bits : (n w : ℕ) → length (bits n w) ≡ w
unfolding bits
length-bits n zero = refl
length-bits n (suc w) = omega (arith, length-bits (n / 2) w, length-append (bits (n / 2) w) ((n % 2) ∷ []))

pub length-digits : (w : ℕ) (vs : List ℕ) → length (digits w vs) ≡ w * length vs
unfolding digits
length-digits w [] = omega arith
length-digits w (v ∷ vs) =
    let m : w * suc (length vs) ≡ w * length vs + w = mul-suc w (length vs) in
    omega (arith, m, length-digits w vs, length-bits v w, length-append (bits v w) (digits w vs))

half_of_sum : (x y k m : ℕ) → m ≡ k * 2 → (x * m + y) / 2 ≡ x * k + y / 2
half_of_sum x y k m e = rw e (omega arith)

same_parity : (x y k m : ℕ) → m ≡ k * 2 → (x * m + y) % 2 ≡ y % 2
same_parity x y k m e = rw e (omega arith)

-- the digits of a number in two parts
pub bits-append : (x y b a : ℕ) → y < 2 ^ a → bits (x * 2 ^ a + y) (b + a) ≡ bits x b ++ bits y a
unfolding bits
bits-append x y b zero h =
    let z : x * 1 + y ≡ x = omega arith in
    rw (z, add-zero, append-nil (bits x b)) refl
bits-append x y b (suc a) h =
    let small : y / 2 < 2 ^ a = omega (arith, pow-suc 2 a) in
    let e : (x * 2 ^ suc a + y) / 2 ≡ x * 2 ^ a + y / 2 = half_of_sum x y (2 ^ a) (2 ^ suc a) (pow-suc 2 a) in
    let p : (x * 2 ^ suc a + y) % 2 ≡ y % 2 = same_parity x y (2 ^ a) (2 ^ suc a) (pow-suc 2 a) in
    rw (add-suc, e, p, bits-append x (y / 2) b a small, append_assoc) refl

-- one more byte is held
pub pull : (bytes : List ℕ) (at held have : ℕ) → at < length bytes → get_or bytes at 0 < 2 ^ 8
    → bits held have ++ digits 8 (drop at bytes) ≡ bits (held * 256 + get_or bytes at 0) (have + 8) ++ digits 8 (drop (at + 1) bytes)
unfolding digits
pull bytes at held have lt small =
    let e = bits-append held (get_or bytes at 0) have 8 small in
    rw (drop_more bytes at 0 lt, e, append_assoc) refl

-- the first digits are taken
pub cut : (held k w : ℕ) → bits held (w + k) ≡ bits (held / 2 ^ k) w ++ bits (held % 2 ^ k) k
cut held k w =
    let e = shr_split held k in
    let m : held % 2 ^ k < 2 ^ k = mod_below held (2 ^ k) (pow_pos k) in
    ap (λ (n : ℕ). bits n (w + k)) (sym e) ∙ bits-append (held / 2 ^ k) (held % 2 ^ k) w k m

-- one more byte keeps what is held below its digits
pub pull_below : (held have b : ℕ) → held < 2 ^ have → b < 256 → held * 256 + b < 2 ^ (have + 8)
pull_below held have b h lt =
    let e : 2 ^ (have + 8) ≡ 2 ^ have * 2 ^ 8 = pow-add 2 have 8 in
    let m : (held + 1) * 256 ≤ 2 ^ have * 256 = mul-le (held + 1) 256 (2 ^ have) 256 (omega arith) (omega arith) in
    rw e (omega (arith, m))

pub top_below : (held have width : ℕ) → held < 2 ^ have → width ≤ have → held / 2 ^ (have - width) < 2 ^ width
top_below held have width h le =
    let e : width + (have - width) ≡ have = omega arith in
    shr_below held width (have - width) (rw e h)

-- a mask keeps the low digits
pub masked : (n k most : ℕ) → k < most → bit_and n (1 * 2 ^ k % 2 ^ most - 1) ≡ n % 2 ^ k
masked n k most lt = rw (one_shl k most lt) (and_mask n k)

pub cut_at : (held have width : ℕ) (rest : List ℕ) → width ≤ have → have - width < 128
    → bits held have ++ rest ≡ bits (held / 2 ^ (have - width)) width ++ (bits (bit_and held (1 * 2 ^ (have - width) % 2 ^ 128 - 1)) (have - width) ++ rest)
cut_at held have width rest le lt =
    let e : width + (have - width) ≡ have = omega arith in
    let p = masked held (have - width) 128 lt in
    rw (p, ← append_assoc, ← cut held (have - width) width, e) refl

pub digits-append : (w : ℕ) (vs ws : List ℕ) → digits w (vs ++ ws) ≡ digits w vs ++ digits w ws
unfolding digits
digits-append w [] ws = refl
digits-append w (v ∷ vs) ws = rw (digits-append w vs ws, append_assoc) refl

pub digits-push : (w : ℕ) (vs : List ℕ) (v : ℕ) → digits w (vs ++ v ∷ []) ≡ digits w vs ++ bits v w
unfolding digits
digits-push w [] v = append-nil (bits v w)
digits-push w (x ∷ vs) v = rw (digits-push w vs v, append_assoc) refl

pub AllFit-push : (w : ℕ) (vs : List ℕ) (v : ℕ) → AllFit w vs → v < 2 ^ w → AllFit w (vs ++ v ∷ [])
AllFit-push w [] v h lt = (lt, tt)
AllFit-push w (x ∷ vs) v h lt = (h.0, AllFit-push w vs v h.1 lt)

pub AllFit-append : (w : ℕ) (vs ws : List ℕ) → AllFit w vs → AllFit w ws → AllFit w (vs ++ ws)
AllFit-append w [] ws h k = k
AllFit-append w (v ∷ vs) ws h k = (h.0, AllFit-append w vs ws h.1 k)

pub AllFit-front : (w : ℕ) (vs ws : List ℕ) → AllFit w (vs ++ ws) → AllFit w vs
AllFit-front w [] ws h = tt
AllFit-front w (v ∷ vs) ws h = (h.0, AllFit-front w vs ws h.1)

pub AllFit-back : (w : ℕ) (vs ws : List ℕ) → AllFit w (vs ++ ws) → AllFit w ws
AllFit-back w [] ws h = h
AllFit-back w (v ∷ vs) ws h = AllFit-back w vs ws h.1

pub AllFit-drop : (w i : ℕ) (vs : List ℕ) → AllFit w vs → AllFit w (drop i vs)
AllFit-drop w zero vs h = h
AllFit-drop w (suc i) [] h = tt
AllFit-drop w (suc i) (v ∷ vs) h = AllFit-drop w i vs h.1

pub AllFit-replicate : (w n v : ℕ) → v < 2 ^ w → AllFit w (replicate n v)
AllFit-replicate w zero v lt = tt
AllFit-replicate w (suc n) v lt = (lt, AllFit-replicate w n v lt)

pub AllFit-bytes : (bytes : List ℕ) → ((i : ℕ) → get_or bytes i 0 < 256) → AllFit 8 bytes
AllFit-bytes [] h = tt
AllFit-bytes (b ∷ bs) h = (h 0, AllFit-bytes bs (λ i. h (suc i)))

pub AllFit-take : (w i : ℕ) (vs : List ℕ) → AllFit w vs → AllFit w (take i vs)
AllFit-take w zero vs h = tt
AllFit-take w (suc i) [] h = tt
AllFit-take w (suc i) (v ∷ vs) h = (h.0, AllFit-take w i vs h.1)

-- there are digits for one more number
pub room : (w n i at have len total : ℕ) → i < n → len ≡ packed_len w n → len ≤ total → 8 * at ≡ w * i + have → w ≤ have + 8 * (total - at)
room w n i at have len total lt e le used =
    let m : w * (i + 1) ≤ w * n = mul-le w (i + 1) w n (omega arith) (omega arith) in
    omega (arith, m)

-- one more number
pub so_far_more : (w i v at held have at' held' have' : ℕ) (out bytes : List ℕ) → i < length out
    → digits w (take i out) ++ (bits held have ++ digits 8 (drop at bytes)) ≡ digits 8 bytes
    → bits held have ++ digits 8 (drop at bytes) ≡ bits v w ++ (bits held' have' ++ digits 8 (drop at' bytes))
    → digits w (take (i + 1) (set out i v)) ++ (bits held' have' ++ digits 8 (drop at' bytes)) ≡ digits 8 bytes
so_far_more w i v at held have at' held' have' out bytes lt h step =
    rw (take_more_set out i v lt, digits-push w (take i out) v, append_assoc, ← step) h

pub fit_more : (w i v : ℕ) (out : List ℕ) → i < length out → AllFit w (take i out) → v < 2 ^ w → AllFit w (take (i + 1) (set out i v))
fit_more w i v out lt h small = rw (take_more_set out i v lt) (AllFit-push w (take i out) v h small)

pub all_read : (w len at held have i : ℕ) (out bytes : List ℕ) → AllFit 8 bytes → length out ≤ i → AllFit w (take i out) → len ≡ packed_len w (length out) → len ≤ length bytes
    → 8 * at ≡ w * i + have → have < 8 → i ≤ length out
    → digits w (take i out) ++ (bits held have ++ digits 8 (drop at bytes)) ≡ digits 8 bytes → IsPacked (take len bytes) w out
all_read w len at held have i out bytes small ge fit e le used few most h =
    let all : take i out ≡ out = take_all i out ge in
    let same : i ≡ length out = omega arith in
    let used' : 8 * at ≡ w * length out + have = rw same at used in
    let here : at ≡ len = omega (arith, used', e) in
    let h1 = rw (all, here) at h in
    let h2 : digits 8 bytes ≡ digits 8 (take len bytes) ++ digits 8 (drop len bytes) = ap (digits 8) (sym (take-append-drop len bytes)) ∙ digits-append 8 (take len bytes) (drop len bytes) in
    let h3 : digits 8 (take len bytes) ++ digits 8 (drop len bytes) ≡ (digits w out ++ bits held have) ++ digits 8 (drop len bytes) = rw append_assoc (sym h2 ∙ sym h1) in
    record {
      small = AllFit-take 8 len bytes small;
      fit = rw all at fit;
      len = length-take-le len bytes le ∙ e;
      spare = bits held have;
      digits_are = append_cancel_right (digits 8 (take len bytes)) (digits w out ++ bits held have) (digits 8 (drop len bytes)) h3;
    }

-- ---- as they are written

pub join_below : (held have number width : ℕ) → held < 2 ^ have → number < 2 ^ width → held * 2 ^ width + number < 2 ^ (have + width)
join_below held have number width p q =
    let m = mul-add-lt held (2 ^ width) number (2 ^ have) p q in
    let e = pow-add 2 have width in
    rw e (omega (arith, m))

-- a whole byte goes out
pub emit : (out : List ℕ) (at rest left : ℕ) (all : List ℕ) → at < length out → 8 ≤ left → left - 8 < 128 → digits 8 (take at out) ++ bits rest left ≡ all
    → digits 8 (take (at + 1) (set out at (rest / 2 ^ (left - 8)))) ++ bits (bit_and rest (1 * 2 ^ (left - 8) % 2 ^ 128 - 1)) (left - 8) ≡ all
emit out at rest left all lt le small h =
    let e : 8 + (left - 8) ≡ left = omega arith in
    let p = masked rest (left - 8) 128 small in
    let c = ap (bits rest) (sym e) ∙ cut rest (left - 8) 8 in
    rw (take_more_set out at (rest / 2 ^ (left - 8)) lt, digits-push 8 (take at out) (rest / 2 ^ (left - 8)), p, append_assoc, ← c) h

pub byte_below : (rest left : ℕ) → rest < 2 ^ left → 8 ≤ left → rest / 2 ^ (left - 8) < 2 ^ 8
byte_below rest left h le = let e : 8 + (left - 8) ≡ left = omega arith in shr_below rest 8 (left - 8) (rw e h)

pub masked_below : (n k most : ℕ) → k < most → bit_and n (1 * 2 ^ k % 2 ^ most - 1) < 2 ^ k
masked_below n k most lt = rw (masked n k most lt) (mod_below n (2 ^ k) (pow_pos k))

pub AllFit-at : (w i : ℕ) (vs : List ℕ) → i < length vs → AllFit w vs → get_or vs i 0 < 2 ^ w
AllFit-at w i [] lt h = absurd (omega (arith, lt))
AllFit-at w zero (v ∷ vs) lt h = h.0
AllFit-at w (suc i) (v ∷ vs) lt h = AllFit-at w i vs (omega (arith, lt)) h.1

-- there are bytes for one more number
pub place : (w n i at have total : ℕ) → i < n → total ≡ packed_len w n → 8 * at + have ≡ w * i → 8 * at + have + w ≤ 8 * total
place w n i at have total lt e used =
    let m : w * (i + 1) ≤ w * n = mul-le w (i + 1) w n (omega arith) (omega arith) in
    omega (arith, m)

pub pack_more : (w i : ℕ) (values front : List ℕ) (all : List ℕ) → i < length values → front ≡ digits w (take i values) → all ≡ front ++ bits (get_or values i 0) w
    → all ≡ digits w (take (i + 1) values)
pack_more w i values front all lt h e = e ∙ (rw (h, take_more values i 0 lt, digits-push w (take i values) (get_or values i 0)) refl)

zeros_push : (ds : List ℕ) → AllByRecursion (λ d. d ≡ 0) ds → AllByRecursion (λ d. d ≡ 0) (ds ++ (0 % 2) ∷ [])
zeros_push [] h = (refl, tt)
zeros_push (d ∷ ds) h = (h.0, zeros_push ds h.1)

pub zero_bits : (k : ℕ) → AllByRecursion (λ d. d ≡ 0) (bits 0 k)
unfolding bits
zero_bits zero = tt
zero_bits (suc k) = zeros_push (bits 0 k) (zero_bits k)

-- all digits are whole bytes
pub packed_even : (w n at held have : ℕ) (values out : List ℕ) → AllFit 8 (take at out) → AllFit w values → length out ≡ packed_len w (length values) → length values ≤ n → n ≤ length values
    → 8 * at + have ≡ w * n → have ≡ 0 → digits 8 (take at out) ++ bits held have ≡ digits w (take n values) → IsPackedText out w values
unfolding bits
packed_even w n at held have values out small fit len ge le used none h =
    let same : n ≡ length values = omega arith in
    let used' : 8 * at + have ≡ w * length values = rw same at used in
    let whole : length out ≤ at = omega (arith, used', len, none) in
    let h1 = rw (take_all at out whole, take_all n values ge, none) at h in
    record {
      packed = record { small = rw (take_all at out whole) at small; fit = fit; len = len; spare = []; digits_are = sym (append-nil (digits 8 out)) ∙ (h1 ∙ sym (append-nil (digits w values))) };
      zero_digits = tt;
    }

-- the last byte has spare digits
pub packed_odd : (w n at held have : ℕ) (values out : List ℕ) → AllFit 8 (take at out) → AllFit w values → length out ≡ packed_len w (length values) → length values ≤ n → n ≤ length values
    → 8 * at + have ≡ w * n → 0 < have → have < 8 → held < 2 ^ have → digits 8 (take at out) ++ bits held have ≡ digits w (take n values) → IsPackedText (set out at (held * 2 ^ (8 - have))) w values
packed_odd w n at held have values out small fit len ge le used some few below h =
    let same : n ≡ length values = omega arith in
    let used' : 8 * at + have ≡ w * length values = rw same at used in
    let last : length out ≡ at + 1 = omega (arith, used', len) in
    let h1 = rw (take_all n values ge) at h in
    let byte = held * 2 ^ (8 - have) in
    let pos8 : 0 < 2 ^ (8 - have) = pow_pos (8 - have) in
    let e8 : have + (8 - have) ≡ 8 = omega arith in
    let z : held * 2 ^ (8 - have) + 0 ≡ held * 2 ^ (8 - have) = omega arith in
    let split : bits byte 8 ≡ bits held have ++ bits 0 (8 - have) = ap (λ (k : ℕ). bits byte k) (sym e8) ∙ (ap (λ (b : ℕ). bits b (have + (8 - have))) (sym z) ∙ bits-append held 0 have (8 - have) pos8) in
    let shl = shl_below held have (8 - have) below in
    let byte_fits : byte < 2 ^ 8 = rw e8 at shl in
    let all : take (at + 1) (set out at byte) ≡ set out at byte = take_all (at + 1) (set out at byte) (omega (arith, length-set out at byte, last)) in
    let more : set out at byte ≡ take at out ++ byte ∷ [] = sym all ∙ take_more_set out at byte (omega arith) in
    record {
      packed = record {
        small = rw more (AllFit-push 8 (take at out) byte small byte_fits);
        fit = fit;
        len = length-set out at byte ∙ len;
        spare = bits 0 (8 - have);
        digits_are = ap (digits 8) more ∙ (digits-push 8 (take at out) byte ∙ (rw (split, ← append_assoc, h1) refl));
      };
      zero_digits = zero_bits (8 - have);
    }

-- ---- how many bytes there are

eights : (w q r : ℕ) → w * (8 * q + r) ≡ 8 * (q * w) + r * w
eights w q r = grind (arith, mul-add w (8 * q) r, mul_assoc w 8 q, mul_comm w q, mul_comm w r, mul_left_comm w 8 q)

-- whole eights of numbers take whole bytes
pub len_by_eights : (w n : ℕ) → n / 8 * w + (n % 8 * w + 7) / 8 ≡ packed_len w n
len_by_eights w n =
    let parts : n ≡ 8 * (n / 8) + n % 8 = omega arith in
    let all : w * n ≡ 8 * (n / 8 * w) + n % 8 * w = ap (λ (k : ℕ). w * k) parts ∙ eights w (n / 8) (n % 8) in
    omega (arith, all)

-- 600 bytes hold as many numbers of 8 digits at most
pub few_bytes : (w n m total : ℕ) → w ≤ 8 → n ≤ 600 → m ≡ n → total ≡ 600 → packed_len w m ≤ total
few_bytes w n m total le few same all = let most : w * m ≤ 8 * 600 = mul-le w m 8 600 le (omega (arith, same, few)) in omega (arith, most, all)

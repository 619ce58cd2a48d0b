-- Laws of headers, numbers and least numbers (ORC specification, "Integer Run Length Encoding, version 2").
use Rattle.std.proofs.Common.{ℕ, ◌≡◌, arith, ◌<◌, ◌≤◌, ◌*◌, ◌+◌, ◌-◌, ◌/◌, ◌%◌, List, ℤ, length, [], refl, ◌∷◌, ◌^◌}
use Rattle.orc_rle.specs.declared.sign.Sign.{Sign}
use Rattle.orc_rle.specs.Direct.{AllStand}
use Rattle.orc_rle.specs.Header.{code_in, count_in}
use Rattle.orc_rle.specs.Least.{IsLeast}
use Rattle.orc_rle.specs.laws.WrittenLaws.{one_number}
use Rattle.orc_bits.specs.Packed.{AllFit}
use Rattle.std.proofs.Math.Nat.{pow-le-pow_right}

pub one_least : (P : ℕ → Type 0) (m n : ℕ) → IsLeast P m → IsLeast P n → m ≡ n
one_least P m n p q = let le = p.least n q.is in let ge = q.least m p.is in omega (arith, le, ge)

-- what a header tells
pub code_of_header : (form code count : ℕ)
    → form < 4 → code < 32 → count ≤ 512 → code_in (64 * form + 2 * code + (count - 1) / 256) ≡ code
code_of_header form code count f c n = omega arith

pub count_of_header : (form code count : ℕ) → form < 4 → code < 32 → 1 ≤ count → count ≤ 512
    → count_in (64 * form + 2 * code + (count - 1) / 256) ((count - 1) % 256) ≡ count
count_of_header form code count f c one n = omega arith

pub length-stand : (sign : Sign) (vs : List ℤ) (ns : List ℕ) → AllStand sign vs ns → length vs ≡ length ns
length-stand sign [] [] h = refl
length-stand sign [] (n ∷ ns) h = absurd h
length-stand sign (v ∷ vs) [] h = absurd h
length-stand sign (v ∷ vs) (n ∷ ns) h = omega (arith, length-stand sign vs ns h.1)

-- values have one list of numbers
pub one_numbers : (sign : Sign) (vs : List ℤ) (ms ns : List ℕ) → AllStand sign vs ms → AllStand sign vs ns → ms ≡ ns
one_numbers sign [] [] [] p q = refl
one_numbers sign [] [] (n ∷ ns) p q = absurd q
one_numbers sign [] (m ∷ ms) ns p q = absurd p
one_numbers sign (v ∷ vs) [] ns p q = absurd p
one_numbers sign (v ∷ vs) (m ∷ ms) [] p q = absurd q
one_numbers sign (v ∷ vs) (m ∷ ms) (n ∷ ns) p q =
    let head = one_number sign v m n p.0 q.0 in
    let tail = one_numbers sign vs ms ns p.1 q.1 in
    cc

-- what fits fits more digits
pub AllFit-wider : (m n : ℕ) (ns : List ℕ) → m ≤ n → AllFit m ns → AllFit n ns
AllFit-wider m n [] le h = tt
AllFit-wider m n (x ∷ ns) le h =
    let two : 0 < 2 = omega arith in
    let pow : 2 ^ m ≤ 2 ^ n = pow-le-pow_right two le in
    (omega (arith, h.0, pow), AllFit-wider m n ns le h.1)

-- How long a run is, by its header.
use Rattle.std.proofs.Common.{List, ℕ, ℤ, [], ◌∷◌, ◌++◌, ◌≡◌, ◌+◌, ◌-◌, ◌<◌, ◌≤◌, ◌+ℤ◌, suc, inl, inr, length, take, drop, refl, sym, ap, subst, ◌∙◌, arith, append_assoc, length-append, length-drop, pos, get_or, Result, Ok}
use Rattle.std.proofs.Math.Seq.{drop-append_seam}
use Rattle.std.proofs.lemmas.List.{length-take-le, take-append-drop, drop-drop, drop_more, take_all, nil_from_length}
use Rattle.orc_bits.specs.Varint.{IsVarint}
use Rattle.std.specs.Int.{w8, cast_unsigned}
use Rattle.orc_bits.specs.declared.fault.BitFault.{BitFault}
use Rattle.orc_bits.specs.Packed.{packed_len}
use Rattle.orc_bits.specs.Width.{width_at}
use Rattle.orc_rle.specs.declared.fault.RunFault.{RunFault}
use Rattle.orc_rle.specs.declared.sign.Sign.{Sign}
use Rattle.orc_rle.specs.Delta.{IsStart, IsDelta, NoStart}
use Rattle.orc_rle.specs.laws.DeltaLaws.{both_starts, start_none}
use Rattle.orc_rle.specs.Direct.{AllStand, IsDirect}
use Rattle.orc_rle.specs.laws.FrontLaws.{after_one}
use Rattle.orc_rle.specs.Header.{code_in, count_in}
use Rattle.orc_rle.specs.laws.OneLaws.{parts_of}
use Rattle.orc_rle.specs.Patched.{IsPatched}
use Rattle.orc_rle.specs.laws.PatchedLaws.{length-raised}
use Rattle.orc_rle.specs.RunOne.{IsRunOne}
use Rattle.orc_rle.specs.RunTwo.{IsShapeTwo}
use Rattle.orc_rle.specs.laws.TextRunLaws.{length-walk}
use Rattle.orc_rle.specs.Values.{IsSpelled}
use Rattle.orc_rle.proofs.OneLemmas.{length-progression}

-- ---- varints

abbrev pub ReadVarint : Type 0
ReadVarint = Result (ℕ × ℕ) BitFault

abbrev pub read_of : ℕ → ℕ → ReadVarint
read_of n len = Ok (n, len)

-- so many values are spelled; those after the first i are spelled by what comes after so many bytes
pub record SpellsMore (sign : Sign) (vs : List ℤ) (front rest bytes : List ℕ) (count i at : ℕ) : Type 0 where
  pub len : length vs ≡ count
  pub more : List ℕ
  pub spelled : IsSpelled sign (drop i vs) more
  pub parts : drop at bytes ≡ more ++ rest
  pub at_is : at + length more ≡ length front

pub spells_all : (sign : Sign) (vs : List ℤ) (front rest bytes : List ℕ) (count : ℕ) → IsSpelled sign vs front → length vs ≡ count → bytes ≡ front ++ rest
    → SpellsMore sign vs front rest bytes count 0 0
spells_all sign vs front rest bytes count h len e = record { len = len; more = front; spelled = h; parts = e; at_is = omega arith }

-- the next varint
pub record SpellsNext (sign : Sign) (vs : List ℤ) (rest bytes : List ℕ) (i at : ℕ) (more : List ℕ) : Type 0 where
  pub number : ℕ
  pub first : List ℕ
  pub later : List ℕ
  pub varint : IsVarint first number
  pub more_is : more ≡ first ++ later
  pub spelled : IsSpelled sign (drop (i + 1) vs) later
  pub parts : drop at bytes ≡ first ++ (later ++ rest)

pub spells_next : (sign : Sign) (vs : List ℤ) (front rest bytes : List ℕ) (count i at : ℕ) → (h : SpellsMore sign vs front rest bytes count i at) → i < count → SpellsNext sign vs rest bytes i at h.more
spells_next sign vs front rest bytes count i at h lt =
    let there : i < length vs = omega (arith, lt, h.len) in
    let k = rw (drop_more vs i (pos 0) there) at h.spelled in
    record {
      number = k.0;
      first = k.1;
      later = k.2;
      varint = k.4;
      more_is = k.5;
      spelled = k.6;
      parts = h.parts ∙ (ap (λ (t : List ℕ). t ++ rest) k.5 ∙ append_assoc k.1 k.2 rest);
    }

pub spells_on : (sign : Sign) (vs : List ℤ) (front rest bytes : List ℕ) (count i at len : ℕ) → (h : SpellsMore sign vs front rest bytes count i at)
    → (n : SpellsNext sign vs rest bytes i at h.more) → len ≡ length n.first → SpellsMore sign vs front rest bytes count (i + 1) (at + len)
spells_on sign vs front rest bytes count i at len h n e = record {
  len = h.len;
  more = n.later;
  spelled = n.spelled;
  parts = sym (drop-drop len at bytes) ∙ (ap (λ (t : List ℕ). drop len t) n.parts ∙ (ap (λ (k : ℕ). drop k (n.first ++ (n.later ++ rest))) e ∙ drop-append_seam n.first (n.later ++ rest)));
  at_is = omega (arith, h.at_is, ap length n.more_is, length-append n.first n.later, e);
}

pub spells_done : (sign : Sign) (vs : List ℤ) (front rest bytes : List ℕ) (count i at : ℕ) → SpellsMore sign vs front rest bytes count i at → count ≤ i → at ≡ length front
spells_done sign vs front rest bytes count i at h le = done (drop i vs) h.more (nil_from_length (drop i vs) (omega (arith, length-drop i vs, h.len, le))) h.spelled h.at_is
  where
    done : (ws : List ℤ) (more : List ℕ) → ws ≡ [] → IsSpelled sign ws more → at + length more ≡ length front → at ≡ length front
    done [] more none k e = omega (arith, e, ap length k)
    done (w ∷ ws) more none k e = absurd cc

-- what the reader of a varint answers
pub answer_len : (m k n l : ℕ) → read_of m k ≡ read_of n l → k ≡ l
answer_len m k n l e = let pair : ◌≡◌ {A = ℕ × ℕ} (m, k) (n, l) = cc in ap (λ (p : ℕ × ℕ). p.1) pair

-- ---- forms

-- what a pattern reads of two bytes at least
abbrev pub behind_two : List ℕ → List ℕ
behind_two bytes = take (length bytes - 2) (drop 2 bytes)

pub two_front : (bytes : List ℕ) → 2 ≤ length bytes → get_or bytes 0 0 ∷ get_or bytes 1 0 ∷ behind_two bytes ≡ bytes
two_front [] le = absurd (omega (arith, le))
two_front (b ∷ []) le = absurd (omega (arith, le))
two_front (b ∷ c ∷ bs) le = ap (λ (t : List ℕ). b ∷ c ∷ t) (take_all (length (b ∷ c ∷ bs) - 2) bs (omega arith))

-- the first two bytes of another form
pub record TwoAhead (head low : ℕ) (tail rest : List ℕ) (h l : ℕ) (text : List ℕ) : Type 0 where
  pub head_is : head ≡ h
  pub low_is : low ≡ l
  pub tail_is : tail ≡ text ++ rest

two_ahead : (head low h l : ℕ) (tail text front rest : List ℕ) → front ≡ h ∷ l ∷ text → head ∷ low ∷ tail ≡ front ++ rest → TwoAhead head low tail rest h l text
two_ahead head low h l tail text front rest is e =
    let a = after_one head h (low ∷ tail) (l ∷ text) front rest is e in
    let b = parts_of low l tail (text ++ rest) a.1 in
    record { head_is = a.0; low_is = b.0; tail_is = b.1 }

same_count : (head low h l n : ℕ) → head ≡ h → low ≡ l → n ≡ count_in h l → n ≡ count_in head low
same_count head low h l n p q e = omega (arith, p, q, e)

stand_long : (sign : Sign) (vs : List ℤ) (ns : List ℕ) → AllStand sign vs ns → length vs ≡ length ns
stand_long sign [] [] h = refl
stand_long sign [] (n ∷ ns) h = absurd h
stand_long sign (v ∷ vs) [] h = absurd h
stand_long sign (v ∷ vs) (n ∷ ns) h = ap suc (stand_long sign vs ns h.1)

-- the header tells how many values there are
direct_count : (sign : Sign) (head low : ℕ) (tail front rest : List ℕ) (v : List ℤ) → IsDirect sign front v → head ∷ low ∷ tail ≡ front ++ rest → length v ≡ count_in head low
direct_count sign head low tail front rest v p e =
    let t = two_ahead head low p.head p.low tail p.text front rest p.bytes_are e in
    stand_long sign v p.numbers p.stand ∙ same_count head low p.head p.low (length p.numbers) t.head_is t.low_is p.len

patched_count : (head low : ℕ) (tail front rest : List ℕ) (v : List ℤ) → IsPatched front v → head ∷ low ∷ tail ≡ front ++ rest → length v ≡ count_in head low
patched_count head low tail front rest v p e =
    let t = two_ahead head low p.head p.low tail (p.third ∷ p.fourth ∷ p.text) front rest p.bytes_are e in
    let len : length v ≡ length p.numbers = ap length p.values_are ∙ (length-raised p.base p.patched ∙ p.patches.len) in
    len ∙ same_count head low p.head p.low (length p.numbers) t.head_is t.low_is p.len

-- a delta
pub start_few : (text : List ℕ) (number : ℕ) (step : ℤ) → IsStart text number step → length text ≤ 20
start_few text number step h = omega (arith, ap length h.text_is, length-append h.front h.middle, h.first.len, h.second.len)

delta_start : (sign : Sign) (head low : ℕ) (tail front rest : List ℕ) (v : List ℤ) (p : IsDelta sign front v) → head ∷ low ∷ tail ≡ front ++ rest → tail ≡ p.start ++ (p.text ++ rest)
delta_start sign head low tail front rest v p e =
    let t = two_ahead head low p.head p.low tail (p.start ++ p.text) front rest p.bytes_are e in
    t.tail_is ∙ append_assoc p.start p.text rest

pub delta_none_there : (sign : Sign) (head low : ℕ) (tail front rest : List ℕ) (v : List ℤ) (fault : RunFault) → IsDelta sign front v → head ∷ low ∷ tail ≡ front ++ rest → NoStart tail fault → ⊥
delta_none_there sign head low tail front rest v fault p e n = start_none tail p.start (p.text ++ rest) p.number p.step fault n p.started (delta_start sign head low tail front rest v p e)

delta_len : (sign : Sign) (head low len number : ℕ) (step : ℤ) (tail front rest : List ℕ) (v : List ℤ) (p : IsDelta sign front v) → head ∷ low ∷ tail ≡ front ++ rest
    → len ≤ length tail → IsStart (take len tail) number step → length front ≡ (len + length p.text) + 2
delta_len sign head low len number step tail front rest v p e le start =
    let s = both_starts (take len tail) p.start (drop len tail) (p.text ++ rest) number p.number step p.step start p.started (take-append-drop len tail ∙ delta_start sign head low tail front rest v p e) in
    omega (arith, ap length p.bytes_are, length-append p.start p.text, ap length s.front, length-take-le len tail le)

pub delta_even_size : (sign : Sign) (head low len number : ℕ) (step : ℤ) (tail front rest : List ℕ) (v : List ℤ) → IsDelta sign front v → head ∷ low ∷ tail ≡ front ++ rest
    → len ≤ length tail → IsStart (take len tail) number step → code_in head ≡ 0 → length front ≡ len + 2
delta_even_size sign head low len number step tail front rest v p e le start zero =
    let t = two_ahead head low p.head p.low tail (p.start ++ p.text) front rest p.bytes_are e in
    let all = delta_len sign head low len number step tail front rest v p e le start in
    let code : code_in p.head ≡ 0 = ap (λ (k : ℕ). code_in k) (sym t.head_is) ∙ zero in
    elim p.steps [
      | inl even ↦ omega (arith, all, ap length even.text_is)
      | inr sized ↦ absurd (omega (arith, sized.code_is, code))
    ]

pub delta_sized_size : (sign : Sign) (head low len number : ℕ) (step : ℤ) (tail front rest : List ℕ) (v : List ℤ) → IsDelta sign front v → head ∷ low ∷ tail ≡ front ++ rest
    → len ≤ length tail → IsStart (take len tail) number step → 0 < code_in head → length front ≡ (len + packed_len (width_at (code_in head)) (count_in head low - 2)) + 2
delta_sized_size sign head low len number step tail front rest v p e le start some =
    let t = two_ahead head low p.head p.low tail (p.start ++ p.text) front rest p.bytes_are e in
    let all = delta_len sign head low len number step tail front rest v p e le start in
    let code : 0 < code_in p.head = subst (λ (k : ℕ). 0 < code_in k) t.head_is some in
    elim p.steps [
      | inl even ↦ absurd (omega (arith, even.code_is, code))
      | inr sized ↦
          let count : length sized.sizes ≡ count_in head low - 2 = omega (arith, sized.len, t.head_is, t.low_is) in
          let size : length p.text ≡ packed_len (width_at (code_in head)) (count_in head low - 2) =
          sized.packed.len ∙ (ap (λ (k : ℕ). packed_len (width_at (code_in k)) (length sized.sizes)) (sym t.head_is) ∙ ap (λ (n : ℕ). packed_len (width_at (code_in head)) n) count) in
          all ∙ ap (λ (n : ℕ). (len + n) + 2) size
    ]

delta_count : (sign : Sign) (head low : ℕ) (tail front rest : List ℕ) (v : List ℤ) → IsDelta sign front v → head ∷ low ∷ tail ≡ front ++ rest → length v ≡ count_in head low
delta_count sign head low tail front rest v p e =
    let t = two_ahead head low p.head p.low tail (p.start ++ p.text) front rest p.bytes_are e in
    elim p.steps [
      | inl even ↦
          same_count head low p.head p.low (length v) t.head_is t.low_is (ap length even.values_are ∙ length-progression p.first p.step (count_in p.head p.low))
      | inr sized ↦
          same_count head low p.head p.low (length v) t.head_is t.low_is (omega (arith, ap length sized.values_are, length-walk p.step (p.first +ℤ p.step) sized.sizes, sized.len))
    ]

-- ---- version 1: a run of steps, by its header
pub record StepSize (sign : Sign) (head : ℕ) (tail front rest : List ℕ) (v : List ℤ) : Type 0 where
  pub first : ℤ
  pub text : List ℕ
  pub spelled : IsSpelled sign (first ∷ []) text
  pub parts : tail ≡ text ++ rest
  pub len : length text + 2 ≡ length front
  pub count : head + 3 ≡ length v

pub step_size : (sign : Sign) (head low : ℕ) (tail front rest : List ℕ) (v : List ℤ) → IsRunOne sign front v → head < 128 → head ∷ low ∷ tail ≡ front ++ rest → StepSize sign head tail front rest v
step_size sign head low tail front rest v run lt e =
    elim run.shape [
      | inl p ↦
          let t = two_ahead head low (length v - 3) (cast_unsigned w8 p.step) tail p.text front rest p.bytes_are e in
          record {
            first = p.first;
            text = p.text;
            spelled = p.spelled;
            parts = t.tail_is;
            len = omega (arith, ap length p.bytes_are);
            count = omega (arith, t.head_is, p.steps.few);
          }
      | inr p ↦
          let h = after_one head (256 - length v) (low ∷ tail) p.text front rest p.bytes_are e in
          absurd (omega (arith, h.0, p.few, p.most, lt))
    ]

-- ---- version 2: the form by the header

pub two_count : (sign : Sign) (head low : ℕ) (tail front rest : List ℕ) (v : List ℤ) → IsShapeTwo sign front v → 64 ≤ head → head ∷ low ∷ tail ≡ front ++ rest → length v ≡ count_in head low
two_count sign head low tail front rest v (inl p) big e = absurd (omega (arith, (after_one head p.head (low ∷ tail) p.text front rest p.bytes_are e).0, p.top, big))
two_count sign head low tail front rest v (inr (inl p)) big e = direct_count sign head low tail front rest v p e
two_count sign head low tail front rest v (inr (inr (inl p))) big e = patched_count head low tail front rest v p e
two_count sign head low tail front rest v (inr (inr (inr p))) big e = delta_count sign head low tail front rest v p e

-- the two top bits are those of the form
abbrev pub HeadOf : ℕ → ℕ → ℕ → Type 0
HeadOf head from to = (from ≤ head) × (head < to)

pub is_patched : (sign : Sign) (head : ℕ) (tail front rest : List ℕ) (v : List ℤ) → IsShapeTwo sign front v → HeadOf head 128 192 → head ∷ tail ≡ front ++ rest → IsPatched front v
is_patched sign head tail front rest v (inl p) of e = absurd (omega (arith, (after_one head p.head tail p.text front rest p.bytes_are e).0, p.top, of.0))
is_patched sign head tail front rest v (inr (inl p)) of e = absurd (omega (arith, (after_one head p.head tail (p.low ∷ p.text) front rest p.bytes_are e).0, p.top, of.0))
is_patched sign head tail front rest v (inr (inr (inl p))) of e = p
is_patched sign head tail front rest v (inr (inr (inr p))) of e = absurd (omega (arith, (after_one head p.head tail (p.low ∷ (p.start ++ p.text)) front rest p.bytes_are e).0, p.bottom, of.1))

pub is_delta : (sign : Sign) (head : ℕ) (tail front rest : List ℕ) (v : List ℤ) → IsShapeTwo sign front v → 192 ≤ head → head ∷ tail ≡ front ++ rest → IsDelta sign front v
is_delta sign head tail front rest v (inl p) ge e = absurd (omega (arith, (after_one head p.head tail p.text front rest p.bytes_are e).0, p.top, ge))
is_delta sign head tail front rest v (inr (inl p)) ge e = absurd (omega (arith, (after_one head p.head tail (p.low ∷ p.text) front rest p.bytes_are e).0, p.top, ge))
is_delta sign head tail front rest v (inr (inr (inl p))) ge e =
    absurd (omega (arith, (after_one head p.head tail (p.low ∷ p.third ∷ p.fourth ∷ p.text) front rest p.bytes_are e).0, p.top, ge))
is_delta sign head tail front rest v (inr (inr (inr p))) ge e = p

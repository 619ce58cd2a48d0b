-- What the writer makes is a run of its values (ORC specification, "Integer Run Length Encoding, version 2"):
-- short repeats, direct runs and deltas.
use Rattle.std.proofs.Common.{List, ℤ, ℕ, ◌≤◌, length, arith, ◌*◌, ◌+◌, ◌-◌, ◌/◌, ◌%◌, sym, ◌∙◌, subst, ◌∷◌, [], ◌≡◌, ap, ◌++◌, refl, inl, ◌<◌, zero, suc, ◌+ℤ◌, inr, append_assoc, replicate}
use Rattle.std.proofs.lemmas.List.{append-nil}
use Rattle.byteorder.specs.Endian.{big_number, big_bytes}
use Rattle.byteorder.specs.Numbers.{big_number-reads_back, length-bytes_high_first}
use Rattle.orc_bits.specs.Packed.{IsPacked}
use Rattle.orc_bits.specs.Varint.{IsVarint}
use Rattle.orc_bits.specs.Width.{width_at}
use Rattle.orc_rle.specs.declared.sign.Sign.{Sign}
use Rattle.orc_rle.specs.declared.sign.Sign.TheVariants.{Signed}
use Rattle.orc_rle.specs.Delta.{IsStart, IsDelta, walk, moved}
use Rattle.orc_rle.specs.DeltaText.{IsEvenText, IsSizedText, IsDeltaText}
use Rattle.orc_rle.specs.Direct.{IsDirect}
use Rattle.orc_rle.specs.DirectText.{IsDirectText}
use Rattle.orc_rle.specs.laws.LeastLaws.{code_of_header, count_of_header, length-stand}
use Rattle.orc_rle.specs.RepeatText.{IsRepeatText}
use Rattle.orc_rle.specs.RunOne.{progression}
use Rattle.orc_rle.specs.ShortRepeat.{IsShortRepeat}
use Rattle.orc_rle.specs.Values.{Stands, IsSpelledShortest}

pub direct_is_run : (sign : Sign) (chunk : List ℤ) (text : List ℕ)
    → 1 ≤ length chunk → length chunk ≤ 512 → IsDirectText sign chunk text → IsDirect sign text chunk
direct_is_run sign chunk text some most p =
    let is_code = p.width.is.code_is.is_code in
    let code = code_of_header 1 p.code (length chunk) (omega arith) is_code most in
    let count = count_of_header 1 p.code (length chunk) (omega arith) is_code some most in
    record {
      head = 64 * 1 + 2 * p.code + (length chunk - 1) / 256;
      low = (length chunk - 1) % 256;
      text = p.packed;
      numbers = p.numbers;
      bottom = omega arith;
      top = omega (arith, is_code);
      len = sym (length-stand sign chunk p.numbers p.stand) ∙ sym count;
      packed = subst (λ (c : ℕ). IsPacked p.packed (width_at c) p.numbers) (sym code) p.packed_is.packed;
      stand = p.stand;
      bytes_are = p.text_is;
    }

-- the varint of one value
record SingleText (sign : Sign) (v : ℤ) (text : List ℕ) : Type 0 where
  number : ℕ
  stands : Stands sign v number
  varint : IsVarint text number

single : (sign : Sign) (v : ℤ) (text : List ℕ) → IsSpelledShortest sign (v ∷ []) text → SingleText sign v text
single sign v text h =
    let is : text ≡ h.1 = h.5 ∙ (ap (λ (t : List ℕ). h.1 ++ t) h.6 ∙ append-nil h.1) in
    record { number = h.0; stands = h.3; varint = subst (λ (t : List ℕ). IsVarint t h.0) (sym is) h.4.varint }

start_of : (sign : Sign) (first step : ℤ) (value delta : List ℕ)
    → (v : SingleText sign first value) → (d : SingleText Signed step delta) → IsStart (value ++ delta) v.number step
start_of sign first step value delta v d = record {
  front = value;
  middle = delta;
  first = v.varint;
  second = subst (λ (n : ℕ). IsVarint delta n) (sym d.stands) d.varint;
  text_is = refl;
}

pub even_delta_is_run : (sign : Sign) (chunk : List ℤ) (text : List ℕ)
    → length chunk ≤ 512 → IsEvenText sign chunk text → IsDelta sign text chunk
even_delta_is_run sign chunk text most p =
    let code = code_of_header 3 0 (length chunk) (omega arith) (omega arith) most in
    let count = count_of_header 3 0 (length chunk) (omega arith) (omega arith) (omega (arith, p.even.two)) most in
    let value = single sign p.first p.value p.value_is in
    let delta = single Signed p.step p.delta p.delta_is in
    record {
      head = 64 * 3 + 2 * 0 + (length chunk - 1) / 256;
      low = (length chunk - 1) % 256;
      number = value.number;
      first = p.first;
      step = p.step;
      start = p.value ++ p.delta;
      text = [];
      bottom = omega arith;
      started = start_of sign p.first p.step p.value p.delta value delta;
      stands = value.stands;
      steps = inl (record { code_is = code; text_is = refl; values_are = p.even.values_are ∙ ap (progression p.first p.step) (sym count) });
      bytes_are = p.text_is ∙ ap (λ (t : List ℕ). (64 * 3 + 2 * 0 + (length chunk - 1) / 256) ∷ (length chunk - 1) % 256 ∷ t) (sym (append-nil (p.value ++ p.delta)));
    }

pub length-walk : (step from : ℤ) (sizes : List ℕ) → length (walk step from sizes) ≡ length sizes
length-walk step from [] = refl
length-walk step from (n ∷ ns) = omega (arith, length-walk step (moved step from n) ns)

wide_code : (code : ℕ) → 2 ≤ width_at code → 0 < code
wide_code zero h = omega (arith, h)
wide_code (suc c) h = omega arith

sized_is_run : (sign : Sign) (chunk : List ℤ) (text : List ℕ)
    → length chunk ≤ 512 → IsSizedText sign chunk text → IsDelta sign text chunk
sized_is_run sign chunk text most p =
    let aligned = p.width.is.code_is in
    let len : length p.sizes + 2 ≡ length chunk = omega (arith, ap (λ (t : List ℤ). length t) p.directed.values_are, length-walk p.step (p.first +ℤ p.step) p.sizes) in
    let code = code_of_header 3 p.code (length chunk) (omega arith) aligned.is_code most in
    let count = count_of_header 3 p.code (length chunk) (omega arith) aligned.is_code (omega (arith, len)) most in
    let value = single sign p.first p.value p.value_is in
    let delta = single Signed p.step p.delta p.delta_is in
    let some = wide_code p.code aligned.wide in
    record {
      head = 64 * 3 + 2 * p.code + (length chunk - 1) / 256;
      low = (length chunk - 1) % 256;
      number = value.number;
      first = p.first;
      step = p.step;
      start = p.value ++ p.delta;
      text = p.packed;
      bottom = omega arith;
      started = start_of sign p.first p.step p.value p.delta value delta;
      stands = value.stands;
      steps = inr (record {
        sizes = p.sizes;
        code_is = rw code some;
        len = len ∙ sym count;
        packed = subst (λ (c : ℕ). IsPacked p.packed (width_at c) p.sizes) (sym code) p.packed_is.packed;
        values_are = p.directed.values_are;
      });
      bytes_are = p.text_is ∙ ap (λ (t : List ℕ). (64 * 3 + 2 * p.code + (length chunk - 1) / 256) ∷ (length chunk - 1) % 256 ∷ t) (sym (append_assoc p.value p.delta p.packed));
    }

pub delta_is_run : (sign : Sign) (chunk : List ℤ) (text : List ℕ)
    → length chunk ≤ 512 → IsDeltaText sign chunk text → IsDelta sign text chunk
delta_is_run sign chunk text most (inl p) = even_delta_is_run sign chunk text most p
delta_is_run sign chunk text most (inr p) = sized_is_run sign chunk text most p

pub repeat_is_run : (sign : Sign) (piece : List ℤ) (text : List ℕ)
    → IsRepeatText sign piece text → IsShortRepeat sign text piece
repeat_is_run sign piece text p =
    let eight : p.size ≤ 8 = p.small in
    let few = p.few in
    let most = p.most in
    let bytes : (8 * (p.size - 1) + (length piece - 3)) / 8 + 1 ≡ p.size = omega (arith, p.size_is.is.0, most) in
    let count : (8 * (p.size - 1) + (length piece - 3)) % 8 + 3 ≡ length piece = omega (arith, few, most) in
    let read : big_number p.size (big_bytes p.size p.number) ≡ p.number = ap (big_number p.size) (sym (append-nil (big_bytes p.size p.number))) ∙ big_number-reads_back p.size p.number [] p.size_is.is.1 in
    record {
      head = 8 * (p.size - 1) + (length piece - 3);
      text = big_bytes p.size p.number;
      value = p.value;
      top = omega (arith, eight, most);
      len = length-bytes_high_first p.size p.number ∙ sym bytes;
      stands = subst (λ (k : ℕ). Stands sign p.value (big_number k (big_bytes p.size p.number))) (sym bytes) (subst (λ (n : ℕ). Stands sign p.value n) (sym read) p.stands);
      values_are = p.values_are ∙ ap (λ (n : ℕ). replicate n p.value) (sym count);
      bytes_are = p.text_is;
    }

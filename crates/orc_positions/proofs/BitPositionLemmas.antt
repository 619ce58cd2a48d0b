-- Positions in streams of booleans: what they name, and what comes from there on.
use Rattle.std.proofs.Common.{◌≡◌, ℕ, zero, suc, ◌+◌, ◌*◌, ◌-◌, ◌/◌, ◌%◌, ◌<◌, ◌≤◌, List, [], ◌∷◌, ◌++◌, length, take, drop, map, Bool, sym, ap, subst, ◌∙◌, arith, inl, inr, length-append, length-drop}
use Rattle.std.proofs.Math.Seq.{drop-append_seam}
use Rattle.std.proofs.lemmas.List.{take-append-drop, length-take-le, drop-drop, drop-append-le, length-map, append-nil, nil_from_length}
use Rattle.std.specs.List.{drop-map}
use Rattle.orc_bits.specs.Packed.{bits, digits, IsPacked}
use Rattle.orc_bits.proofs.PackedLemmas.{length-bits, length-digits, digits-append}
use Rattle.orc_rle.specs.BitStream.{digit, IsBitStream}
use Rattle.orc_rle.proofs.BitLaws.{held_len}
use Rattle.orc_rle.specs.ByteRun.{IsByteRun, NoByteRun}
use Rattle.orc_rle.specs.declared.fault.RunFault.{RunFault}
use Rattle.orc_rle.proofs.ByteLaws.{one_byte_run, byte_run_some}
use Rattle.orc_rle.specs.Seeking.{SeeksBits, BitSeekFails, bytes_needed}
use Rattle.orc_rle.specs.Stream.{IsStream}
use Rattle.orc_rle.proofs.BitLemmas.{digits_one}
use Rattle.orc_rle.proofs.StreamLemmas.{runs_rest, one_stream}
use Rattle.orc_positions.specs.Position.{HasValues, IsOneRun}
use Rattle.orc_positions.specs.BitPosition.{BeginsBits, BitsPending, BitsGoOn, IsWriterBitPosition, HasBooleans}
use Rattle.orc_positions.proofs.PositionLemmas.{goes_on, sought, one_number, one_place, SamePlace, seek_alone, fails_alone, rest_alone}

-- bytes of a stream of booleans
pub has_bytes : (bytes : List ℕ) (total n : ℕ) → HasBooleans bytes total → n ≤ total → HasValues IsByteRun bytes (n / 8)
has_bytes bytes total n h le = (h.1.packed, h.1.runs, omega (arith, held_len h.1.packed h.0 h.1.held, h.2, le))

-- and those before one of its booleans
pub has_whole : (bytes : List ℕ) (total whole bits n : ℕ) → HasBooleans bytes total → n ≡ 8 * whole + bits → n ≤ total → HasValues IsByteRun bytes whole
has_whole bytes total whole bits n h e le = (h.1.packed, h.1.runs, omega (arith, held_len h.1.packed h.0 h.1.held, h.2, le, e))

digits-drop : (xs : List ℕ) (k : ℕ) → k ≤ length xs → drop (8 * k) (digits 8 xs) ≡ digits 8 (drop k xs)
digits-drop xs k le =
    let len : length (digits 8 (take k xs)) ≡ 8 * k = length-digits 8 (take k xs) ∙ ap (λ (n : ℕ). 8 * n) (length-take-le k xs le) in
    ap (λ (t : List ℕ). drop (8 * k) (digits 8 t)) (sym (take-append-drop k xs)) ∙ (ap (drop (8 * k)) (digits-append 8 (take k xs) (drop k xs))
    ∙ (ap (λ (n : ℕ). drop n (digits 8 (take k xs) ++ digits 8 (drop k xs))) (sym len) ∙ drop-append_seam (digits 8 (take k xs)) (digits 8 (drop k xs))))

-- the digits from boolean n on
digits_from : (packed : List ℕ) (all : List Bool) (h : IsPacked packed 1 (map digit all)) (whole bits n : ℕ) → n ≡ 8 * whole + bits → n ≤ length all
    → drop bits (digits 8 (drop whole packed)) ≡ map digit (drop n all) ++ h.spare
digits_from packed all h whole bits n e le =
    let few : whole ≤ length packed = omega (arith, held_len packed all h, e, le) in
    let digits_are : digits 8 packed ≡ map digit all ++ h.spare = h.digits_are ∙ ap (λ (t : List ℕ). t ++ h.spare) (digits_one all) in
    let size : n ≤ length (map digit all) = omega (arith, le, length-map all digit) in
    ap (drop bits) (sym (digits-drop packed whole few)) ∙ (drop-drop bits (8 * whole) (digits 8 packed) ∙ (ap (λ (k : ℕ). drop k (digits 8 packed)) (sym e)
    ∙ (ap (drop n) digits_are ∙ (drop-append-le n (map digit all) h.spare size ∙ ap (λ (t : List ℕ). t ++ h.spare) (drop-map digit n all)))))

few_spare : (packed : List ℕ) (all : List Bool) (h : IsPacked packed 1 (map digit all)) → length h.spare < 8
few_spare packed all h =
    omega (
      arith,
      held_len packed all h,
      ap (λ (t : List ℕ). length t) h.digits_are,
      length-digits 8 packed,
      length-append (digits 1 (map digit all)) h.spare,
      length-digits 1 (map digit all),
      length-map all digit,
    )

pub bits_go_on : (bytes : List ℕ) (offset skip bits n at : ℕ) (left : List ℕ) (all : List Bool) → BeginsBits bytes (length all) offset skip bits n → IsBitStream bytes all
    → SeeksBits bytes offset skip bits at left → BitsPending left (drop at bytes) bits (drop n all)
bits_go_on bytes offset skip bits n at left all h stream k =
    let runs = goes_on IsByteRun one_byte_run byte_run_some bytes offset skip (bytes_needed skip bits) h.whole at left stream.packed (omega arith) (omega arith) h.begins stream.runs k.1 in
    record {
      packed = drop h.whole stream.packed;
      runs = runs;
      spare = stream.held.spare;
      few = few_spare stream.packed all stream.held;
      digits_are = digits_from stream.packed all stream.held h.whole bits n h.number_is h.there;
    }

-- as many bytes come after the offset as are needed
bytes_there : (bytes : List ℕ) (offset skip bits n : ℕ) (all : List Bool) (h : BeginsBits bytes (length all) offset skip bits n) → IsBitStream bytes all
    → bytes_needed skip bits ≤ length h.begins.after
bytes_there bytes offset skip bits n all h stream =
    let b = h.begins in
    let r = runs_rest IsByteRun one_byte_run byte_run_some b.stream.0 stream.runs.0 b.front b.rest bytes b.before stream.packed b.stream.1 stream.runs.1 b.parts in
    let after = one_stream IsByteRun one_byte_run byte_run_some b.rest b.after r.values b.more r.stream in
    let size : length stream.packed ≡ length b.before + length b.after = omega (arith, ap length r.parts, length-append b.before r.values, ap length after) in
    omega (arith, size, held_len stream.packed all stream.held, h.number_is, h.there, b.number_is, b.there)

pub bits_sought : (bytes : List ℕ) (offset skip bits n : ℕ) (all : List Bool) → BeginsBits bytes (length all) offset skip bits n → IsBitStream bytes all
    → BitsGoOn bytes offset skip bits (drop n all)
bits_sought bytes offset skip bits n all h stream =
    let s = sought IsByteRun one_byte_run byte_run_some bytes offset skip (bytes_needed skip bits) h.whole stream.packed (omega arith) (omega arith) h.begins
    (bytes_there bytes offset skip bits n all h stream) stream.runs in
    let seeks : SeeksBits bytes offset skip bits s.at s.left = (h.few, s.seeks) in
    record { at = s.at; left = s.left; seeks = seeks; goes_on = bits_go_on bytes offset skip bits n s.at s.left all h stream seeks }

pub one_bit_number : (bytes : List ℕ) (total offset skip bits n m : ℕ) → BeginsBits bytes total offset skip bits n → BeginsBits bytes total offset skip bits m → n ≡ m
one_bit_number bytes total offset skip bits n m h k =
    let whole = one_number IsByteRun one_byte_run byte_run_some bytes offset skip h.whole k.whole h.begins k.begins in
    omega (arith, h.number_is, k.number_is, whole)

-- a writer's position names its boolean
pub bit_place_begins : (bytes : List ℕ) (total offset skip bits n : ℕ) → IsWriterBitPosition bytes total offset skip bits n → BeginsBits bytes total offset skip bits n
bit_place_begins bytes total offset skip bits n h =
    record { whole = n / 8; begins = h.place.begins; few = omega (arith, h.bits_are); number_is = omega (arith, h.bits_are); there = h.there }

pub one_bit_place : (bytes : List ℕ) (total o p s t k l n : ℕ) → IsWriterBitPosition bytes total o s k n → IsWriterBitPosition bytes total p t l n → SamePlace o p s t × (k ≡ l)
one_bit_place bytes total o p s t k l n h g = (one_place IsByteRun one_byte_run byte_run_some bytes o p s t (n / 8) h.place g.place, h.bits_are ∙ sym g.bits_are)

-- at the stream's end no boolean of a byte is passed
none_at_end : (bytes : List ℕ) (total offset skip bits n : ℕ) → HasBooleans bytes total → IsWriterBitPosition bytes total offset skip bits n → offset ≡ length bytes → skip ≡ 0
    → bytes_needed skip bits ≡ 0
none_at_end bytes total offset skip bits n has h end none =
    let b = h.place.begins in
    let size : length b.rest ≡ 0 = omega (arith, ap length b.parts, length-append b.front b.rest, b.offset_is, end) in
    let whole : bytes ≡ b.front = b.parts ∙ (ap (λ (t : List ℕ). b.front ++ t) (nil_from_length b.rest size) ∙ append-nil b.front) in
    let same = one_stream IsByteRun one_byte_run byte_run_some bytes has.1.packed b.before has.1.runs (subst (λ (t : List ℕ). IsStream IsByteRun t b.before) (sym whole) b.stream) in
    omega (arith, none, h.bits_are, h.there, b.number_is, ap length same, held_len has.1.packed has.0 has.1.held, has.2)

-- and needs one run at most
pub bit_place_run : (bytes : List ℕ) (total offset skip bits n : ℕ) → HasBooleans bytes total → IsWriterBitPosition bytes total offset skip bits n
    → IsOneRun IsByteRun bytes offset (bytes_needed skip bits)
bit_place_run bytes total offset skip bits n has h = elim h.place.inside [
  | inl end ↦ inl (none_at_end bytes total offset skip bits n has h end.0 end.1)
  | inr run ↦ inr (run.0, run.1, run.2, run.3, run.4, omega (arith, run.5))
]

-- bytes before the offset may be others
pub bit_seek_alone : (a b : List ℕ) (offset skip bits at : ℕ) (left : List ℕ) → drop offset a ≡ drop offset b → offset ≤ length b → SeeksBits a offset skip bits at left
    → SeeksBits b offset skip bits at left
bit_seek_alone a b offset skip bits at left same le h = (h.0, seek_alone IsByteRun a b offset skip (bytes_needed skip bits) at left same le h.1)

pub bit_fails_alone : (a b : List ℕ) (offset skip bits : ℕ) (fault : RunFault) → drop offset a ≡ drop offset b → offset ≤ length a → offset ≤ length b
    → BitSeekFails a offset skip bits fault → BitSeekFails b offset skip bits fault
bit_fails_alone a b offset skip bits fault same la lb (inl many) = inl many
bit_fails_alone a b offset skip bits fault same la lb (inr h) = inr (h.0, fails_alone IsByteRun NoByteRun a b offset (bytes_needed skip bits) fault same la lb h.1)

pub bits_alone : (a b : List ℕ) (offset skip bits : ℕ) (all : List Bool) → drop offset a ≡ drop offset b → offset ≤ length b → BitsGoOn a offset skip bits all → BitsGoOn b offset skip bits all
bits_alone a b offset skip bits all same le h = record {
  at = h.at;
  left = h.left;
  seeks = (h.seeks.0, seek_alone IsByteRun a b offset skip (bytes_needed skip bits) h.at h.left same le h.seeks.1);
  goes_on = subst (λ (t : List ℕ). BitsPending h.left t bits all) (rest_alone a b offset h.seeks.1.len h.at same h.seeks.1.at_is) h.goes_on;
}

-- the lower digits of a number
pub bits_low : (n k w : ℕ) → drop k (bits n (k + w)) ≡ bits n w
unfolding bits
bits_low n k zero = nil_from_length (drop k (bits n (k + 0))) (omega (arith, length-drop k (bits n (k + 0)), length-bits n (k + 0)))
bits_low n k (suc w) =
    let e : k + suc w ≡ suc (k + w) = omega arith in
    let len = length-bits (n / 2) (k + w) in
    ap (λ (m : ℕ). drop k (bits n m)) e ∙ (drop-append-le k (bits (n / 2) (k + w)) ((n % 2) ∷ []) (omega (arith, len)) ∙ ap (λ (t : List ℕ). t ++ (n % 2) ∷ []) (bits_low (n / 2) k w))

-- digits of a byte are passed, and the others are held
pub held_digits : (b k : ℕ) (packed : List ℕ) → k ≤ 8 → drop k (digits 8 (b ∷ packed)) ≡ bits b (8 - k) ++ digits 8 packed
unfolding digits
held_digits b k packed le =
    let e : k + (8 - k) ≡ 8 = omega (arith, le) in
    drop-append-le k (bits b 8) (digits 8 packed) (omega (arith, le, length-bits b 8))
    ∙ ap (λ (t : List ℕ). t ++ digits 8 packed) (ap (λ (m : ℕ). drop k (bits b m)) (sym e) ∙ bits_low b k (8 - k))

-- Readers at positions, as readers of the whole streams behind so many values.
use Rattle.std.proofs.Common.{◌≡◌, ℕ, zero, suc, ◌+◌, ◌*◌, ◌-◌, ◌≤◌, ℤ, Bool, List, [], ◌∷◌, ◌++◌, length, map, take, drop, refl, sym, ap, ◌∙◌, subst, arith, inl, inr, append_assoc, append-nil, length-append}
use Rattle.std.proofs.Math.Seq.{take-append_seam, drop-append-add}
use Rattle.std.proofs.lemmas.List.{take-append-drop, take-append-le, map-append, length-map}
use Rattle.orc_bits.specs.Packed.{bits, digits, packed_len}
use Rattle.orc_bits.proofs.PackedLemmas.{length-digits, digits-append}
use Rattle.orc_rle.specs.BitStream.{digit}
use Rattle.orc_rle.specs.ByteRun.{IsByteRun, NoByteRun}
use Rattle.orc_rle.specs.Seeking.{SeeksBits, bytes_needed}
use Rattle.orc_rle.specs.Stream.{AreRuns, IsStream, StopsWithin, RunsLeft}
use Rattle.orc_rle.specs.declared.fault.RunFault.{RunFault}
use Rattle.orc_rle.specs.declared.sign.Rle.{Rle}
use Rattle.orc_rle.specs.declared.sign.Sign.{Sign}
use Rattle.orc_rle.proofs.RunLemmas.{One}
use Rattle.orc_rle.proofs.StreamLemmas.{tail_same}
use Rattle.orc_positions.proofs.BitPositionLemmas.{held_digits}
use Rattle.orc_column_reader.specs.Bits.{BitsFirst}
use Rattle.orc_column_reader.specs.Bytes.{BytesFirst}
use Rattle.orc_column_reader.specs.Needs.{BoolsBegin}
use Rattle.orc_column_reader.specs.Numbers.{is_run, NumbersLeft, NumbersFirst}
use Rattle.orc_column_reader.specs.RunFaults.{no_run}
use Rattle.orc_column_reader.specs.Runs.{RunsFirst, RunsBegin}
use Rattle.orc_column_reader.specs.RunsMet.{RunsMeet, NumbersMeet, BytesMeet, BitsMeet}
use Rattle.orc_column_reader.specs.declared.bits.Bits.{Bits}
use Rattle.orc_column_reader.specs.declared.bytes.RunLengthBytes.{RunLengthBytes}
use Rattle.orc_column_reader.specs.declared.numbers.Numbers.{Numbers}
use Rattle.orc_column_reader.proofs.BitsLemmas.{no_digit}
use Rattle.orc_column_reader.proofs.NumbersLemmas.{laws_of, byte_laws}
use Rattle.orc_group_reader.specs.Behind.{LeadsTo, LeadsToBit}
use Rattle.orc_group_reader.specs.ReadersAt.{NumbersAt, BytesAt, HoldsFirst, BitsAt}
use Rattle.orc_group_reader.specs.RunsPassed.{IsLastRun}
use Rattle.orc_group_reader.proofs.PassedRuns.{Passed, passed_by, values, long, meets_whole, first_whole, left_whole}

-- ---- what comes first in a stream is one list

-- two lists that come first go on to one
common_of : {A : Type 0} (R : List ℕ → List A → Type 0) → One R → (ps qs : List (List ℕ × List A)) (f g x y : List ℕ) (v w : List A) → AreRuns R ps f v → AreRuns R qs g w → f ++ x ≡ g ++ y
    → (t : List A) × (u : List A) × (v ++ t ≡ w ++ u)
common_of R one [] qs f g x y v w h k e = (w, [], ap (λ t. t ++ w) h.1 ∙ sym (append-nil w))
common_of R one (p ∷ ps) [] f g x y v w h k e = ([], v, append-nil v ∙ sym (ap (λ t. t ++ v) k.1))
common_of {A = A} R one (p ∷ ps) (q ∷ qs) f g x y v w h k e =
    let both : p.0 ++ (h.0 ++ x) ≡ q.0 ++ (k.0 ++ y) = sym (append_assoc p.0 h.0 x) ∙ sym (ap (λ (t : List ℕ). t ++ x) h.3) ∙ e ∙ ap (λ (t : List ℕ). t ++ y) k.3 ∙ append_assoc q.0 k.0 y in
    let same = one p.0 q.0 (h.0 ++ x) (k.0 ++ y) p.1 q.1 h.2 k.2 both in
    let tails : h.0 ++ x ≡ k.0 ++ y = tail_same q.0 (h.0 ++ x) (k.0 ++ y) (ap (λ (t : List ℕ). t ++ (h.0 ++ x)) (sym same.0) ∙ both) in
    let r = common_of R one ps qs h.0 k.0 x y h.1 k.1 h.5 k.5 tails in (
      r.0,
      r.1,
      ap (λ (t : List A). t ++ r.0) h.4 ∙ append_assoc p.1 h.1 r.0 ∙ (λ i. same.1 i ++ r.2 i) ∙ sym (append_assoc q.1 k.1 r.1) ∙ ap (λ (t : List A). t ++ r.1) (sym k.4),
    )

pub common : {A : Type 0} (R : List ℕ → List A → Type 0) → One R → (bytes : List ℕ) (a b : List A) → RunsBegin R bytes a → RunsBegin R bytes b → (t : List A) × (u : List A) × (a ++ t ≡ b ++ u)
common {A = A} R one bytes a b h k =
    let c = common_of R one h.4.0 k.4.0 h.0 k.0 h.1 k.1 (a ++ h.2) (b ++ k.2) h.4.1 k.4.1 (sym h.3 ∙ k.3) in
    (h.2 ++ c.0, k.2 ++ c.1, sym (append_assoc a h.2 c.0) ∙ c.2 ∙ append_assoc b k.2 c.1)

pub first_same : {A : Type 0} (R : List ℕ → List A → Type 0) → One R → (bytes : List ℕ) (a b : List A) → length a ≡ length b → RunsBegin R bytes a → RunsBegin R bytes b → a ≡ b
first_same {A = A} R one bytes a b e h k =
    let c = common R one bytes a b h k in
    sym (take-append_seam a c.0) ∙ ap (take (length a)) c.2 ∙ ap (λ (n : ℕ). take n (b ++ c.1)) e ∙ take-append_seam b c.1

-- ---- integers and bytes

pub record NumbersBehind (v : Rle) (s : Sign) (bytes : List ℕ) (k : ℕ) (r : Numbers) : Type 0 where
  pub passed : List ℤ
  pub counted : length passed ≡ k
  pub meets : (n : ℕ) (f : RunFault) → NumbersMeet r n f → StopsWithin (is_run v s) (no_run v s) (k + n) bytes f
  pub first : (more : List ℤ) → NumbersFirst r more → RunsBegin (is_run v s) bytes (passed ++ more)
  pub left : (more : List ℤ) → NumbersLeft r more → IsStream (is_run v s) bytes (passed ++ more)

pub numbers_behind : (v : Rle) (s : Sign) (bytes : List ℕ) (offset skip k : ℕ) (r : Numbers) → NumbersAt v s bytes offset skip r → LeadsTo (is_run v s) bytes offset skip k → NumbersBehind v s bytes k r
numbers_behind v s bytes offset skip k r h leads =
    let R : List ℕ → List ℤ → Type 0 = is_run v s in
    let F : List ℕ → RunFault → Type 0 = no_run v s in
    let left : List ℤ = drop r.used r.run.values in
    let p = passed_by R (laws_of v s) bytes offset skip skip r.start h.seeks.len r.at left (omega arith) (omega arith) h.seeks.passes h.seeks.at_is h.last in
    record {
      passed = values R bytes offset r.start r.at skip k p.0 left leads p.1 p.2;
      counted = long R bytes offset r.start r.at skip k p.0 left leads p.1 p.2;
      meets = λ n f met.
          let a = subst (λ (w : Rle). RunsMeet (is_run w r.sign) (no_run w r.sign) left (drop r.at r.bytes.now) r.start r.at (length r.bytes.now) n f) h.version_is met in
          let b = subst (λ (g : Sign). RunsMeet (is_run v g) (no_run v g) left (drop r.at r.bytes.now) r.start r.at (length r.bytes.now) n f) h.sign_is a in
          let c = subst (λ (t : List ℕ). RunsMeet R F left (drop r.at t) r.start r.at (length t) n f) h.bytes_are b in
          meets_whole R bytes offset r.start r.at skip k p.0 left leads p.1 p.2 F n f c;
      first = λ more read.
          let a = subst (λ (w : Rle). RunsFirst (is_run w r.sign) left (drop r.at r.bytes.now) more) h.version_is read in
          let b = subst (λ (g : Sign). RunsFirst (is_run v g) left (drop r.at r.bytes.now) more) h.sign_is a in
          let c = subst (λ (t : List ℕ). RunsFirst R left (drop r.at t) more) h.bytes_are b in
          first_whole R bytes offset r.start r.at skip k p.0 left leads p.1 p.2 more c;
      left = λ more read.
          let a = subst (λ (w : Rle). RunsLeft (is_run w r.sign) left (drop r.at r.bytes.now) more) h.version_is read in
          let b = subst (λ (g : Sign). RunsLeft (is_run v g) left (drop r.at r.bytes.now) more) h.sign_is a in
          let c = subst (λ (t : List ℕ). RunsLeft R left (drop r.at t) more) h.bytes_are b in
          left_whole R bytes offset r.start r.at skip k p.0 left leads p.1 p.2 more c;
    }

pub record BytesBehind (bytes : List ℕ) (k : ℕ) (r : RunLengthBytes) : Type 0 where
  pub passed : List ℕ
  pub counted : length passed ≡ k
  pub meets : (n : ℕ) (f : RunFault) → BytesMeet r n f → StopsWithin IsByteRun NoByteRun (k + n) bytes f
  pub first : (more : List ℕ) → BytesFirst r more → RunsBegin IsByteRun bytes (passed ++ more)

-- of a reader that has passed these
abbrev bytes_of : (bytes : List ℕ) (offset skip k : ℕ) (r : RunLengthBytes) (passed left : List ℕ) → r.bytes.now ≡ bytes → drop r.used r.run.values ≡ left → LeadsTo IsByteRun bytes offset skip k → length passed ≡ skip
    → Passed IsByteRun bytes offset r.start r.at passed left → BytesBehind bytes k r
bytes_of bytes offset skip k r passed left b pending leads counted p = record {
  passed = values IsByteRun bytes offset r.start r.at skip k passed left leads counted p;
  counted = long IsByteRun bytes offset r.start r.at skip k passed left leads counted p;
  meets = λ n f met.
      let a = subst (λ (t : List ℕ). RunsMeet IsByteRun NoByteRun t (drop r.at r.bytes.now) r.start r.at (length r.bytes.now) n f) pending met in
      let c = subst (λ (t : List ℕ). RunsMeet IsByteRun NoByteRun left (drop r.at t) r.start r.at (length t) n f) b a in
      meets_whole IsByteRun bytes offset r.start r.at skip k passed left leads counted p NoByteRun n f c;
  first = λ more read.
      let a = subst (λ (t : List ℕ). RunsFirst IsByteRun t (drop r.at r.bytes.now) more) pending read in
      let c = subst (λ (t : List ℕ). RunsFirst IsByteRun left (drop r.at t) more) b a in
      first_whole IsByteRun bytes offset r.start r.at skip k passed left leads counted p more c;
}

pub bytes_behind : (bytes : List ℕ) (offset skip k : ℕ) (r : RunLengthBytes) → BytesAt bytes offset skip r → LeadsTo IsByteRun bytes offset skip k → BytesBehind bytes k r
bytes_behind bytes offset skip k r h leads =
    let left : List ℕ = drop r.used r.run.values in
    let p = passed_by IsByteRun byte_laws bytes offset skip skip r.start h.seeks.len r.at left (omega arith) (omega arith) h.seeks.passes h.seeks.at_is h.last in
    bytes_of bytes offset skip k r p.0 left h.bytes_are refl leads p.1 p.2

-- ---- booleans

pub record BitsBehind (bytes : List ℕ) (k : ℕ) (r : Bits) : Type 0 where
  pub meets : (n : ℕ) (f : RunFault) → BitsMeet r n f → StopsWithin IsByteRun NoByteRun (packed_len 1 (k + n)) bytes f
  pub first : (before more : List Bool) → length before ≡ k → BoolsBegin bytes before → BitsFirst r more → BoolsBegin bytes (before ++ more)

-- one value of those that are left is passed too
passed_more : {A : Type 0} (R : List ℕ → List A → Type 0) (bytes : List ℕ) (offset start at : ℕ) (passed left : List A) (x : A) → Passed R bytes offset start at passed (x ∷ left) → Passed R bytes offset start at (passed ++ x ∷ []) left
passed_more {A = A} R bytes offset start at passed left x p = record {
  front = p.front;
  rest = p.rest;
  parts = p.parts;
  stream = subst (λ (t : List A). IsStream R p.front t) (sym (append_assoc passed (x ∷ []) left)) p.stream;
  at_is = p.at_is;
  last = elim p.last [
    | inl none ↦ absurd (omega (arith, ap length none))
    | inr l ↦
        inr (record {
          first = l.first;
          text = l.text;
          before = l.before;
          last = l.last;
          parts = l.parts;
          stream = l.stream;
          run = l.run;
          start_is = l.start_is;
          few = omega (arith, l.few, length-append passed (x ∷ []));
          counted = omega (arith, l.counted, length-append passed (x ∷ []));
        })
  ];
}

-- booleans that come first, behind which these digits come
bools_more : (bytes packed rest : List ℕ) (before more : List Bool) → BoolsBegin bytes before → RunsBegin IsByteRun bytes packed → length before ≤ length (digits 8 packed) → drop (length before) (digits 8 packed) ≡ map digit more ++ rest
    → BoolsBegin bytes (before ++ more)
bools_more bytes packed rest before more b runs le behind =
    let k = length before in
    let c = common IsByteRun byte_laws.one bytes b.packed packed b.runs runs in
    let all : map digit before ++ (b.more ++ digits 8 c.0) ≡ digits 8 packed ++ digits 8 c.1 =
    sym (append_assoc (map digit before) b.more (digits 8 c.0)) ∙ ap (λ (t : List ℕ). t ++ digits 8 c.0) (sym b.digits_are) ∙ sym (digits-append 8 b.packed c.0) ∙ ap (digits 8) c.2 ∙ digits-append 8 packed c.1 in
    let long : length (map digit before) ≡ k = length-map before digit in
    let front : map digit before ≡ take k (digits 8 packed) =
    sym (take-append_seam (map digit before) (b.more ++ digits 8 c.0)) ∙ ap (λ (n : ℕ). take n (map digit before ++ (b.more ++ digits 8 c.0))) long ∙ ap (take k) all ∙ take-append-le k (digits 8 packed) (digits 8 c.1) le in
    record {
      packed = packed;
      runs = runs;
      more = rest;
      digits_are = sym (take-append-drop k (digits 8 packed)) ∙ (λ i. sym front i ++ behind i) ∙ sym (append_assoc (map digit before) (map digit more) rest) ∙ ap (λ (t : List ℕ). t ++ rest) (sym (map-append digit before more));
    }

bits_whole : (bytes : List ℕ) (offset skip k : ℕ) (r : Bits) → BitsAt bytes offset skip 0 r → LeadsToBit bytes offset skip 0 k → BitsBehind bytes k r
bits_whole bytes offset skip k r h leads =
    let s = h.seeks.1 in
    let p = passed_by IsByteRun byte_laws bytes offset skip (bytes_needed skip 0) r.bytes.start s.len r.bytes.at h.left (omega arith) (omega arith) s.passes s.at_is h.last in
    let none = h.holds.0 in
    let w = bytes_of bytes offset skip leads.whole r.bytes p.0 h.left h.bytes_are h.holds.1 leads.byte p.1 p.2 in
    record {
      meets = λ n f met. elim met [
        | inl m ↦
            let count : leads.whole + packed_len 1 (n - r.left) ≡ packed_len 1 (k + n) = omega (arith, none, leads.number_is) in
            subst (λ (i : ℕ). StopsWithin IsByteRun NoByteRun i bytes f) count (w.meets (packed_len 1 (n - r.left)) f m)
        | inr m ↦ absurd (omega (arith, m.0, none))
      ];
      first = λ before more long b read.
          let packed : List ℕ = w.passed ++ read.packed in
          let size : length (digits 8 w.passed) ≡ length before = omega (arith, length-digits 8 w.passed, w.counted, leads.number_is, long) in
          let parts : digits 8 packed ≡ digits 8 w.passed ++ digits 8 read.packed = digits-append 8 w.passed read.packed in
          let place : length before ≡ length (digits 8 w.passed) + 0 = omega (arith, size) in
          let behind : drop (length before) (digits 8 packed) ≡ digits 8 read.packed =
          ap (drop (length before)) parts ∙ ap (λ (n : ℕ). drop n (digits 8 w.passed ++ digits 8 read.packed)) place ∙ drop-append-add (digits 8 w.passed) (digits 8 read.packed) 0 in
          bools_more bytes packed read.more before more b (w.first read.packed read.bytes) (omega (arith, ap length parts, length-append (digits 8 w.passed) (digits 8 read.packed), size))
          (behind ∙ sym (no_digit r.held r.left (digits 8 read.packed) none) ∙ read.digits_are);
    }

bits_held : (bytes left : List ℕ) (offset skip b k : ℕ) (r : Bits) → r.bytes.bytes.now ≡ bytes → SeeksBits bytes offset skip (suc b) r.bytes.at left → HoldsFirst left (suc b) r → IsLastRun IsByteRun bytes offset r.bytes.start r.bytes.at
    → LeadsToBit bytes offset skip (suc b) k → BitsBehind bytes k r
bits_held bytes [] offset skip b k r e seeks holds last leads = absurd holds
bits_held bytes (byte ∷ rest) offset skip b k r e seeks holds last leads =
    let s = seeks.1 in
    let p = passed_by IsByteRun byte_laws bytes offset skip (bytes_needed skip (suc b)) r.bytes.start s.len r.bytes.at (byte ∷ rest) (omega arith) (omega arith) s.passes s.at_is last in
    let q = passed_more IsByteRun bytes offset r.bytes.start r.bytes.at p.0 rest byte p.2 in
    let n = leads.byte in
    let one_more : LeadsTo IsByteRun bytes offset (skip + 1) (leads.whole + 1) =
    record { front = n.front; rest = n.rest; before = n.before; parts = n.parts; stream = n.stream; offset_is = n.offset_is; number_is = omega (arith, n.number_is) } in
    let w = bytes_of bytes offset (skip + 1) (leads.whole + 1) r.bytes (p.0 ++ byte ∷ []) rest e holds.2 one_more (omega (arith, p.1, length-append p.0 (byte ∷ []))) q in
    record {
      meets = λ m f met. elim met [
        | inl m' ↦
            let count : (leads.whole + 1) + packed_len 1 (m - r.left) ≡ packed_len 1 (k + m) = omega (arith, holds.1, leads.number_is, leads.few) in
            subst (λ (i : ℕ). StopsWithin IsByteRun NoByteRun i bytes f) count (w.meets (packed_len 1 (m - r.left)) f m')
        | inr m' ↦ absurd (omega (arith, m'.0, holds.1))
      ];
      first = λ before more long begun read.
          let u : List ℕ = n.before ++ p.0 in
          let packed : List ℕ = w.passed ++ read.packed in
          let cut : packed ≡ u ++ (byte ∷ read.packed) = ap (λ (t : List ℕ). t ++ read.packed) (sym (append_assoc n.before p.0 (byte ∷ []))) ∙ append_assoc u (byte ∷ []) read.packed in
          let whole : length (digits 8 u) ≡ 8 * leads.whole = omega (arith, length-digits 8 u, length-append n.before p.0, p.1, n.number_is) in
          let parts : digits 8 packed ≡ digits 8 u ++ digits 8 (byte ∷ read.packed) = ap (digits 8) cut ∙ digits-append 8 u (byte ∷ read.packed) in
          let place : length before ≡ length (digits 8 u) + suc b = omega (arith, whole, long, leads.number_is) in
          let held : bits byte (8 - suc b) ≡ bits r.held r.left = (λ i. bits (sym holds.0 i) (sym holds.1 i)) in
          let behind : drop (length before) (digits 8 packed) ≡ map digit more ++ read.more =
          ap (drop (length before)) parts ∙ ap (λ (i : ℕ). drop i (digits 8 u ++ digits 8 (byte ∷ read.packed))) place ∙ drop-append-add (digits 8 u) (digits 8 (byte ∷ read.packed)) (suc b)
          ∙ held_digits byte (suc b) read.packed leads.few ∙ ap (λ (t : List ℕ). t ++ digits 8 read.packed) held ∙ read.digits_are in
          let size : length before ≤ length (digits 8 packed) = omega (arith, place, leads.few, ap length parts, length-append (digits 8 u) (digits 8 (byte ∷ read.packed)), length-digits 8 (byte ∷ read.packed)) in
          bools_more bytes packed read.more before more begun (w.first read.packed read.bytes) size behind;
    }

pub bits_behind : (bytes : List ℕ) (offset skip b k : ℕ) (r : Bits) → BitsAt bytes offset skip b r → LeadsToBit bytes offset skip b k → BitsBehind bytes k r
bits_behind bytes offset skip zero k r h leads = bits_whole bytes offset skip k r h leads
bits_behind bytes offset skip (suc b) k r h leads = bits_held bytes h.left offset skip b k r h.bytes_are h.seeks h.holds h.last leads

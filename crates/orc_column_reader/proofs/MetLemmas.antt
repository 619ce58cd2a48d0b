-- A fault that is met after a value was read was met before, by kinds of values.
use Rattle.std.proofs.Common.{◌≡◌, ℕ, suc, ◌+◌, ◌-◌, ◌/◌, ◌<◌, ℤ, pos, negsuc, Bool, true, false, Option, Some, None, List, [], ◌∷◌, ◌++◌, length, drop, refl, sym, ap, ◌∙◌, subst, inl, inr, ◌⊎◌, length-append, arith}
use Rattle.std.specs.Str.{is_utf8}
use Rattle.orc_rle.specs.declared.fault.RunFault.{RunFault}
use Rattle.orc_column_reader.specs.declared.bits.Bits.{Bits}
use Rattle.orc_column_reader.specs.declared.bytes.RunLengthBytes.{RunLengthBytes}
use Rattle.orc_column_reader.specs.declared.column.ValueSource.{ValueSource}
use Rattle.orc_directory.specs.declared.fault.StreamKind.{StreamKind}
use Rattle.orc_directory.specs.declared.fault.StreamKind.TheVariants as stream
use Rattle.orc_directory.specs.declared.fault.StripeFault.{StripeFault}
use Rattle.orc_directory.specs.declared.fault.StripeFault.TheVariants as fault
use Rattle.orc_column_reader.specs.declared.numbers.Numbers.{Numbers}
use Rattle.orc_column_reader.specs.declared.octets.Octets.{Octets}
use Rattle.orc_bits.specs.Packed.{bits, digits, packed_len}
use Rattle.orc_rle.specs.ByteRun.{IsByteRun}
use Rattle.orc_column_reader.specs.Columns.{MarksFirst}
use Rattle.orc_column_reader.specs.Faults.{RunsFail}
use Rattle.orc_column_reader.specs.Fronts.{Leaves, Precedes}
use Rattle.orc_column_reader.specs.Numbers.{is_run, NumbersLeft, NumbersFirst}
use Rattle.orc_column_reader.specs.Octets.{OctetsLeft}
use Rattle.orc_column_reader.specs.ReaderFaults.{IntsMeet, StringsMeet, TextMeets, IndexesMeet, ListsMeet}
use Rattle.orc_column_reader.specs.RunFaults.{Always}
use Rattle.orc_column_reader.specs.RunsMet.{NumbersMeet, BytesMeet, BitsMeet}
use Rattle.orc_column_reader.specs.ValueFaults.{is_index, names_text}
use Rattle.orc_column_reader.proofs.FirstLemmas.{nothing_first, not_all_before, not_all_now, pass_before, pass_now, pass_negative, below_before, below_now, no_text_before, no_text_now}
use Rattle.orc_column_reader.proofs.NeedLemmas.{runs_more}

pub none_first : (r : Numbers) → NumbersFirst r []
none_first r = nothing_first (is_run r.version r.sign) (drop r.used r.run.values) (drop r.at r.bytes.now)

-- no mark comes first
pub none_marks : (present : Option Bits) → MarksFirst present []
none_marks None = refl
none_marks (Some r) = record {
  packed = [];
  bytes = nothing_first IsByteRun (drop r.bytes.used r.bytes.run.values) (drop r.bytes.at r.bytes.bytes.now);
  more = bits r.held r.left ++ digits 8 [];
  digits_are = refl;
}

-- ---- runs

pub bits_byte : (r : Bits) (b : RunLengthBytes) (held n : ℕ) (f : RunFault) → r.left ≡ 0 → ((m : ℕ) (g : RunFault) → BytesMeet b m g → BytesMeet r.bytes (suc m) g) → BitsMeet (record { bytes = b; held = held; left = 7 }) n f → BitsMeet r (suc n) f
bits_byte r b held n f none p (inl h) =
    let e : suc (packed_len 1 (n - 7)) ≡ packed_len 1 (suc n - r.left) = omega (arith, none) in
    inl (subst (λ k. BytesMeet r.bytes k f) e (p (packed_len 1 (n - 7)) f h))
bits_byte r b held n f none p (inr h) = absurd (omega (arith, h.0))

pub bits_digit : (r : Bits) (w n : ℕ) (f : RunFault) → r.left ≡ suc w → BitsMeet (record { bytes = r.bytes; held = r.held; left = w }) n f → BitsMeet r (suc n) f
bits_digit r w n f is (inl h) =
    let e : n - w ≡ suc n - r.left = omega (arith, is) in
    inl (subst (λ k. BytesMeet r.bytes (packed_len 1 k) f) e h)
bits_digit r w n f is (inr h) = inr (omega (arith, is, h.0), h.1)

-- with no digit held, a boolean more is a byte more
pub bits_now : (r : Bits) (f : RunFault) → r.left ≡ 0 → ((m : ℕ) → BytesMeet r.bytes (suc m) f) → (n : ℕ) → BitsMeet r (suc n) f
bits_now r f none h n =
    let e : suc (n / 8) ≡ packed_len 1 (suc n - r.left) = omega (arith, none) in
    inl (subst (λ k. BytesMeet r.bytes k f) e (h (n / 8)))

pub bits_over : (r : Bits) (f : RunFault) → BytesMeet r.bytes 0 f → BitsMeet r 0 f
bits_over r f h =
    let e : 0 ≡ packed_len 1 (0 - r.left) = omega arith in
    inl (subst (λ k. BytesMeet r.bytes k f) e h)

-- ---- numbers

pub ints_before : (fits : ℤ → Bool) (r r' : Numbers) (all : Bool) (m column : ℕ) (n : ℤ) (f : StripeFault) → ((m : ℕ) (g : RunFault) → NumbersMeet r' m g → NumbersMeet r (suc m) g) → Precedes (NumbersFirst r) (NumbersFirst r') (n ∷ [])
    → IntsMeet fits r' all m column f → IntsMeet fits r all (suc m) column f
ints_before fits r r' all m column n f e p (inl h) = inl (runs_more stream.Data column all m (NumbersMeet r') (NumbersMeet r) f e h)
ints_before fits r r' all m column n f e p (inr h) = inr (h.0, not_all_before fits (NumbersFirst r) (NumbersFirst r') n p h.1)

pub ints_now : (fits : ℤ → Bool) (r r' : Numbers) (all : Bool) (m column : ℕ) (n : ℤ) → Precedes (NumbersFirst r) (NumbersFirst r') (n ∷ []) → (fits n ≡ true → ⊥) → IntsMeet fits r all m column (fault.OutOfRange column)
ints_now fits r r' all m column n p bad = inr (refl, not_all_now fits (NumbersFirst r) (NumbersFirst r') n p (none_first r') bad)

-- ---- words

pub words_before : (entries : List (List ℕ)) (r r' : Numbers) (all : Bool) (m column : ℕ) (n : ℤ) (f : StripeFault) → ((m : ℕ) (g : RunFault) → NumbersMeet r' m g → NumbersMeet r (suc m) g) → Precedes (NumbersFirst r) (NumbersFirst r') (n ∷ [])
    → IndexesMeet entries r' all m column f → IndexesMeet entries r all (suc m) column f
words_before entries r r' all m column n f e p (inl h) = inl (runs_more stream.Data column all m (NumbersMeet r') (NumbersMeet r) f e h)
words_before entries r r' all m column n f e p (inr (inl h)) = inr (inl (h.0, not_all_before (is_index (length entries)) (NumbersFirst r) (NumbersFirst r') n p h.1))
words_before entries r r' all m column n f e p (inr (inr h)) = inr (inr (h.0, not_all_before (names_text entries) (NumbersFirst r) (NumbersFirst r') n p h.1))

no_pass : (b : Bool) → b ≡ false → b ≡ true → ⊥
no_pass b p q = let e : false ≡ true = sym p ∙ q in cc

pub words_now : (entries : List (List ℕ)) (r r' : Numbers) (all : Bool) (m column : ℕ) (n : ℤ) (f : StripeFault) → Precedes (NumbersFirst r) (NumbersFirst r') (n ∷ [])
    → ((f ≡ fault.BadIndex column) × (is_index (length entries) n ≡ false)) ⊎ ((f ≡ fault.NotUtf8 column stream.DictionaryData) × (names_text entries n ≡ false)) → IndexesMeet entries r all m column f
words_now entries r r' all m column n f p (inl h) = inr (inl (h.0, not_all_now (is_index (length entries)) (NumbersFirst r) (NumbersFirst r') n p (none_first r') (no_pass (is_index (length entries) n) h.1)))
words_now entries r r' all m column n f p (inr h) = inr (inr (h.0, not_all_now (names_text entries) (NumbersFirst r) (NumbersFirst r') n p (none_first r') (no_pass (names_text entries n) h.1)))

-- ---- groups

front_length : (bytes front rest : List ℕ) → bytes ≡ front ++ rest → length bytes ≡ length front + length rest
front_length bytes front rest e = ap length e ∙ length-append front rest

pub octets_front : (o o' : Octets) (front : List ℕ) → Leaves (OctetsLeft o) (OctetsLeft o') front → o.rest.now ≡ front ++ o'.rest.now
octets_front o o' front p = sym (p.found o'.rest.now refl)

pub groups_before : (kind : StreamKind) (r r' : Numbers) (o o' : Octets) (all : Bool) (m column : ℕ) (front : List ℕ) (f : StripeFault) → ((m : ℕ) (g : RunFault) → NumbersMeet r' m g → NumbersMeet r (suc m) g)
    → Precedes (NumbersFirst r) (NumbersFirst r') (pos (length front) ∷ []) → Leaves (NumbersLeft r) (NumbersLeft r') (pos (length front) ∷ []) → o.rest.now ≡ front ++ o'.rest.now
    → StringsMeet kind r' o' all m column f → StringsMeet kind r o all (suc m) column f
groups_before kind r r' o o' all m column front f e p l b (inl h) = inl (runs_more stream.Length column all m (NumbersMeet r') (NumbersMeet r) f e h)
groups_before kind r r' o o' all m column front f e p l b (inr (is, inl h)) =
    inr (is, inl (pass_before (length front) (length o.rest.now) (length o'.rest.now) (NumbersFirst r) (NumbersFirst r') (front_length o.rest.now front o'.rest.now b) p h))
groups_before kind r r' o o' all m column front f e p l b (inr (is, inr h)) =
    inr (is, inr (below_before (length front) (length o.rest.now) (length o'.rest.now) (NumbersLeft r) (NumbersLeft r') (front_length o.rest.now front o'.rest.now b) l.found h))

pub groups_short : (kind : StreamKind) (r r' : Numbers) (o : Octets) (all : Bool) (m column size : ℕ) → Precedes (NumbersFirst r) (NumbersFirst r') (pos size ∷ []) → length o.rest.now < size → StringsMeet kind r o all m column (fault.LengthSum column kind)
groups_short kind r r' o all m column size p lt = inr (refl, inl (pass_now size (length o.rest.now) (NumbersFirst r) (NumbersFirst r') lt p (none_first r')))

pub groups_negative : (kind : StreamKind) (r r' : Numbers) (o : Octets) (all : Bool) (m column k : ℕ) → Precedes (NumbersFirst r) (NumbersFirst r') (negsuc k ∷ []) → StringsMeet kind r o all m column (fault.LengthSum column kind)
groups_negative kind r r' o all m column k p = inr (refl, inl (pass_negative k (length o.rest.now) (NumbersFirst r) (NumbersFirst r') p (none_first r')))

pub groups_over : (kind : StreamKind) (r : Numbers) (o : Octets) (all : Bool) (m column : ℕ) → NumbersLeft r [] → (OctetsLeft o [] → ⊥) → StringsMeet kind r o all m column (fault.LengthSum column kind)
groups_over kind r o all m column none some = inr (refl, inr (below_now (NumbersLeft r) o.rest.now none (λ e. some (sym e))))

-- ---- texts

pub text_before : (r r' : Numbers) (o o' : Octets) (all : Bool) (m column : ℕ) (front : List ℕ) (f : StripeFault) → Precedes (NumbersFirst r) (NumbersFirst r') (pos (length front) ∷ []) → o.rest.now ≡ front ++ o'.rest.now
    → (StringsMeet stream.Data r' o' all m column f → StringsMeet stream.Data r o all (suc m) column f) → TextMeets r' o' all m column f → TextMeets r o all (suc m) column f
text_before r r' o o' all m column front f p b q (inl h) = inl (q h)
text_before r r' o o' all m column front f p b q (inr h) = inr (h.0, no_text_before (NumbersFirst r) (NumbersFirst r') front o.rest.now o'.rest.now p b h.1)

pub text_now : (r r' : Numbers) (o o' : Octets) (all : Bool) (m column : ℕ) (front : List ℕ) → Precedes (NumbersFirst r) (NumbersFirst r') (pos (length front) ∷ []) → o.rest.now ≡ front ++ o'.rest.now → (is_utf8 front ≡ true → ⊥)
    → TextMeets r o all m column (fault.NotUtf8 column stream.Data)
text_now r r' o o' all m column front p b bad = inr (refl, no_text_now (NumbersFirst r) (NumbersFirst r') front o.rest.now o'.rest.now p (none_first r') b bad)

-- ---- lists

pub lists_before : (a b : ValueSource) (all : Bool) (m size : ℕ) (f : StripeFault) → b.column ≡ a.column → ((m : ℕ) (g : RunFault) → NumbersMeet b.numbers m g → NumbersMeet a.numbers (suc m) g) → Precedes (NumbersFirst a.numbers) (NumbersFirst b.numbers) (pos size ∷ []) → a.room ≡ size + b.room
    → ListsMeet b all m f → ListsMeet a all (suc m) f
lists_before a b all m size f c e p room (inl h) =
    inl (subst (λ k. RunsFail stream.Length k (Always all (suc m) (NumbersMeet a.numbers)) f) c (runs_more stream.Length b.column all m (NumbersMeet b.numbers) (NumbersMeet a.numbers) f e h))
lists_before a b all m size f c e p room (inr h) = inr (h.0 ∙ ap (λ k. fault.TooMany k) c, pass_before size a.room b.room (NumbersFirst a.numbers) (NumbersFirst b.numbers) room p h.1)

pub lists_over : (a : ValueSource) (r' : Numbers) (all : Bool) (m size : ℕ) → Precedes (NumbersFirst a.numbers) (NumbersFirst r') (pos size ∷ []) → a.room < size → ListsMeet a all m (fault.TooMany a.column)
lists_over a r' all m size p lt = inr (refl, pass_now size a.room (NumbersFirst a.numbers) (NumbersFirst r') lt p (none_first r'))

pub lists_negative : (a : ValueSource) (r' : Numbers) (all : Bool) (m k : ℕ) → Precedes (NumbersFirst a.numbers) (NumbersFirst r') (negsuc k ∷ []) → ListsMeet a all m (fault.TooMany a.column)
lists_negative a r' all m k p = inr (refl, pass_negative k a.room (NumbersFirst a.numbers) (NumbersFirst r') p (none_first r'))

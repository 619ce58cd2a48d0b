-- Positions of one stream of runs, and what comes from there on.
use Rattle.std.proofs.Common.{◌≡◌, ℕ, ◌≤◌, List, [], ◌∷◌, length, get_or, sym, ap, ◌∙◌, subst}
use Rattle.orc_rle.specs.ByteRun.{IsByteRun}
use Rattle.orc_rle.specs.Stream.{IsStream}
use Rattle.orc_rle.specs.declared.sign.Sign.{Sign}
use Rattle.orc_positions.specs.Position.{Begins}
use Rattle.orc_positions.specs.BitPosition.{BeginsBits}
use Rattle.orc_rle.specs.declared.sign.Rle.{Rle}
use Rattle.orc_column_reader.specs.declared.bits.Bits.{Bits}
use Rattle.orc_column_reader.specs.declared.bytes.RunLengthBytes.{RunLengthBytes}
use Rattle.orc_column_reader.specs.declared.numbers.Numbers.{Numbers}
use Rattle.orc_column_reader.specs.Bits.{BitsLeft}
use Rattle.orc_column_reader.specs.Bytes.{BytesLeft}
use Rattle.orc_column_reader.specs.Numbers.{is_run, NumbersLeft}
use Rattle.orc_row_index.specs.Positions.{RunPosition, BitsPosition}
use Rattle.orc_row_index.specs.RunStreams.{no_stream, bit_runs, byte_runs, number_runs}
use Rattle.orc_group_reader.specs.Entering.{AgreeFrom, EntersRuns, EntersBits}
use Rattle.orc_group_reader.specs.Streams.{Enters, NeverEnters}
use Rattle.orc_group_reader.specs.declared.entered.Entered.TheVariants as entered

-- two numbers that are a position
pub same_two : (o s p t : ℕ) → o ∷ s ∷ [] ≡ p ∷ t ∷ [] → (o ≡ p) × (s ≡ t)
same_two o s p t e = (cc, cc)

pub same_three : (o s b p t c : ℕ) → o ∷ s ∷ b ∷ [] ≡ p ∷ t ∷ c ∷ [] → (o ≡ p) × (s ≡ t) × (b ≡ c)
same_three o s b p t c e = (cc, cc, cc)

-- a position of a stream of runs, by the numbers that it was made of
run_at : {A : Type 0} (R : List ℕ → List A → Type 0) (bytes other ps : List ℕ) (o s n : ℕ) → ps ≡ o ∷ s ∷ [] → RunPosition (Begins R other) n ps → AgreeFrom (get_or ps 0 0) bytes other
    → Begins R other o s n × AgreeFrom o bytes other
run_at R bytes other ps o s n e h agree =
    let same = same_two o s h.0 h.1 (sym e ∙ h.2) in
    let first : get_or ps 0 0 ≡ o = ap (λ (t : List ℕ). get_or t 0 0) e in (
      subst (λ (k : ℕ). Begins R other k s n) (sym same.0) (subst (λ (k : ℕ). Begins R other h.0 k n) (sym same.1) h.3),
      subst (λ (k : ℕ). AgreeFrom k bytes other) first agree,
    )

bit_at : (bytes other ps : List ℕ) (o s b n total : ℕ) → ps ≡ o ∷ s ∷ b ∷ [] → n ≤ total → BitsPosition (BeginsBits other n) n ps → AgreeFrom (get_or ps 0 0) bytes other → BeginsBits other total o s b n × AgreeFrom o bytes other
bit_at bytes other ps o s b n total e le h agree =
    let same = same_three o s b h.0 h.1 h.2 (sym e ∙ h.3) in
    let first : get_or ps 0 0 ≡ o = ap (λ (t : List ℕ). get_or t 0 0) e in
    let there = h.4 in
    let found : BeginsBits other total h.0 h.1 h.2 n = record { whole = there.whole; begins = there.begins; few = there.few; number_is = there.number_is; there = le } in (
      subst (λ (k : ℕ). BeginsBits other total k s b n) (sym same.0) (subst (λ (k : ℕ). BeginsBits other total h.0 k b n) (sym same.1) (subst (λ (k : ℕ). BeginsBits other total h.0 h.1 k n) (sym same.2) found)),
      subst (λ (k : ℕ). AgreeFrom k bytes other) first agree,
    )

-- ---- integers

pub numbers_enter : (v : Rle) (t : Sign) (bytes ps : List ℕ) (o s : ℕ) (r : Numbers) → ps ≡ o ∷ s ∷ [] → EntersRuns (is_run v t) bytes o s (NumbersLeft r) → Enters (number_runs v t bytes) ps (entered.Numbers r)
numbers_enter v t bytes ps o s r e enters no_stream n h agree = absurd agree
numbers_enter v t bytes ps o s r e enters (bit_runs b) n h agree = absurd agree
numbers_enter v t bytes ps o s r e enters (byte_runs b) n h agree = absurd agree
numbers_enter v t bytes ps o s r e enters (number_runs w u b) n h agree = λ all stream.
    let place = subst (λ (k : Rle). RunPosition (Begins (is_run k t) b) n ps) (sym agree.0) (subst (λ (k : Sign). RunPosition (Begins (is_run w k) b) n ps) (sym agree.1) h) in
    let is = subst (λ (k : Rle). IsStream (is_run k t) b all) (sym agree.0) (subst (λ (k : Sign). IsStream (is_run w k) b all) (sym agree.1) stream) in
    let at = run_at (is_run v t) bytes b ps o s n e place agree.2 in
    enters b all n at.0 is at.1

pub numbers_never : (v : Rle) (t : Sign) (bytes ps : List ℕ) (o s : ℕ) → ps ≡ o ∷ s ∷ [] → EntersRuns (is_run v t) bytes o s (λ _. ⊥) → NeverEnters (number_runs v t bytes) ps
numbers_never v t bytes ps o s e enters no_stream n h agree has = absurd agree
numbers_never v t bytes ps o s e enters (bit_runs b) n h agree has = absurd agree
numbers_never v t bytes ps o s e enters (byte_runs b) n h agree has = absurd agree
numbers_never v t bytes ps o s e enters (number_runs w u b) n h agree has =
    let place = subst (λ (k : Rle). RunPosition (Begins (is_run k t) b) n ps) (sym agree.0) (subst (λ (k : Sign). RunPosition (Begins (is_run w k) b) n ps) (sym agree.1) h) in
    let is = subst (λ (k : Rle). IsStream (is_run k t) b has.0) (sym agree.0) (subst (λ (k : Sign). IsStream (is_run w k) b has.0) (sym agree.1) has.1) in
    let at = run_at (is_run v t) bytes b ps o s n e place agree.2 in
    enters b has.0 n at.0 is at.1

-- numbers that are no two are no position of runs
pub numbers_none : (v : Rle) (t : Sign) (bytes ps : List ℕ) → ((o s : ℕ) → ps ≡ o ∷ s ∷ [] → ⊥) → NeverEnters (number_runs v t bytes) ps
numbers_none v t bytes ps none no_stream n h agree has = absurd agree
numbers_none v t bytes ps none (bit_runs b) n h agree has = absurd agree
numbers_none v t bytes ps none (byte_runs b) n h agree has = absurd agree
numbers_none v t bytes ps none (number_runs w u b) n h agree has = none h.0 h.1 h.2

-- ---- bytes

pub bytes_enter : (bytes ps : List ℕ) (o s : ℕ) (r : RunLengthBytes) → ps ≡ o ∷ s ∷ [] → EntersRuns IsByteRun bytes o s (BytesLeft r) → Enters (byte_runs bytes) ps (entered.Bytes r)
bytes_enter bytes ps o s r e enters no_stream n h agree = absurd agree
bytes_enter bytes ps o s r e enters (bit_runs b) n h agree = absurd agree
bytes_enter bytes ps o s r e enters (byte_runs b) n h agree = λ all stream. let at = run_at IsByteRun bytes b ps o s n e h agree in enters b all n at.0 stream at.1
bytes_enter bytes ps o s r e enters (number_runs w u b) n h agree = absurd agree

pub bytes_never : (bytes ps : List ℕ) (o s : ℕ) → ps ≡ o ∷ s ∷ [] → EntersRuns IsByteRun bytes o s (λ _. ⊥) → NeverEnters (byte_runs bytes) ps
bytes_never bytes ps o s e enters no_stream n h agree has = absurd agree
bytes_never bytes ps o s e enters (bit_runs b) n h agree has = absurd agree
bytes_never bytes ps o s e enters (byte_runs b) n h agree has = let at = run_at IsByteRun bytes b ps o s n e h agree in enters b has.0 n at.0 has.1 at.1
bytes_never bytes ps o s e enters (number_runs w u b) n h agree has = absurd agree

pub bytes_none : (bytes ps : List ℕ) → ((o s : ℕ) → ps ≡ o ∷ s ∷ [] → ⊥) → NeverEnters (byte_runs bytes) ps
bytes_none bytes ps none no_stream n h agree has = absurd agree
bytes_none bytes ps none (bit_runs b) n h agree has = absurd agree
bytes_none bytes ps none (byte_runs b) n h agree has = none h.0 h.1 h.2
bytes_none bytes ps none (number_runs w u b) n h agree has = absurd agree

-- ---- booleans

pub bits_enter : (bytes ps : List ℕ) (o s b : ℕ) (r : Bits) → ps ≡ o ∷ s ∷ b ∷ [] → EntersBits bytes o s b (BitsLeft r) → Enters (bit_runs bytes) ps (entered.Bits r)
bits_enter bytes ps o s b r e enters no_stream n h agree = absurd agree
bits_enter bytes ps o s b r e enters (bit_runs c) n h agree = λ all stream le. let at = bit_at bytes c ps o s b n (length all) e le h agree in enters c all n at.0 stream at.1
bits_enter bytes ps o s b r e enters (byte_runs c) n h agree = absurd agree
bits_enter bytes ps o s b r e enters (number_runs w u c) n h agree = absurd agree

pub bits_never : (bytes ps : List ℕ) (o s b : ℕ) → ps ≡ o ∷ s ∷ b ∷ [] → EntersBits bytes o s b (λ _. ⊥) → NeverEnters (bit_runs bytes) ps
bits_never bytes ps o s b e enters no_stream n h agree has = absurd agree
bits_never bytes ps o s b e enters (bit_runs c) n h agree has = let at = bit_at bytes c ps o s b n (length has.0) e has.2 h agree in enters c has.0 n at.0 has.1 at.1
bits_never bytes ps o s b e enters (byte_runs c) n h agree has = absurd agree
bits_never bytes ps o s b e enters (number_runs w u c) n h agree has = absurd agree

pub bits_none : (bytes ps : List ℕ) → ((o s b : ℕ) → ps ≡ o ∷ s ∷ b ∷ [] → ⊥) → NeverEnters (bit_runs bytes) ps
bits_none bytes ps none no_stream n h agree has = absurd agree
bits_none bytes ps none (bit_runs c) n h agree has = none h.0 h.1 h.2 h.3
bits_none bytes ps none (byte_runs c) n h agree has = absurd agree
bits_none bytes ps none (number_runs w u c) n h agree has = absurd agree

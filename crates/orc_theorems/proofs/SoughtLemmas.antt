-- What callers of `seek` count, at positions from which one run is read at most.
use Rattle.std.proofs.Common.{◌≡◌, ◌∙◌, ◌⊎◌, ℕ, ◌<◌, ◌≤◌, Bool, inl, inr, Option, Some, List, [], ◌∷◌, ◌++◌, length, take, drop, slice_get, get_or, refl, sym, ap, subst, append_assoc, length-append, Result, Ok, arith}
use Rattle.std.specs.Prelude.{◌≢◌, ◌%◌}
use Rattle.std.proofs.lemmas.Option.{slice_get_read}
use Rattle.orc_rle.specs.ByteRun.{IsByteRun}
use Rattle.orc_rle.specs.Seeking.{bytes_needed, Seeks, SeeksBits}
use Rattle.orc_rle.specs.Stream.{AreRuns, IsStream, RunsLeft}
use Rattle.orc_positions.specs.Position.{Begins, GoesOnFrom}
use Rattle.orc_positions.specs.BitPosition.{IsWriterBitPosition, BeginsBits, BitsPending, BitsGoOn}
use Rattle.orc_positions.proofs.BitPositionLemmas.{bit_place_begins}
use Rattle.orc_wire.specs.declared.row_index.RowIndexEntry.{RowIndexEntry}
use Rattle.orc_wire.specs.declared.row_index.RowIndexMsg.{RowIndexMsg}
use Rattle.orc_values.specs.Cells.{Cell, values}
use Rattle.orc_values.specs.Columns.{cells}
use Rattle.orc_values.specs.Shapes.{Shape, width, shape_at}
use Rattle.orc_column_reader.specs.Stripe.{Streams, HasFooter, columns_of}
use Rattle.orc_row_groups.specs.Bounds.{before_group}
use Rattle.orc_row_index.specs.Positions.{RunPosition, BitsPosition, IsPosition, ArePositions, position_size, octets_position, reader}
use Rattle.orc_row_groups.specs.Counts.{octets}
use Rattle.orc_row_index.specs.RunStreams.{RunStream, no_stream, bit_runs, byte_runs, number_runs, present_runs, value_runs, value_bytes}
use Rattle.orc_row_index.specs.Walking.{runs, lent_bytes, ArePlaced}
use Rattle.orc_row_index.specs.declared.placed.PlacedStreams.{PlacedStreams}
use Rattle.orc_row_index.proofs.PositionParts.{front_is, back_is}
use Rattle.orc_row_groups.specs.Groups.{starts_of_groups, bounds_of}
use Rattle.orc_stripe_reader.specs.Opened.{Opened}
use Rattle.orc_stripe_reader.specs.RowIndexes.{HasIndex}
use Rattle.orc_tail.specs.Stripes.{stripe_at, stripe_bytes}
use Rattle.orc_file_reader.specs.FileRows.{opened_stripe, cut_rows}
use Rattle.orc_tail.specs.declared.tail.Tail.{Tail}
use Rattle.orc_tail.specs.declared.fault.FileFault.{FileFault}
use Rattle.orc_tail.specs.declared.fault.FileFault.TheVariants.{Stripe, OutOfMemory}
use Rattle.orc_directory.specs.declared.fault.StripeFault.{StripeFault}
use Rattle.orc_directory.specs.declared.fault.StripeFault.TheVariants as stripe
use Rattle.orc_check.specs.Findings.{rows_at}
use Rattle.orc_theorems.specs.Refusals.{IsSourceFault}
use Rattle.orc_theorems.specs.SoughtGroups.{IsSeekFault}
use Rattle.orc_theorems.specs.OneRunPositions.{SeekCounts, NeedsOneRun, NeedsOneBitRun, IsOneRunPosition, AreOneRunPositions, ColumnReadsOneRun, ReadsOneRun}

-- ---- one stream

pub run_sought : {A : Type 0} (R : List ℕ → List A → Type 0) (bytes ps : List ℕ) (o s n old new : ℕ) → ps ≡ o ∷ s ∷ [] → RunPosition (NeedsOneRun R bytes) n ps → old ≡ 0 → SeekCounts R bytes o s old new → new ≤ 1
run_sought R bytes ps o s n old new e h none k =
    let two : o ∷ s ∷ [] ≡ h.0 ∷ h.1 ∷ [] = sym e ∙ h.2 in
    let offset : o ≡ h.0 = cc in
    let skip : s ≡ h.1 = cc in
    let there : SeekCounts R bytes h.0 h.1 old new = subst (λ (x : ℕ). SeekCounts R bytes x h.1 old new) offset (subst (λ (x : ℕ). SeekCounts R bytes o x old new) skip k) in
    omega (arith, h.3.one_run old new there, none)

pub bit_sought : (bytes ps : List ℕ) (o s b n old new : ℕ) → ps ≡ o ∷ s ∷ b ∷ [] → BitsPosition (NeedsOneBitRun bytes) n ps → old ≡ 0 → SeekCounts IsByteRun bytes o (bytes_needed s b) old new → new ≤ 1
bit_sought bytes ps o s b n old new e h none k =
    let three : o ∷ s ∷ b ∷ [] ≡ h.0 ∷ h.1 ∷ h.2 ∷ [] = sym e ∙ h.3 in
    let offset : o ≡ h.0 = cc in
    let skip : s ≡ h.1 = cc in
    let bits : b ≡ h.2 = cc in
    let need : bytes_needed s b ≡ bytes_needed h.1 h.2 = λ i. bytes_needed (skip i) (bits i) in
    let there : SeekCounts IsByteRun bytes h.0 (bytes_needed h.1 h.2) old new =
    subst (λ (x : ℕ). SeekCounts IsByteRun bytes x (bytes_needed h.1 h.2) old new) offset (subst (λ (x : ℕ). SeekCounts IsByteRun bytes o x old new) need k) in
    omega (arith, h.4.one_run old new there, none)

-- the position names the value
pub begins_there : {A : Type 0} (R : List ℕ → List A → Type 0) (bytes ps : List ℕ) (o s n : ℕ) → ps ≡ o ∷ s ∷ [] → RunPosition (NeedsOneRun R bytes) n ps → Begins R bytes o s n
begins_there R bytes ps o s n e h =
    let two : o ∷ s ∷ [] ≡ h.0 ∷ h.1 ∷ [] = sym e ∙ h.2 in
    let offset : o ≡ h.0 = cc in
    let skip : s ≡ h.1 = cc in
    subst (λ (x : ℕ). Begins R bytes x s n) (sym offset) (subst (λ (x : ℕ). Begins R bytes h.0 x n) (sym skip) h.3.place.begins)

-- streams one after the other
runs_after : {A : Type 0} (R : List ℕ → List A → Type 0) (ps qs : List (List ℕ × List A)) (a b : List ℕ) (v w : List A) → AreRuns R ps a v → AreRuns R qs b w → AreRuns R (ps ++ qs) (a ++ b) (v ++ w)
runs_after {A} R [] qs a b v w h k =
    subst (λ (x : List ℕ). AreRuns R qs (x ++ b) (v ++ w)) (sym h.0) (subst (λ (y : List A). AreRuns R qs b (y ++ w)) (sym h.1) k)
runs_after {A} R (p ∷ ps) qs a b v w h k = (
  h.0 ++ b,
  h.1 ++ w,
  h.2,
  ap (λ (x : List ℕ). x ++ b) h.3 ∙ append_assoc p.0 h.0 b,
  ap (λ (y : List A). y ++ w) h.4 ∙ append_assoc p.1 h.1 w,
  runs_after R ps qs h.0 b h.1 w h.5 k,
)

-- where a position names a value the bytes are a stream
pub stream_there : {A : Type 0} (R : List ℕ → List A → Type 0) (bytes : List ℕ) (o s n : ℕ) → Begins R bytes o s n → (all : List A) × IsStream R bytes all
stream_there {A} R bytes o s n h = (
  h.before ++ h.after,
  subst (λ (x : List ℕ). IsStream R x (h.before ++ h.after)) (sym h.parts)
      (h.stream.0 ++ h.more.0, runs_after R h.stream.0 h.more.0 h.front h.rest h.before h.after h.stream.1 h.more.1),
)

-- what seeking gives that can't fail
pub sought_at : {A E : Type 0} (R : List ℕ → List A → Type 0) (bytes : List ℕ) (o s : ℕ) (r : Result ℕ E) (left after : List A) → GoesOnFrom R bytes o s s after
    → ((at : ℕ) (values : List A) → Seeks R bytes o s s at values → (r ≡ Ok at) × (left ≡ values)) → (at : ℕ) × (r ≡ Ok at) × RunsLeft R left (drop at bytes) after
sought_at {A} R bytes o s r left after g only =
    let done = only g.at g.left g.seeks in
    (g.at, done.0, subst (λ (l : List A). RunsLeft R l (drop g.at bytes) after) (sym done.1) g.goes_on)

-- what a law says of a writer's position
abbrev pub PlaceLaw : Type 0
PlaceLaw = (bytes : List ℕ) (total offset skip bits n : ℕ) → IsWriterBitPosition bytes total offset skip bits n → BeginsBits bytes total offset skip bits n

-- the position names the boolean, of as many as there may be
pub bits_there : PlaceLaw → (bytes ps : List ℕ) (o s b n total : ℕ) → ps ≡ o ∷ s ∷ b ∷ [] → BitsPosition (NeedsOneBitRun bytes) n ps → n ≤ total
    → BeginsBits bytes total o s b n × (b ≡ n % 8)
bits_there law bytes ps o s b n total e h le =
    let three : o ∷ s ∷ b ∷ [] ≡ h.0 ∷ h.1 ∷ h.2 ∷ [] = sym e ∙ h.3 in
    let offset : o ≡ h.0 = cc in
    let skip : s ≡ h.1 = cc in
    let bits : b ≡ h.2 = cc in
    let its : BeginsBits bytes total h.0 h.1 h.2 n = law bytes total h.0 h.1 h.2 n (record { place = h.4.place.place; bits_are = h.4.place.bits_are; there = le }) in (
      subst (λ (x : ℕ). BeginsBits bytes total x s b n) (sym offset) (subst (λ (x : ℕ). BeginsBits bytes total h.0 x b n) (sym skip)
          (subst (λ (x : ℕ). BeginsBits bytes total h.0 h.1 x n) (sym bits) its)),
      bits ∙ h.4.place.bits_are,
    )

pub bits_sought : {E : Type 0} (bytes : List ℕ) (o s b : ℕ) (r : Result ℕ E) (left : List ℕ) (after : List Bool) → BitsGoOn bytes o s b after
    → ((at : ℕ) (values : List ℕ) → SeeksBits bytes o s b at values → (r ≡ Ok at) × (left ≡ values)) → (at : ℕ) × (r ≡ Ok at) × BitsPending left (drop at bytes) b after
bits_sought bytes o s b r left after g only =
    let done = only g.at g.left g.seeks in
    (g.at, done.0, subst (λ (l : List ℕ). BitsPending l (drop g.at bytes) b after) (sym done.1) g.goes_on)

pub bits_lead : (b n : ℕ) (left rest : List ℕ) (all : List Bool) → b ≡ n % 8 → BitsPending left rest b (drop n all) → (more : List ℕ) × BitsPending left more (n % 8) (drop n all)
bits_lead b n left rest all e h = (rest, subst (λ (x : ℕ). BitsPending left rest x (drop n all)) e h)

-- a position has as many numbers as its stream asks for
place_size : (c : RunStream) (n : ℕ) (ps : List ℕ) → IsOneRunPosition c n ps → length ps ≡ position_size c
place_size no_stream n ps h = ap (λ (l : List ℕ). length l) h
place_size (bit_runs b) n ps h = ap (λ (l : List ℕ). length l) h.3
place_size (byte_runs b) n ps h = ap (λ (l : List ℕ). length l) h.2
place_size (number_runs v sign b) n ps h = ap (λ (l : List ℕ). length l) h.2

-- so there are enough for PRESENT
pub long_enough : (s : Shape) (x : Streams) (before : List Cell) (placed : PlacedStreams) (ps : List ℕ) (size : ℕ) → ArePlaced s x placed → AreOneRunPositions s x before ps
    → size ≡ position_size (runs placed.present) → size ≤ length ps
long_enough s x before placed ps size are h e =
    let present : RunStream = present_runs (x.stream 0) in
    let first : length h.first ≡ position_size present = place_size present (length before) h.first h.present_position in
    let rest : List ℕ = octets_position (value_bytes s x) (octets before) ++ h.last in
    let all : length ps ≡ length (h.first ++ rest) = ap (λ (l : List ℕ). length l) h.parts in
    let long : size ≡ position_size present = e ∙ ap position_size are.present_is in
    omega (arith, first, all, long, length-append h.first rest)

-- ---- the streams of a column

stream_begins : (c : RunStream) (n : ℕ) (ps : List ℕ) → IsOneRunPosition c n ps → IsPosition reader c n ps
stream_begins no_stream n ps h = h
stream_begins (bit_runs b) n ps h = (h.0, h.1, h.2, h.3, bit_place_begins b n h.0 h.1 h.2 n (record { place = h.4.place.place; bits_are = h.4.place.bits_are; there = omega arith }))
stream_begins (byte_runs b) n ps h = (h.0, h.1, h.2, h.3.place.begins)
stream_begins (number_runs v sign b) n ps h = (h.0, h.1, h.2, h.3.place.begins)

pub column_sought : (s : Shape) (x : Streams) (before : List Cell) (placed : PlacedStreams) (ps : List ℕ) (size : ℕ) (first last : List ℕ) → ArePlaced s x placed → AreOneRunPositions s x before ps
    → size ≡ position_size (runs placed.present) → first ≡ take size ps → last ≡ drop size ps
    → IsOneRunPosition (runs placed.present) (length before) first
    × ((behind : List ℕ) → ((n : ℕ) (rest : List ℕ) → last ≡ octets_position (lent_bytes placed.content) n ++ rest → behind ≡ rest)
    → IsOneRunPosition (runs placed.own) (length (values before)) behind)
column_sought s x before placed ps size first last are h e f l =
    let present : RunStream = present_runs (x.stream 0) in
    let content : Option (List ℕ) = value_bytes s x in
    let own : RunStream = value_runs s x in
    let b : ArePositions reader present content own before ps = record {
      first = h.first;
      last = h.last;
      parts = h.parts;
      present_position = stream_begins present (length before) h.first h.present_position;
      value_position = stream_begins own (length (values before)) h.last h.value_position;
    } in
    let long : size ≡ position_size present = e ∙ ap position_size are.present_is in
    let front : h.first ≡ take size ps = front_is present content own before ps size long b in
    let back : drop size ps ≡ octets_position content (octets before) ++ h.last = back_is present content own before ps size long b in
    let in_front : IsOneRunPosition present (length before) first = subst (λ (t : List ℕ). IsOneRunPosition present (length before) t) (front ∙ sym f) h.present_position in (
      subst (λ (r : RunStream). IsOneRunPosition r (length before) first) (sym are.present_is) in_front,
      λ behind law.
          let cut : last ≡ octets_position (lent_bytes placed.content) (octets before) ++ h.last = l ∙ back ∙ ap (λ (o : Option (List ℕ)). octets_position o (octets before) ++ h.last) (sym are.content_is) in
          let is : behind ≡ h.last = law (octets before) h.last cut in
          subst (λ (r : RunStream). IsOneRunPosition r (length (values before)) behind) (sym are.own_is)
          (subst (λ (t : List ℕ). IsOneRunPosition own (length (values before)) t) (sym is) h.value_position),
    )

-- ---- a group of a column

-- the positions of its entry, as they are read
pub entry_reads : (view : Opened) (rows : List Cell) (c g : ℕ) (message : RowIndexMsg) (entries : List RowIndexEntry) (entry : RowIndexEntry) (positions : List ℕ) → ColumnReadsOneRun view rows c
    → HasIndex view.footer view.bytes c message → entries ≡ message.entries → g < length entries → entry ≡ get_or entries g entry → positions ≡ entry.positions
    → AreOneRunPositions (shape_at view.schema c) (columns_of view.footer view.bytes c) (before_group (cells view.schema c rows) (bounds_of view.schema c rows (starts_of_groups view.stride (length rows))) g) positions
entry_reads view rows c g message entries entry positions reads has same lt is at =
    let there : slice_get message.entries g ≡ Some entry = ap (λ (es : List RowIndexEntry). slice_get es g) (sym same) ∙ slice_get_read entries (length entries) g entry refl lt is in
    subst (λ (ps : List ℕ). AreOneRunPositions (shape_at view.schema c) (columns_of view.footer view.bytes c) (before_group (cells view.schema c rows) (bounds_of view.schema c rows (starts_of_groups view.stride (length rows))) g) ps)
    (sym at) (reads message has g entry there)

-- the entry that was read is the one that is there
pub same_positions : (told entries : List RowIndexEntry) (g : ℕ) (entry read : RowIndexEntry) (positions : List ℕ) → entries ≡ told → g < length entries → read ≡ get_or entries g read
    → positions ≡ read.positions → slice_get told g ≡ Some entry → positions ≡ entry.positions
same_positions told entries g entry read positions same lt is at there =
    let found : slice_get entries g ≡ Some read = slice_get_read entries (length entries) g read refl lt is in
    let both : Some read ≡ Some entry = sym found ∙ ap (λ (es : List RowIndexEntry). slice_get es g) same ∙ there in
    let one : read ≡ entry = cc in
    at ∙ ap (λ (e : RowIndexEntry). e.positions) one

-- ---- a stripe of a file, as it is opened

pub view_is : (bytes own : List ℕ) (tail opened : Tail) (n : ℕ) (view : Opened) → opened ≡ tail
    → own ≡ stripe_bytes (stripe_at opened.stripes n) bytes → HasFooter opened.schema (stripe_at opened.stripes n) own view.footer
    → (view.schema ≡ opened.schema) × (view.info ≡ stripe_at opened.stripes n) × (view.stride ≡ opened.stride) × (view.bytes ≡ own)
    → (view ≡ opened_stripe tail n (stripe_bytes (stripe_at tail.stripes n) bytes) view.footer)
    × HasFooter tail.schema (stripe_at tail.stripes n) (stripe_bytes (stripe_at tail.stripes n) bytes) view.footer
view_is bytes own tail opened n view e is found same =
    let schema : view.schema ≡ tail.schema = same.0 ∙ ap (λ (t : Tail). t.schema) e in
    let info : view.info ≡ stripe_at tail.stripes n = same.1 ∙ ap (λ (t : Tail). stripe_at t.stripes n) e in
    let stride : view.stride ≡ tail.stride = same.2 ∙ ap (λ (t : Tail). t.stride) e in
    let text : view.bytes ≡ stripe_bytes (stripe_at tail.stripes n) bytes = same.3 ∙ is ∙ ap (λ (t : Tail). stripe_bytes (stripe_at t.stripes n) bytes) e in (
      λ i. record { schema = schema i; info = info i; stride = stride i; bytes = text i; footer = view.footer },
      subst (λ (t : Tail). HasFooter t.schema (stripe_at t.stripes n) (stripe_bytes (stripe_at t.stripes n) bytes) view.footer) e
          (subst (λ (b : List ℕ). HasFooter opened.schema (stripe_at opened.stripes n) b view.footer) is found),
    )

-- ---- why a group isn't found

pub load_fault : (tail : Tail) (n : ℕ) (fault : FileFault) → IsSourceFault fault → IsSeekFault tail n fault
load_fault tail n fault (inl memory) = inr (inl memory)
load_fault tail n fault (inr source) = inr (inr (inl source))

pub view_fault : (tail : Tail) (n : ℕ) (fault : FileFault) (P : StripeFault → Type 0) → n < length tail.stripes
    → (fault ≡ OutOfMemory) ⊎ ((why : StripeFault) × (fault ≡ Stripe n why) × (why ≢ stripe.OutOfMemory) × P why) → IsSeekFault tail n fault
view_fault tail n fault P there (inl memory) = inr (inl memory)
view_fault tail n fault P there (inr h) = inr (inr (inr (there, (h.0, h.1))))

pub stripe_fault_is : (tail : Tail) (n : ℕ) (cause : StripeFault) (fault : FileFault) → n < length tail.stripes
    → ((cause ≡ stripe.OutOfMemory) × (fault ≡ OutOfMemory)) ⊎ ((cause ≢ stripe.OutOfMemory) × (fault ≡ Stripe n cause)) → IsSeekFault tail n fault
stripe_fault_is tail n cause fault there (inl memory) = inr (inl memory.1)
stripe_fault_is tail n cause fault there (inr other) = inr (inr (inr (there, (cause, other.1))))

-- a stripe that is refused for memory alone
pub memory_fault : (n : ℕ) (cause : StripeFault) (fault : FileFault) → cause ≡ stripe.OutOfMemory
    → ((cause ≡ stripe.OutOfMemory) × (fault ≡ OutOfMemory)) ⊎ ((cause ≢ stripe.OutOfMemory) × (fault ≡ Stripe n cause)) → IsSourceFault fault
memory_fault n cause fault e (inl memory) = inl memory.1
memory_fault n cause fault e (inr other) = absurd (other.0 e)

-- ---- what is read of a stripe's view

pub view_reads : (bytes own : List ℕ) (tail opened : Tail) (rows : List Cell) (n : ℕ) (view : Opened) → ReadsOneRun bytes tail rows → opened ≡ tail → n < length opened.stripes
    → own ≡ stripe_bytes (stripe_at opened.stripes n) bytes → HasFooter opened.schema (stripe_at opened.stripes n) own view.footer
    → (view.schema ≡ opened.schema) × (view.info ≡ stripe_at opened.stripes n) × (view.stride ≡ opened.stride) × (view.bytes ≡ own)
    → (c : ℕ) → 0 < view.stride → c < width view.schema → ColumnReadsOneRun view (rows_at (cut_rows tail.stripes rows) n) c
view_reads bytes own tail opened rows n view reads e lt is found same c some below =
    let schema : view.schema ≡ tail.schema = same.0 ∙ ap (λ (t : Tail). t.schema) e in
    let info : view.info ≡ stripe_at tail.stripes n = same.1 ∙ ap (λ (t : Tail). stripe_at t.stripes n) e in
    let stride : view.stride ≡ tail.stride = same.2 ∙ ap (λ (t : Tail). t.stride) e in
    let text : view.bytes ≡ stripe_bytes (stripe_at tail.stripes n) bytes = same.3 ∙ is ∙ ap (λ (t : Tail). stripe_bytes (stripe_at t.stripes n) bytes) e in
    let whole : view ≡ opened_stripe tail n (stripe_bytes (stripe_at tail.stripes n) bytes) view.footer = λ i. record { schema = schema i; info = info i; stride = stride i; bytes = text i; footer = view.footer } in
    let opens : HasFooter tail.schema (stripe_at tail.stripes n) (stripe_bytes (stripe_at tail.stripes n) bytes) view.footer =
    subst (λ (t : Tail). HasFooter t.schema (stripe_at t.stripes n) (stripe_bytes (stripe_at t.stripes n) bytes) view.footer) e
    (subst (λ (b : List ℕ). HasFooter opened.schema (stripe_at opened.stripes n) b view.footer) is found) in
    subst (λ (v : Opened). ColumnReadsOneRun v (rows_at (cut_rows tail.stripes rows) n) c) (sym whole)
    (reads (omega (arith, some, stride)) n (subst (λ (t : Tail). n < length t.stripes) e lt) view.footer opens c (subst (λ (s : Shape). c < width s) schema below))

-- A column's reader at positions that are behind some cells, as a reader of the whole column behind these.
use Rattle.std.proofs.Common.{◌≡◌, ℕ, zero, suc, ◌+◌, ◌<◌, ℤ, pos, Bool, true, false, Option, Some, None, List, [], ◌∷◌, ◌++◌, length, map, take, drop, refl, sym, ap, ◌∙◌, subst, arith, slice_get, append-nil}
use Rattle.std.proofs.Math.Seq.{take-append_seam, drop-append_seam}
use Rattle.std.proofs.lemmas.List.{length-map}
use Rattle.std.proofs.lemmas.Option.{slice_get_within}
use Rattle.orc_rle.specs.declared.sign.Rle.{Rle}
use Rattle.orc_rle.specs.declared.sign.Sign.{Sign}
use Rattle.orc_rle.specs.declared.sign.Sign.TheVariants.{Signed, Unsigned}
use Rattle.orc_values.specs.Cells.{Cell, parts, pairs_in, values}
use Rattle.orc_values.specs.Columns.{cells}
use Rattle.orc_values.specs.Fits.{RowsFit}
use Rattle.orc_values.specs.Shapes.{Shape, scalar, list_of, map_of, struct_of, shape_at}
use Rattle.orc_values.specs.declared.kind.Scalar.{Scalar}
use Rattle.orc_values.specs.declared.kind.Scalar.TheVariants as kind
use Rattle.orc_wire.specs.declared.row_index.RowIndexEntry.{RowIndexEntry}
use Rattle.orc_column_reader.specs.Faults.{FaultDown, lengths_of}
use Rattle.orc_column_reader.specs.Numbers.{is_run}
use Rattle.orc_column_reader.specs.ReaderFaults.{CellsMeet}
use Rattle.orc_column_reader.specs.RunFaults.{IntegersFirst}
use Rattle.orc_column_reader.specs.Runs.{RunsBegin}
use Rattle.orc_column_reader.specs.Spellings.{size, concatenated}
use Rattle.orc_column_reader.specs.Stripe.{Streams, version, has_dictionary}
use Rattle.orc_values.specs.Limits.{most_cells}
use Rattle.orc_column_reader.specs.declared.bits.Bits.{Bits}
use Rattle.orc_column_reader.specs.declared.bytes.RunLengthBytes.{RunLengthBytes}
use Rattle.orc_rle.specs.ByteRun.{IsByteRun}
use Rattle.orc_column_reader.specs.declared.column.ColumnReader.{ColumnReader}
use Rattle.orc_column_reader.specs.declared.column.ValueSource.{ValueSource}
use Rattle.orc_directory.specs.declared.fault.StripeFault.{StripeFault}
use Rattle.orc_column_reader.specs.declared.numbers.Numbers.{Numbers}
use Rattle.orc_column_reader.proofs.FirstLemmas.{nothing_first}
use Rattle.orc_column_reader.proofs.NumbersLemmas.{laws_of}
use Rattle.orc_row_index.specs.Positions.{octets_position, position_size}
use Rattle.orc_row_groups.specs.Counts.{octets}
use Rattle.orc_row_index.specs.RunStreams.{RunStream, no_stream, bit_runs, byte_runs, number_runs, present_runs, text_runs, value_runs, value_bytes, text_octets}
use Rattle.orc_group_reader.specs.Behind.{LeadsTo, LeadsToBit, LeadsIn, StringsBegin, TextsBegin, SizesBegin, IsBehind}
use Rattle.orc_group_reader.specs.Columns.{CutsOctets, IsWithoutFront, IsSource, HasDictionaryEntries, EntriesOf}
use Rattle.orc_group_reader.specs.ReadersAt.{StreamAt, MarksAt, ColumnAt, ReadersAt}
use Rattle.orc_group_reader.specs.Refusals as refusals
use Rattle.orc_group_reader.specs.declared.entered.Entered.{Entered}
use Rattle.orc_group_reader.specs.declared.entered.Entered.TheVariants as entered
use Rattle.orc_group_reader.proofs.ReadersBehind.{NumbersBehind, BytesBehind, BitsBehind, numbers_behind, bytes_behind, bits_behind, first_same}
use Rattle.orc_group_reader.proofs.SourcesBehind.{MarksBehind, GroupsBehind, TextsBehind, SizesBehind, list_lengths, map_lengths, SourceBehind}
use Rattle.orc_group_reader.proofs.TreeBehind.{ColumnBehind, TreeBehind, renumbered, tree_down}
use Rattle.orc_group_reader.proofs.StreamsEntered.{same_two, same_three}

-- ---- one stream, by the numbers of its position

leads_here : {A : Type 0} (R : List ℕ → List A → Type 0) (bytes ps : List ℕ) (o s p t k : ℕ) → ps ≡ o ∷ s ∷ [] → ps ≡ p ∷ t ∷ [] → LeadsTo R bytes p t k → LeadsTo R bytes o s k
leads_here R bytes ps o s p t k e d h =
    let same = same_two p t o s (sym d ∙ e) in
    subst (λ (i : ℕ). LeadsTo R bytes i s k) same.0 (subst (λ (i : ℕ). LeadsTo R bytes p i k) same.1 h)

bits_of : (b ps : List ℕ) (k : ℕ) (r : Bits) → StreamAt (bit_runs b) ps (entered.Bits r) → LeadsIn (bit_runs b) k ps → BitsBehind b k r
bits_of b ps k r h p =
    let same = same_three p.0 p.1 p.2 h.0 h.1 h.2 (sym p.3 ∙ h.3) in
    let here = subst (λ (i : ℕ). LeadsToBit b i h.1 h.2 k) same.0 (subst (λ (i : ℕ). LeadsToBit b p.0 i h.2 k) same.1 (subst (λ (i : ℕ). LeadsToBit b p.0 p.1 i k) same.2 p.4)) in
    bits_behind b h.0 h.1 h.2 k r h.4 here

bits_source : (b last : List ℕ) (own : Entered) (rest : List ℕ) (k : ℕ) (source : ValueSource) → StreamAt (bit_runs b) last own → IsSource own rest source → LeadsIn (bit_runs b) k last → BitsBehind b k source.bits
bits_source b last entered.Nothing rest k source h is p = absurd h
bits_source b last (entered.Bits r) rest k source h is p = subst (λ (q : Bits). BitsBehind b k q) (sym is.0) (bits_of b last k r h p)
bits_source b last (entered.Bytes r) rest k source h is p = absurd h
bits_source b last (entered.Numbers r) rest k source h is p = absurd h

bytes_source : (b last : List ℕ) (own : Entered) (rest : List ℕ) (k : ℕ) (source : ValueSource) → StreamAt (byte_runs b) last own → IsSource own rest source → LeadsIn (byte_runs b) k last → BytesBehind b k source.bytes
bytes_source b last entered.Nothing rest k source h is p = absurd h
bytes_source b last (entered.Bits r) rest k source h is p = absurd h
bytes_source b last (entered.Bytes r) rest k source h is p =
    subst (λ (q : RunLengthBytes). BytesBehind b k q) (sym is.0) (bytes_behind b h.0 h.1 k r h.3 (leads_here IsByteRun b last h.0 h.1 p.0 p.1 k h.2 p.2 p.3))
bytes_source b last (entered.Numbers r) rest k source h is p = absurd h

numbers_source : (v : Rle) (s : Sign) (b last : List ℕ) (own : Entered) (rest : List ℕ) (k : ℕ) (source : ValueSource) → StreamAt (number_runs v s b) last own → IsSource own rest source → LeadsIn (number_runs v s b) k last
    → NumbersBehind v s b k source.numbers × (source.octets.rest.now ≡ rest)
numbers_source v s b last entered.Nothing rest k source h is p = absurd h
numbers_source v s b last (entered.Bits r) rest k source h is p = absurd h
numbers_source v s b last (entered.Bytes r) rest k source h is p = absurd h
numbers_source v s b last (entered.Numbers r) rest k source h is p = (
  subst (λ (q : Numbers). NumbersBehind v s b k q) (sym is.0) (numbers_behind v s b h.0 h.1 k r h.3 (leads_here (is_run v s) b last h.0 h.1 p.0 p.1 k h.2 p.2 p.3)),
  is.1,
)

-- what is passed is what comes first
passed_is : (v : Rle) (s : Sign) (b : List ℕ) (k : ℕ) (r : Numbers) (all : List ℤ) → (h : NumbersBehind v s b k r) → length all ≡ k → RunsBegin (is_run v s) b all → h.passed ≡ all
passed_is v s b k r all h long begins =
    let own = h.first [] (nothing_first (is_run r.version r.sign) (drop r.used r.run.values) (drop r.at r.bytes.now)) in
    first_same (is_run v s) (laws_of v s).one b h.passed all (h.counted ∙ sym long) (subst (λ (t : List ℤ). RunsBegin (is_run v s) b t) (append-nil h.passed) own) begins

-- ---- values

groups_behind : (x : Streams) (vs : List Cell) (n : ℕ) (rest : List ℕ) (source : ValueSource) → NumbersBehind (version x) Unsigned (x.stream 2) (length vs) source.numbers × (source.octets.rest.now ≡ rest) → rest ≡ drop n (x.stream 1) → StringsBegin x vs n
    → GroupsBehind x (length vs) source
groups_behind x vs n rest source h cut g =
    let behind : drop n (x.stream 1) ≡ g.1 = ap (λ (i : ℕ). drop i (x.stream 1)) (sym g.3) ∙ ap (drop (length (concatenated g.0))) g.5 ∙ drop-append_seam (concatenated g.0) g.1 in
    record {
      numbers = h.0;
      groups = g.0;
      sizes = passed_is (version x) Unsigned (x.stream 2) (length vs) source.numbers (map size g.0) h.0 (length-map g.0 size ∙ g.2) g.4;
      content = g.5 ∙ ap (λ (t : List ℕ). concatenated g.0 ++ t) (sym (h.1 ∙ cut ∙ behind));
    }

texts_behind : (d : Bool) (x : Streams) (vs : List Cell) (n : ℕ) (last : List ℕ) (own : Entered) (rest : List ℕ) (source : ValueSource) → StreamAt (text_runs d x) last own → IsSource own rest source → IsWithoutFront (text_octets d x) n rest
    → LeadsIn (text_runs d x) (length vs) last → HasDictionaryEntries d x source.entries → TextsBegin d x vs n → TextsBehind d x (length vs) source
texts_behind true x vs n last own rest source h is cut p has begin = (has, (numbers_source (version x) Unsigned (x.stream 1) last own rest (length vs) source h is p).0)
texts_behind false x vs n last own rest source h is cut p has begin = (has, groups_behind x vs n rest source (numbers_source (version x) Unsigned (x.stream 2) last own rest (length vs) source h is p) cut begin)

list_sizes : (vs : List Cell) → map (λ v. size (parts v)) vs ≡ map pos (list_lengths vs)
list_sizes [] = refl
list_sizes (v ∷ vs) = ap (λ (t : List ℤ). size (parts v) ∷ t) (list_sizes vs)

map_sizes : (vs : List Cell) → map (λ m. size (pairs_in m)) vs ≡ map pos (map_lengths vs)
map_sizes [] = refl
map_sizes (v ∷ vs) = ap (λ (t : List ℤ). size (pairs_in v) ∷ t) (map_sizes vs)

sizes_behind : (x : Streams) (count : ℕ) (lengths : List ℕ) (sizes : List ℤ) (source : ValueSource) → NumbersBehind (version x) Unsigned (x.stream 2) count source.numbers → count ≡ length lengths → sizes ≡ map pos lengths → IntegersFirst (lengths_of x) sizes
    → source.room ≡ most_cells → SizesBehind x lengths source
sizes_behind x count lengths sizes source h long same begin room =
    let numbers = subst (λ (k : ℕ). NumbersBehind (version x) Unsigned (x.stream 2) k source.numbers) long h in
    record {
      numbers = numbers;
      sizes = passed_is (version x) Unsigned (x.stream 2) (length lengths) source.numbers (map pos lengths) numbers (length-map lengths pos) (subst (λ (t : List ℤ). IntegersFirst (lengths_of x) t) same begin);
      room = room;
    }

scalar_behind : (t : Scalar) (o : List ℕ) (x : Streams) (vs : List Cell) (n : ℕ) (last : List ℕ) (own : Entered) (rest : List ℕ) (source : ValueSource) → StreamAt (value_runs (scalar t o) x) last own → IsSource own rest source → IsWithoutFront (value_bytes (scalar t o) x) n rest
    → LeadsIn (value_runs (scalar t o) x) (length vs) last → EntriesOf (scalar t o) x source.entries → SizesBegin (scalar t o) x vs n → SourceBehind (scalar t o) x vs source
scalar_behind kind.Boolean o x vs n last own rest source h is cut p has begin = bits_source (x.stream 1) last own rest (length vs) source h is p
scalar_behind kind.Byte o x vs n last own rest source h is cut p has begin = bytes_source (x.stream 1) last own rest (length vs) source h is p
scalar_behind kind.Short o x vs n last own rest source h is cut p has begin = (numbers_source (version x) Signed (x.stream 1) last own rest (length vs) source h is p).0
scalar_behind kind.Int o x vs n last own rest source h is cut p has begin = (numbers_source (version x) Signed (x.stream 1) last own rest (length vs) source h is p).0
scalar_behind kind.Long o x vs n last own rest source h is cut p has begin = (numbers_source (version x) Signed (x.stream 1) last own rest (length vs) source h is p).0
scalar_behind kind.Date o x vs n last own rest source h is cut p has begin = (numbers_source (version x) Signed (x.stream 1) last own rest (length vs) source h is p).0
scalar_behind kind.Binary o x vs n last own rest source h is cut p has begin = groups_behind x vs n rest source (numbers_source (version x) Unsigned (x.stream 2) last own rest (length vs) source h is p) cut begin
scalar_behind kind.String o x vs n last own rest source h is cut p has begin = texts_behind (has_dictionary x) x vs n last own rest source h is cut p has begin

source_behind : (s : Shape) (x : Streams) (vs : List Cell) (n : ℕ) (last : List ℕ) (own : Entered) (rest : List ℕ) (source : ValueSource) → StreamAt (value_runs s x) last own → IsSource own rest source → IsWithoutFront (value_bytes s x) n rest
    → LeadsIn (value_runs s x) (length vs) last → EntriesOf s x source.entries → source.room ≡ most_cells → SizesBegin s x vs n → SourceBehind s x vs source
source_behind (scalar t o) x vs n last own rest source h is cut p has room begin = scalar_behind t o x vs n last own rest source h is cut p has begin
source_behind (list_of s o) x vs n last own rest source h is cut p has room begin =
    sizes_behind x (length vs) (list_lengths vs) (map (λ v. size (parts v)) vs) source (numbers_source (version x) Unsigned (x.stream 2) last own rest (length vs) source h is p).0 (sym (length-map vs (λ v. length (parts v)))) (list_sizes vs) begin room
source_behind (map_of k v o) x vs n last own rest source h is cut p has room begin =
    sizes_behind x (length vs) (map_lengths vs) (map (λ m. size (pairs_in m)) vs) source (numbers_source (version x) Unsigned (x.stream 2) last own rest (length vs) source h is p).0 (sym (length-map vs (λ m. length (pairs_in m)))) (map_sizes vs) begin room
source_behind (struct_of fs o) x vs n last own rest source h is cut p has room begin = tt

-- ---- a column

cut_here : (content : Option (List ℕ)) (n : ℕ) (ps rest behind last : List ℕ) → CutsOctets content ps rest behind → ps ≡ octets_position content n ++ last → (behind ≡ last) × IsWithoutFront content n rest
cut_here None n ps rest behind last h e = (h ∙ e, tt)
cut_here (Some b) n ps rest behind last h e =
    let same = heads h.0 n behind last (sym h.1 ∙ e) in
    (same.1, h.2 ∙ ap (λ (k : ℕ). drop k b) same.0)
  where
    heads : (o n : ℕ) (b l : List ℕ) → o ∷ b ≡ n ∷ l → (o ≡ n) × (b ≡ l)
    heads o n b l e = (cc, cc)

place_long : (r : RunStream) (n : ℕ) (ps : List ℕ) → LeadsIn r n ps → length ps ≡ position_size r
place_long no_stream n ps h = ap length h
place_long (bit_runs b) n ps h = ap length h.3
place_long (byte_runs b) n ps h = ap length h.2
place_long (number_runs v s b) n ps h = ap length h.2

present_behind : (b first : List ℕ) (k : ℕ) (present : Option Bits) → MarksAt b first present → LeadsIn (present_runs b) k first → MarksBehind b k present
present_behind [] first k None h p = tt
present_behind [] first k (Some bits) h p = absurd h
present_behind (x ∷ b) first k None h p = absurd h
present_behind (x ∷ b) first k (Some bits) h p = bits_of (x ∷ b) first k bits h p

column_behind : (s : Shape) (x : Streams) (m : ℕ) (before : List Cell) (ps : List ℕ) (reader : ColumnReader) → IsBehind s x before ps → ColumnAt s x m ps reader → ColumnBehind s x m before reader
column_behind s x m before ps reader b at =
    let behind : List ℕ = octets_position (value_bytes s x) (octets before) ++ b.last in
    let size : refusals.present_size x ≡ length b.first = sym (place_long (present_runs (x.stream 0)) (length before) b.first b.present_position) in
    let front : take (refusals.present_size x) ps ≡ b.first = ap (take (refusals.present_size x)) b.parts ∙ ap (λ (n : ℕ). take n (b.first ++ behind)) size ∙ take-append_seam b.first behind in
    let back : drop (refusals.present_size x) ps ≡ behind = ap (drop (refusals.present_size x)) b.parts ∙ ap (λ (n : ℕ). drop n (b.first ++ behind)) size ∙ drop-append_seam b.first behind in
    let source = at.source in
    let cut = cut_here (value_bytes s x) (octets before) (drop (refusals.present_size x) ps) source.rest source.last b.last source.cut back in
    record {
      marks = present_behind (x.stream 0) b.first (length before) reader.present (subst (λ (t : List ℕ). MarksAt (x.stream 0) t reader.present) front at.marks) b.present_position;
      begin = b.marks;
      source = source_behind s x (values before) (octets before) b.last source.own source.rest reader.source (subst (λ (t : List ℕ). StreamAt (value_runs s x) t source.own) cut.0 source.entered) source.source_is cut.1 b.value_position source.entries source.room
          b.sizes;
      column = source.column;
    }

-- ---- all columns

pub entry_there : (xs : List RowIndexEntry) (i : ℕ) → i < length xs → (x : RowIndexEntry) × (slice_get xs i ≡ Some x)
entry_there [] i lt = absurd (omega (arith, lt))
entry_there (x ∷ xs) zero lt = (x, refl)
entry_there (x ∷ xs) (suc i) lt = entry_there xs i (omega (arith, lt))

pub readers_behind : (s : Shape) (x : ℕ → Streams) (before : List Cell) (entries : List RowIndexEntry) (readers : List ColumnReader) (all : Bool) (n : ℕ) (f : StripeFault) → RowsFit s before
    → ((c : ℕ) (entry : RowIndexEntry) → slice_get entries c ≡ Some entry → IsBehind (shape_at s c) (x c) (cells s c before) entry.positions) → ReadersAt s x entries readers → CellsMeet s readers all n f
    → FaultDown s x 0 all (length before + n) f
readers_behind s x before entries readers all n f fit behind at met =
    let tree : TreeBehind s x 0 readers before = record {
      counted = at.counted;
      fit = fit;
      column = λ c r g.
          let entry = entry_there entries c (omega (arith, slice_get_within readers c r g, at.counted, at.listed)) in
          renumbered (shape_at s c) x c (0 + c) (cells s c before) r (omega arith)
          (column_behind (shape_at s c) (x c) c (cells s c before) entry.0.positions r (behind c entry.0 entry.1) (at.column c entry.0 r entry.1 g));
    } in
    tree_down s x 0 readers before all n f tree met

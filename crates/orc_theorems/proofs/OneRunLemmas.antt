-- From a writer's positions one run is read at most.
use Rattle.std.proofs.Common.{◌≡◌, ◌∙◌, ℕ, ◌≤◌, inl, inr, Bool, true, false, Some, List, [], ◌∷◌, ◌++◌, length, map, drop, slice_get, refl, sym, ap, subst, arith, length-append, ◌+◌}
use Rattle.std.proofs.lemmas.List.{take-append-drop, length-map}
use Rattle.orc_rle.specs.ByteRun.{IsByteRun}
use Rattle.orc_rle.specs.Seeking.{bytes_needed}
use Rattle.orc_positions.specs.Position.{IsWriterPosition, IsOneRun}
use Rattle.orc_positions.specs.BitPosition.{IsWriterBitPosition, HasBooleans}
use Rattle.orc_positions.proofs.PositionLemmas.{place_run}
use Rattle.orc_positions.proofs.BitPositionLemmas.{bit_place_run}
use Rattle.orc_wire.specs.Messages.{row_index}
use Rattle.orc_wire.specs.laws.SpellsLaws.{one_spelled}
use Rattle.orc_wire.specs.declared.row_index.RowIndexMsg.{RowIndexMsg}
use Rattle.orc_wire.specs.declared.stripe_footer.StripeFooter.{StripeFooter}
use Rattle.orc_wire.specs.declared.stripe_info.StripeInfo.{StripeInfo}
use Rattle.orc_values.specs.Cells.{Cell, is_value, values}
use Rattle.orc_values.specs.Columns.{cells}
use Rattle.orc_values.specs.Shapes.{Shape, scalar, list_of, map_of, struct_of, shape_at}
use Rattle.orc_values.specs.declared.kind.Scalar.{Scalar}
use Rattle.orc_values.specs.declared.kind.Scalar.TheVariants as kind
use Rattle.orc_column_reader.specs.Columns.{IsBool}
use Rattle.orc_directory.specs.Directory.{slice}
use Rattle.orc_column_reader.specs.Numbers.{is_run}
use Rattle.orc_column_reader.specs.Stripe.{Streams, has_dictionary, Marks, SpellsScalar, SpellsValues, IsColumn, columns_of, IsStripe}
use Rattle.orc_row_groups.specs.Bounds.{bound_at, before_group}
use Rattle.orc_row_index.specs.Positions.{IsPosition, writer, AreWrittenPositions}
use Rattle.orc_row_index.specs.RunStreams.{RunStream, no_stream, bit_runs, byte_runs, number_runs, present_runs, text_runs, scalar_runs, value_runs}
use Rattle.orc_row_index.proofs.ColumnPlaces.{stand_long}
use Rattle.orc_row_groups.proofs.Counted.{values_more}
use Rattle.orc_stripe_reader.proofs.OneStripe.{one_footer, by_footer}
use Rattle.orc_row_groups.specs.Groups.{starts_of_groups, bounds_of}
use Rattle.orc_tail.specs.Stripes.{stripe_at, stripe_bytes}
use Rattle.orc_file_reader.specs.FileRows.{FileIs, cut_rows}
use Rattle.orc_tail.specs.declared.tail.Tail.{Tail}
use Rattle.orc_check.specs.Findings.{rows_at}
use Rattle.orc_check.proofs.NoFinding.{stripe_is}
use Rattle.orc_theorems.specs.WrittenIndexes.{HasWrittenIndex, HasWrittenIndexes}
use Rattle.orc_theorems.specs.OneRunPositions.{SeekCounts, NeedsOneRun, NeedsOneBitRun, IsOneRunPosition, AreOneRunPositions, ReadsOneRun}

-- ---- one position

counts_one : {A : Type 0} (R : List ℕ → List A → Type 0) (bytes : List ℕ) (offset need old new : ℕ) → IsOneRun R bytes offset need → SeekCounts R bytes offset need old new → new ≤ old + 1
counts_one R bytes offset need old new (inl none) k = omega (arith, k.count, none)
counts_one R bytes offset need old new (inr run) k = k.one_run run.0 run.1 run.2 run.3 run.4 run.5

place_one : {A : Type 0} (R : List ℕ → List A → Type 0) (bytes : List ℕ) (offset skip n : ℕ) → IsWriterPosition R bytes offset skip n → NeedsOneRun R bytes offset skip n
place_one R bytes offset skip n h = record { place = h; one_run = λ old new k. counts_one R bytes offset skip old new (place_run R bytes offset skip h.inside) k }

bit_place_one : (bytes : List ℕ) (total offset skip bits n : ℕ) → HasBooleans bytes total → n ≤ total → IsWriterBitPosition bytes n offset skip bits n → NeedsOneBitRun bytes offset skip bits n
bit_place_one bytes total offset skip bits n has le h =
    let there : IsWriterBitPosition bytes total offset skip bits n = record { place = h.place; bits_are = h.bits_are; there = le } in
    record {
      total = total;
      has = has;
      place = there;
      one_run = λ old new k. counts_one IsByteRun bytes offset (bytes_needed skip bits) old new (bit_place_run bytes total offset skip bits n has there) k;
    }

-- ---- the streams of a column

-- a stream of booleans has as many
abbrev HasSome : RunStream → ℕ → Type 0
HasSome no_stream n = Unit {0}
HasSome (bit_runs b) n = (total : ℕ) × HasBooleans b total × (n ≤ total)
HasSome (byte_runs b) n = Unit {0}
HasSome (number_runs v sign b) n = Unit {0}

stream_one : (c : RunStream) (n : ℕ) (ps : List ℕ) → HasSome c n → IsPosition writer c n ps → IsOneRunPosition c n ps
stream_one no_stream n ps has h = h
stream_one (bit_runs b) n ps has h = (h.0, h.1, h.2, h.3, bit_place_one b has.0 h.0 h.1 h.2 n has.1 has.2 h.4)
stream_one (byte_runs b) n ps has h = (h.0, h.1, h.2, place_one IsByteRun b h.0 h.1 n h.3)
stream_one (number_runs v sign b) n ps has h = (h.0, h.1, h.2, place_one (is_run v sign) b h.0 h.1 n h.3)

present_some : (b : List ℕ) (marks : List Bool) (n : ℕ) → Marks b marks → n ≤ length marks → HasSome (present_runs b) n
present_some [] marks n h le = tt
present_some (x ∷ b) marks n h le = (length marks, (marks, h, refl), le)

texts_some : (d : Bool) (x : Streams) (n : ℕ) → HasSome (text_runs d x) n
texts_some true x n = tt
texts_some false x n = tt

scalar_some : (k : Scalar) (x : Streams) (vs : List Cell) (n : ℕ) → SpellsScalar k x vs → n ≤ length vs → HasSome (scalar_runs k x) n
scalar_some kind.Boolean x vs n h le = (length h.0, (h.0, h.2, refl), omega (arith, le, stand_long IsBool h.0 vs h.1))
scalar_some kind.Byte x vs n h le = tt
scalar_some kind.Short x vs n h le = tt
scalar_some kind.Int x vs n h le = tt
scalar_some kind.Long x vs n h le = tt
scalar_some kind.Date x vs n h le = tt
scalar_some kind.String x vs n h le = texts_some (has_dictionary x) x n
scalar_some kind.Binary x vs n h le = tt

own_some : (s : Shape) (x : Streams) (vs : List Cell) (n : ℕ) → SpellsValues s x vs → n ≤ length vs → HasSome (value_runs s x) n
own_some (scalar k o) x vs n h le = scalar_some k x vs n h le
own_some (list_of s o) x vs n h le = tt
own_some (map_of k v o) x vs n h le = tt
own_some (struct_of fs o) x vs n h le = tt

column_one : (s : Shape) (x : Streams) (column before after : List Cell) (ps : List ℕ) → column ≡ before ++ after → IsColumn s x column → AreWrittenPositions s x before ps → AreOneRunPositions s x before ps
column_one s x column before after ps e h p =
    let cs : length column ≡ length before + length after = ap length e ∙ length-append before after in
    let vs : length (values column) ≡ length (values before) + length (values after) = ap (λ (c : List Cell). length (values c)) e ∙ values_more before after in
    record {
      first = p.first;
      last = p.last;
      parts = p.parts;
      present_position = stream_one (present_runs (x.stream 0)) (length before) p.first
          (present_some (x.stream 0) (map is_value column) (length before) h.marks (omega (arith, cs, length-map column is_value))) p.present_position;
      value_position = stream_one (value_runs s x) (length (values before)) p.last (own_some s x (values column) (length (values before)) h.spelled (omega (arith, vs))) p.value_position;
    }

-- ---- a file

pub file_reads_one : (bytes : List ℕ) (tail : Tail) (rows : List Cell) → FileIs bytes tail rows → HasWrittenIndexes bytes tail rows → ReadsOneRun bytes tail rows
file_reads_one bytes tail rows is has = λ some n lt footer opens c below message index g entry at.
    let s : Shape = tail.schema in
    let info : StripeInfo = stripe_at tail.stripes n in
    let own : List ℕ = stripe_bytes info bytes in
    let mine : List Cell = rows_at (cut_rows tail.stripes rows) n in
    let w = has some n lt in
    let stripe : IsStripe s info own mine = stripe_is bytes tail rows is n lt in
    let one : w.footer ≡ footer = one_footer s info own w.footer footer w.has_footer opens in
    let written : HasWrittenIndex tail.stride s mine footer own c = subst (λ (f : StripeFooter). HasWrittenIndex tail.stride s mine f own c) one (w.written c below) in
    let x = written.1 in
    let same : message ≡ record { entries = x.entries } = one_spelled row_index 0 0 (slice c 6 footer.streams own) message (record { entries = x.entries }) index.1 x.spelled in
    let there : slice_get x.entries g ≡ Some entry = ap (λ (m : RowIndexMsg). slice_get m.entries g) (sym same) ∙ at in
    let cs : List Cell = cells s c mine in
    let bounds : List ℕ = bounds_of s c mine (starts_of_groups tail.stride (length mine)) in
    let k : ℕ = bound_at (length cs) bounds g in
    column_one (shape_at s c) (columns_of footer own c) cs (before_group cs bounds g) (drop k cs) entry.positions (sym (take-append-drop k cs))
    ((by_footer s info own footer mine opens stripe).column c below) (x.are.each g entry there).positions

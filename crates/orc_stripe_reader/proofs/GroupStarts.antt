-- Where the positions of a group are right in a stripe's own streams, it starts there.
use Rattle.std.proofs.Common.{◌≡◌, ℕ, ◌*◌, ◌<◌, Bool, true, Option, Some, None, List, ◌++◌, length, take, drop, get_or, refl, sym, ap, ◌∙◌, subst, arith, slice_get}
use Rattle.std.proofs.lemmas.List.{take-append-drop, get_or-map}
use Rattle.std.proofs.lemmas.List.FromFn.{get_or-map-range_with_len}
use Rattle.std.proofs.Math.Seq.{take-append_seam}
use Rattle.orc_values.specs.Cells.{Cell}
use Rattle.orc_values.specs.Columns.{cells}
use Rattle.orc_values.specs.Shapes.{Shape, width, shape_at}
use Rattle.orc_values.proofs.Together.{cells-append}
use Rattle.orc_wire.specs.declared.row_index.RowIndexMsg.{RowIndexMsg}
use Rattle.orc_column_reader.specs.Stripe.{Streams, SpellRows, columns_of}
use Rattle.orc_row_groups.specs.Bounds.{before_group}
use Rattle.orc_row_index.specs.Positions.{AreReadPositions}
use Rattle.orc_row_index.specs.RunStreams.{RunStream, no_stream, bit_runs, byte_runs, number_runs}
use Rattle.orc_row_groups.specs.Groups.{group_count, starts_of_groups, cells_before, bounds_of}
use Rattle.orc_group_reader.specs.Columns.{OctetsAgree, AgreeFromPositions}
use Rattle.orc_group_reader.specs.Streams.{RunsAgree}
use Rattle.orc_stripe_reader.specs.Opened.{Opened}
use Rattle.orc_stripe_reader.specs.RowIndexes.{HasIndex, HasEachGroup, ArePositionsDecided}
use Rattle.orc_stripe_reader.specs.GroupCursors.{HasGroup, HasRightEntry, StartsGroup}
use Rattle.orc_stripe_reader.proofs.IndexFaults.{starts_long}
use Rattle.orc_row_groups.proofs.BoundLemmas.{group_there}
use Rattle.orc_group_reader.proofs.ColumnsBehind.{entry_there}

-- ---- streams agree with themselves

runs_itself : (o : ℕ) (r : RunStream) → RunsAgree o r r
runs_itself o no_stream = tt
runs_itself o (bit_runs b) = record { long = refl; same = refl }
runs_itself o (byte_runs b) = record { long = refl; same = refl }
runs_itself o (number_runs v s b) = (refl, refl, record { long = refl; same = refl })

octets_itself : (o : ℕ) (c : Option (List ℕ)) → OctetsAgree o c c
octets_itself o None = tt
octets_itself o (Some b) = record { long = refl; same = refl }

agree_itself : (s : Shape) (x : Streams) (before : List Cell) (ps : List ℕ) → AreReadPositions s x before ps → AgreeFromPositions s x x before ps
agree_itself s x before ps h = record {
  places = h;
  encoded = refl;
  present_same = runs_itself _ _;
  content_same = octets_itself _ _;
  own_same = runs_itself _ _;
  dictionary_same = λ d. (refl, refl);
}

pub starts_itself : (view : Opened) (rows : List Cell) (group : ℕ) → SpellRows view.schema (columns_of view.footer view.bytes) view.info.number_of_rows rows → HasGroup view group
    → ((c : ℕ) → c < width view.schema → HasRightEntry view rows c group) → StartsGroup view (columns_of view.footer view.bytes) rows group
starts_itself view rows group spelled has right = record {
  has_group = has;
  spelled = spelled;
  column = λ c lt.
      let k = right c lt in
      (k.0, k.1, agree_itself (shape_at view.schema c) (columns_of view.footer view.bytes c) (cells view.schema c (take (group * view.stride) rows)) k.0.positions k.2);
}

-- ---- the cells before a group are those of the rows before it

bound_is : (s : Shape) (c stride g d : ℕ) (rows : List Cell) → g < group_count stride (length rows) → get_or (bounds_of s c rows (starts_of_groups stride (length rows))) g d ≡ cells_before s c rows (g * stride)
bound_is s c stride g d rows less =
    let firsts = starts_of_groups stride (length rows) in
    let lt : g < length firsts = omega (arith, less, starts_long stride (length rows)) in
    get_or-map (cells_before s c rows) firsts g 0 d lt ∙ ap (cells_before s c rows) (get_or-map-range_with_len (λ n. n * stride) 0 (group_count stride (length rows)) g g 0 less (omega arith))

before_is : (s : Shape) (c stride g : ℕ) (rows : List Cell) → g < group_count stride (length rows) → before_group (cells s c rows) (bounds_of s c rows (starts_of_groups stride (length rows))) g ≡ cells s c (take (g * stride) rows)
before_is s c stride g rows less =
    let n = g * stride in
    let parts : cells s c rows ≡ cells s c (take n rows) ++ cells s c (drop n rows) = ap (cells s c) (sym (take-append-drop n rows)) ∙ cells-append s c (take n rows) (drop n rows) in
    ap (λ (k : ℕ). take k (cells s c rows)) (bound_is s c stride g (length (cells s c rows)) rows less) ∙ ap (take (cells_before s c rows n)) parts ∙ take-append_seam (cells s c (take n rows)) (cells s c (drop n rows))

pub right_entry : (view : Opened) (rows : List Cell) (c group : ℕ) (message : RowIndexMsg) (right : List Bool) → length rows ≡ view.info.number_of_rows → HasGroup view group
    → HasIndex view.footer view.bytes c message → HasEachGroup view (length rows) message → ArePositionsDecided view c rows message right → slice_get right group ≡ Some true → HasRightEntry view rows c group
right_entry view rows c group message right counted has read whole decided told =
    let less = group_there view.stride (length rows) group has.indexed (omega (arith, has.there, counted)) in
    let found = entry_there message.entries group (omega (arith, whole, less)) in
    let places = decided.each group found.0 true found.1 told in (
      found.0,
      (message, read, subst (λ (n : ℕ). HasEachGroup view n message) counted whole, found.1),
      subst (λ (before : List Cell). AreReadPositions (shape_at view.schema c) (columns_of view.footer view.bytes c) before found.0.positions) (before_is view.schema c view.stride group rows less) places,
    )

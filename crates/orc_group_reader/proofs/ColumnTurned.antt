-- A column that is entered at its positions.
use Rattle.std.proofs.Common.{◌≡◌, ℕ, ◌+◌, ◌≤◌, true, Option, Some, None, List, [], ◌∷◌, ◌++◌, length, map, take, drop, get_or, replicate, refl, sym, ap, ◌∙◌, subst, arith, length-append}
use Rattle.std.proofs.lemmas.List.{length-map}
use Rattle.orc_values.specs.Cells.{Cell, is_value}
use Rattle.orc_values.specs.Shapes.{Shape}
use Rattle.orc_values.proofs.Together.{values-append}
use Rattle.orc_column_reader.specs.Columns.{MarksLeft}
use Rattle.orc_column_reader.specs.Stripe.{Streams, Marks, SpellsValues}
use Rattle.orc_column_reader.specs.declared.bits.Bits.{Bits}
use Rattle.orc_row_index.specs.Positions.{IsPosition, reader, octets_position, octets_size, position_size}
use Rattle.orc_row_groups.specs.Counts.{octets}
use Rattle.orc_row_index.specs.RunStreams.{RunStream, no_stream, bit_runs, byte_runs, number_runs, present_runs, value_runs, value_bytes}
use Rattle.orc_row_index.specs.Walking.{runs, lent_bytes, ArePlaced}
use Rattle.orc_row_index.specs.declared.placed.PlacedStreams.{PlacedStreams}
use Rattle.orc_row_index.proofs.ColumnPlaces.{column_there}
use Rattle.orc_row_index.proofs.PositionParts.{front_is, back_is, places_count}
use Rattle.orc_group_reader.specs.Columns.{EntersMarks, OctetsAgree, AgreeFromPositions, Turns, OwnTurns}
use Rattle.orc_group_reader.specs.Streams.{RunsAgree, NeverEnters}
use Rattle.orc_group_reader.proofs.SomeValues.{present_some}
use Rattle.orc_group_reader.proofs.ValuesTurned.{drop_mapped}

-- ---- how many positions there are

pub runs_alike : (o : ℕ) (a b : RunStream) → RunsAgree o a b → position_size a ≡ position_size b
runs_alike o no_stream no_stream h = refl
runs_alike o no_stream (bit_runs b) h = absurd h
runs_alike o no_stream (byte_runs b) h = absurd h
runs_alike o no_stream (number_runs v s b) h = absurd h
runs_alike o (bit_runs a) no_stream h = absurd h
runs_alike o (bit_runs a) (bit_runs b) h = refl
runs_alike o (bit_runs a) (byte_runs b) h = absurd h
runs_alike o (bit_runs a) (number_runs v s b) h = absurd h
runs_alike o (byte_runs a) no_stream h = absurd h
runs_alike o (byte_runs a) (bit_runs b) h = absurd h
runs_alike o (byte_runs a) (byte_runs b) h = refl
runs_alike o (byte_runs a) (number_runs v s b) h = absurd h
runs_alike o (number_runs w t a) no_stream h = absurd h
runs_alike o (number_runs w t a) (bit_runs b) h = absurd h
runs_alike o (number_runs w t a) (byte_runs b) h = absurd h
runs_alike o (number_runs w t a) (number_runs v s b) h = refl

pub octets_alike : (o : ℕ) (a b : Option (List ℕ)) → OctetsAgree o a b → octets_size a ≡ octets_size b
octets_alike o None None h = refl
octets_alike o None (Some b) h = absurd h
octets_alike o (Some a) None h = absurd h
octets_alike o (Some a) (Some b) h = refl

-- PRESENT has as many in both
pub present_size : (s : Shape) (x y : Streams) (placed : PlacedStreams) (before : List Cell) (ps : List ℕ) → ArePlaced s y placed → AgreeFromPositions s x y before ps
    → position_size (runs placed.present) ≡ position_size (present_runs (x.stream 0))
present_size s x y placed before ps are t = ap position_size are.present_is ∙ runs_alike (get_or t.places.first 0 0) (present_runs (y.stream 0)) (present_runs (x.stream 0)) t.present_same

pub counted : (s : Shape) (x y : Streams) (placed : PlacedStreams) (before : List Cell) (ps : List ℕ) → ArePlaced s y placed → AgreeFromPositions s x y before ps
    → length ps ≡ position_size (runs placed.present) + (octets_size (lent_bytes placed.content) + position_size (runs placed.own))
counted s x y placed before ps are t =
    let present = present_size s x y placed before ps are t in
    let content : octets_size (lent_bytes placed.content) ≡ octets_size (value_bytes s x) = ap octets_size are.content_is ∙ octets_alike (octets before) (value_bytes s y) (value_bytes s x) t.content_same in
    let own : position_size (runs placed.own) ≡ position_size (value_runs s x) = ap position_size are.own_is ∙ runs_alike (get_or t.places.last 0 0) (value_runs s y) (value_runs s x) t.own_same in
    omega (arith, present, content, own, places_count (present_runs (x.stream 0)) (value_bytes s x) (value_runs s x) before ps t.places)

-- ---- marks

back_true : (b a : List Cell) → Marks [] (map is_value (b ++ a)) → map is_value a ≡ replicate (length (map is_value a)) true
back_true [] a h = h
back_true (c ∷ b) a h = back_true b a (ap (drop 1) h)

few_marks : (b a : List Cell) → length b ≤ length (map is_value (b ++ a))
few_marks b a = omega (arith, length-map (b ++ a) is_value, length-append b a)

marks_turned : (yb xb first : List ℕ) (b a : List Cell) (present : Option Bits) → EntersMarks yb first present → IsPosition reader (present_runs xb) (length b) first
    → RunsAgree (get_or first 0 0) (present_runs yb) (present_runs xb) → Marks xb (map is_value (b ++ a)) → MarksLeft present (map is_value a)
marks_turned [] [] first b a None enters place agree marks = back_true b a marks
marks_turned [] [] first b a (Some bits) enters place agree marks = absurd enters
marks_turned [] (x ∷ xb) first b a present enters place agree marks = absurd agree
marks_turned (y ∷ yb) [] first b a present enters place agree marks = absurd agree
marks_turned (y ∷ yb) (x ∷ xb) first b a None enters place agree marks = absurd enters
marks_turned (y ∷ yb) (x ∷ xb) first b a (Some bits) enters place agree marks =
    subst (MarksLeft (Some bits)) (drop_mapped is_value b a) (enters (bit_runs (x ∷ xb)) (length b) place agree (map is_value (b ++ a)) marks (few_marks b a))

-- PRESENT's own positions, cut from those of the column
pub record AtPresent (x y : Streams) (before : List Cell) (first : List ℕ) : Type 0 where
  pub place : IsPosition reader (present_runs (x.stream 0)) (length before) first
  pub agree : RunsAgree (get_or first 0 0) (present_runs (y.stream 0)) (present_runs (x.stream 0))

pub at_present : (s : Shape) (x y : Streams) (before : List Cell) (ps first : List ℕ) (size : ℕ) → size ≡ position_size (present_runs (x.stream 0)) → first ≡ take size ps → AgreeFromPositions s x y before ps → AtPresent x y before first
at_present s x y before ps first size e cut t =
    let same : t.places.first ≡ first = front_is (present_runs (x.stream 0)) (value_bytes s x) (value_runs s x) before ps size e t.places ∙ sym cut in
    record {
      place = subst (λ (f : List ℕ). IsPosition reader (present_runs (x.stream 0)) (length before) f) same t.places.present_position;
      agree = subst (λ (f : List ℕ). RunsAgree (get_or f 0 0) (present_runs (y.stream 0)) (present_runs (x.stream 0))) same t.present_same;
    }

pub marks_left : (x y : Streams) (stream first : List ℕ) (before after : List Cell) (present : Option Bits) → stream ≡ y.stream 0 → AtPresent x y before first → EntersMarks stream first present
    → Marks (x.stream 0) (map is_value (before ++ after)) → MarksLeft present (map is_value after)
marks_left x y stream first before after present e at enters marks =
    marks_turned (y.stream 0) (x.stream 0) first before after present (subst (λ (b : List ℕ). EntersMarks b first present) e enters) at.place at.agree marks

pub marks_never : (x y : Streams) (stream first : List ℕ) (before after : List Cell) → stream ≡ y.stream 0 → AtPresent x y before first → NeverEnters (present_runs stream) first
    → Marks (x.stream 0) (map is_value (before ++ after)) → ⊥
marks_never x y stream first before after e at never marks =
    subst (λ (b : List ℕ). NeverEnters (present_runs b) first) e never (present_runs (x.stream 0)) (length before) at.place at.agree
    (present_some (x.stream 0) (map is_value (before ++ after)) (length before) marks (few_marks before after))

-- ---- the streams beside PRESENT

pub own_turns : (s : Shape) (x y : Streams) (before after : List Cell) (ps : List ℕ) (t : Turns s x y before after ps) → OwnTurns s x y before after t.agree.places.last
own_turns s x y before after ps t = record {
  spelled = subst (SpellsValues s x) (values-append before after) t.spelled.spelled;
  place = t.agree.places.value_position;
  encoded = t.agree.encoded;
  there = (column_there s x (before ++ after) before after refl t.spelled).in_content;
  content_same = t.agree.content_same;
  own_same = t.agree.own_same;
  dictionary_same = t.agree.dictionary_same;
}

pub own_positions : (s : Shape) (x y : Streams) (before : List Cell) (ps last : List ℕ) (size : ℕ) → size ≡ position_size (present_runs (x.stream 0)) → last ≡ drop size ps → (t : AgreeFromPositions s x y before ps)
    → last ≡ octets_position (value_bytes s x) (octets before) ++ t.places.last
own_positions s x y before ps last size e cut t = cut ∙ back_is (present_runs (x.stream 0)) (value_bytes s x) (value_runs s x) before ps size e t.places

-- The streams of a column have no more values than the column has cells.
use Rattle.std.proofs.Common.{ℕ, ◌<◌, ◌^◌, Bool, true, false, List, [], ◌∷◌, length, map, arith}
use Rattle.std.proofs.lemmas.List.{length-map}
use Rattle.orc_rle.proofs.BitLaws.{held_len}
use Rattle.orc_rle.specs.BitStream.{IsBitStream}
use Rattle.orc_rle.specs.ByteRun.{IsByteRun}
use Rattle.orc_values.specs.Cells.{Cell, is_value, parts, pairs_in, values}
use Rattle.orc_values.specs.Shapes.{Shape, scalar, list_of, map_of, struct_of}
use Rattle.orc_values.specs.declared.kind.Scalar.{Scalar}
use Rattle.orc_values.specs.declared.kind.Scalar.TheVariants as kind
use Rattle.orc_column_reader.specs.Columns.{IsBool, IsByte, IsInt, IsDate, IsText, IsBinary}
use Rattle.orc_column_reader.specs.Spellings.{size}
use Rattle.orc_column_reader.specs.Stripe.{Streams, has_dictionary, Marks, SpellsTexts, SpellsScalar, SpellsValues, IsColumn}
use Rattle.orc_row_index.specs.RunStreams.{present_runs, text_runs, scalar_runs, value_runs}
use Rattle.orc_row_index.proofs.ColumnPlaces.{stand_long}
use Rattle.orc_row_index_check.specs.Tables.{HasFew, IsFew}
use Rattle.orc_values.proofs.Lists.{values_few}

bits_few : (b : List ℕ) (all : List Bool) → IsBitStream b all → length all < 2 ^ 31 → HasFew IsByteRun b
bits_few b all h few = (h.packed, h.runs, omega (arith, few, held_len h.packed all h.held))

present_few : (b : List ℕ) (marks : List Bool) → Marks b marks → length marks < 2 ^ 31 → IsFew (present_runs b)
present_few [] marks h few = tt
present_few (x ∷ b) marks h few = bits_few (x ∷ b) marks h few

texts_few : (d : Bool) (x : Streams) (vs : List Cell) → SpellsTexts x d vs → length vs < 2 ^ 31 → IsFew (text_runs d x)
texts_few true x vs h few = let s = h.2 in (s.0, s.2, omega (arith, few, stand_long _ s.0 vs s.1))
texts_few false x vs h few = (map size h.0, h.2.0, omega (arith, few, stand_long IsText h.0 vs h.1, length-map h.0 (size {X = ℕ})))

scalar_few : (k : Scalar) (x : Streams) (vs : List Cell) → SpellsScalar k x vs → length vs < 2 ^ 31 → IsFew (scalar_runs k x)
scalar_few kind.Boolean x vs h few = bits_few (x.stream 1) h.0 h.2 (omega (arith, few, stand_long IsBool h.0 vs h.1))
scalar_few kind.Byte x vs h few = (h.0, h.2, omega (arith, few, stand_long IsByte h.0 vs h.1))
scalar_few kind.Short x vs h few = (h.0, h.2, omega (arith, few, stand_long (IsInt kind.Short) h.0 vs h.1))
scalar_few kind.Int x vs h few = (h.0, h.2, omega (arith, few, stand_long (IsInt kind.Int) h.0 vs h.1))
scalar_few kind.Long x vs h few = (h.0, h.2, omega (arith, few, stand_long (IsInt kind.Long) h.0 vs h.1))
scalar_few kind.Date x vs h few = (h.0, h.2, omega (arith, few, stand_long IsDate h.0 vs h.1))
scalar_few kind.String x vs h few = texts_few (has_dictionary x) x vs h few
scalar_few kind.Binary x vs h few = (map size h.0, h.2.0, omega (arith, few, stand_long IsBinary h.0 vs h.1, length-map h.0 (size {X = ℕ})))

own_few : (s : Shape) (x : Streams) (vs : List Cell) → SpellsValues s x vs → length vs < 2 ^ 31 → IsFew (value_runs s x)
own_few (scalar k o) x vs h few = scalar_few k x vs h few
own_few (list_of s o) x vs h few = (map (λ v. size (parts v)) vs, h, omega (arith, few, length-map vs (λ (v : Cell). size (parts v))))
own_few (map_of k v o) x vs h few = (map (λ m. size (pairs_in m)) vs, h, omega (arith, few, length-map vs (λ (m : Cell). size (pairs_in m))))
own_few (struct_of fs o) x vs h few = tt

pub few_in_present : (s : Shape) (x : Streams) (column : List Cell) → IsColumn s x column → IsFew (present_runs (x.stream 0))
few_in_present s x column h = present_few (x.stream 0) (map is_value column) h.marks (omega (arith, h.few, length-map column is_value))

pub few_in_own : (s : Shape) (x : Streams) (column : List Cell) → IsColumn s x column → IsFew (value_runs s x)
few_in_own s x column h = own_few s x (values column) h.spelled (omega (arith, h.few, values_few column))

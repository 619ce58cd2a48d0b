-- Streams that spell a column's cells have the values behind each front of them.
use Rattle.std.proofs.Common.{ℕ, ◌≤◌, Bool, true, false, List, [], ◌∷◌, length, map, arith}
use Rattle.orc_values.specs.Cells.{Cell, parts, pairs_in}
use Rattle.orc_values.specs.Shapes.{Shape, scalar, list_of, map_of, struct_of}
use Rattle.orc_values.specs.declared.kind.Scalar.{Scalar}
use Rattle.orc_values.specs.declared.kind.Scalar.TheVariants as kind
use Rattle.orc_column_reader.specs.Columns.{IsBool}
use Rattle.orc_column_reader.specs.Spellings.{size}
use Rattle.orc_column_reader.specs.Stripe.{Streams, has_dictionary, Marks, SpellsTexts, SpellsScalar, SpellsValues}
use Rattle.orc_row_index.specs.RunStreams.{present_runs, text_runs, scalar_runs, value_runs}
use Rattle.orc_row_index.proofs.ColumnPlaces.{stand_long}
use Rattle.orc_group_reader.specs.Streams.{HasSome}

pub present_some : (b : List ℕ) (marks : List Bool) (n : ℕ) → Marks b marks → n ≤ length marks → HasSome (present_runs b) n
present_some [] marks n h le = tt
present_some (x ∷ b) marks n h le = (marks, h, le)

texts_some : (d : Bool) (x : Streams) (vs : List Cell) (n : ℕ) → SpellsTexts x d vs → HasSome (text_runs d x) n
texts_some true x vs n h = let s = h.2 in (s.0, s.2)
texts_some false x vs n h = (map size h.0, h.2.0)

scalar_some : (k : Scalar) (x : Streams) (vs : List Cell) (n : ℕ) → SpellsScalar k x vs → n ≤ length vs → HasSome (scalar_runs k x) n
scalar_some kind.Boolean x vs n h le = (h.0, h.2, omega (arith, le, stand_long IsBool h.0 vs h.1))
scalar_some kind.Byte x vs n h le = (h.0, h.2)
scalar_some kind.Short x vs n h le = (h.0, h.2)
scalar_some kind.Int x vs n h le = (h.0, h.2)
scalar_some kind.Long x vs n h le = (h.0, h.2)
scalar_some kind.Date x vs n h le = (h.0, h.2)
scalar_some kind.String x vs n h le = texts_some (has_dictionary x) x vs n h
scalar_some kind.Binary x vs n h le = (map size h.0, h.2.0)

pub own_some : (s : Shape) (x : Streams) (vs : List Cell) (n : ℕ) → SpellsValues s x vs → n ≤ length vs → HasSome (value_runs s x) n
own_some (scalar k o) x vs n h le = scalar_some k x vs n h le
own_some (list_of s o) x vs n h le = (map (λ v. size (parts v)) vs, h)
own_some (map_of k v o) x vs n h le = (map (λ m. size (pairs_in m)) vs, h)
own_some (struct_of fs o) x vs n h le = tt

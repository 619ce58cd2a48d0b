-- Why a stripe has no rows, by its columns one after the other: the columns above store cells by their own streams,
-- and this one doesn't store as many cells as they have children (ORC specification, "Column Encodings").
use Rattle.std.specs.Prelude.{ℕ, suc, ◌+◌, Bool, List, length, ◌⊎◌}
use Rattle.orc_values.specs.Cells.{Cell, values}
use Rattle.orc_values.specs.Shapes.{Shape, scalar, list_of, map_of, struct_of, Fields, no_field, field, width}
use Rattle.orc_column_reader.specs.Faults.{MarksFail, DictionaryFails, ValuesFail}
use Rattle.orc_column_reader.specs.Needs.{MarksBegin, ValuesNeeded}
use Rattle.orc_column_reader.specs.Stripe.{Streams, in_present}
use Rattle.orc_directory.specs.declared.fault.StripeFault.{StripeFault}
use Rattle.orc_column_walk.specs.OwnColumns.{IsOwnColumn, elements_together, pairs_together}

-- an error of a column's own streams: of PRESENT, of the dictionary, or of the others
abbrev pub OwnFault : Shape → Streams → ℕ → Bool → ℕ → StripeFault → Type 0
OwnFault s x c all n f =
    MarksFail (in_present x) all n c f
    ⊎ (DictionaryFails s x c f
    ⊎ ((v : ℕ) × ValuesNeeded all n (MarksBegin (in_present x)) v × ValuesFail s x all v c f))

-- The own streams of column c don't store n cells, for this reason.
pub record SpellsNoCells (s : Shape) (x : Streams) (c : ℕ) (all : Bool) (n : ℕ) (f : StripeFault) : Type 0 where
  pub none : (own : List Cell) → IsOwnColumn s x n own → ⊥
  pub fault : OwnFault s x c all n f

-- a column is invalid, or one below it
abbrev pub RefusedFrom : (ℕ → List Cell → Bool → StripeFault → Type 0)
    → Shape → (ℕ → Streams) → ℕ → Bool → ℕ → StripeFault → Type 0
RefusedFrom below s columns c all n f =
    SpellsNoCells s (columns c) c all n f ⊎ ((own : List Cell) × IsOwnColumn s (columns c) n own × below c own all f)

abbrev mutual
  -- a column below one with these cells is invalid
  pub RefusedBelow : Shape → (ℕ → Streams) → ℕ → List Cell → Bool → StripeFault → Type 0
  RefusedBelow (scalar k o) columns c own all f = ⊥
  RefusedBelow (list_of s o) columns c own all f =
      RefusedFrom (RefusedBelow s columns) s columns (suc c) all (elements_together own) f
  RefusedBelow (map_of k v o) columns c own all f =
      RefusedFrom (RefusedBelow k columns) k columns (suc c) all (pairs_together own) f
      ⊎ RefusedFrom (RefusedBelow v columns) v columns (suc c + width k) all (pairs_together own) f
  RefusedBelow (struct_of fs o) columns c own all f = RefusedWithin fs columns (suc c) all (length (values own)) f

  pub RefusedWithin : Fields → (ℕ → Streams) → ℕ → Bool → ℕ → StripeFault → Type 0
  RefusedWithin no_field columns c all n f = ⊥
  RefusedWithin (field name s fs) columns c all n f =
      RefusedFrom (RefusedBelow s columns) s columns c all n f ⊎ RefusedWithin fs columns (c + width s) all n f

-- a column that must have n cells is invalid, or one below it
abbrev pub RefusedDown : Shape → (ℕ → Streams) → ℕ → Bool → ℕ → StripeFault → Type 0
RefusedDown s columns c all n f = RefusedFrom (RefusedBelow s columns) s columns c all n f

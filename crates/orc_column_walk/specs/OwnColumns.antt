-- What the streams of one column store without those below it, for all columns down a schema: which cells are null,
-- and the values or the sizes of the others (ORC specification, "Column Encodings").
use Rattle.std.specs.Prelude.{◌≡◌, ℕ, suc, ◌+◌, ◌<◌, ◌≤◌, pos, List, length, replicate, map, sum}
use Rattle.std.specs.List.{flat_map}
use Rattle.orc_rle.specs.declared.sign.Sign.TheVariants.{Unsigned}
use Rattle.orc_values.specs.Cells.{Cell, parts, pairs_in, values}
use Rattle.orc_values.specs.Shapes.{Shape, scalar, list_of, map_of, struct_of, Fields, no_field, field, width}
use Rattle.orc_column_reader.specs.Numbers.{AreNumbers}
use Rattle.orc_column_reader.specs.Spellings.{Nullable}
use Rattle.orc_column_reader.specs.Stripe.{Streams, version, Marks, SpellsScalar, in_present, in_length}
use Rattle.orc_values.specs.Limits.{cell_limit, most_cells}
use Rattle.orc_values.specs.Childless.{list_of_size, map_of_size, childless_struct}

-- LENGTH stores the sizes of lists or maps, which add up to no more than a column may have cells
abbrev pub SpellsSizes : (ℕ → Cell) → Streams → List Cell → Type 0
SpellsSizes sized x vs =
    (sizes : List ℕ)
    × AreNumbers (version x) Unsigned (in_length x) (map pos sizes)
    × (vs ≡ map sized sizes)
    × (sum sizes ≤ most_cells)

-- the streams of a column besides PRESENT, without the columns below, store these values; structs have no such
-- streams
abbrev pub SpellsOwnValues : Shape → Streams → List Cell → Type 0
SpellsOwnValues (scalar k o) x vs = SpellsScalar k x vs
SpellsOwnValues (list_of s o) x vs = SpellsSizes list_of_size x vs
SpellsOwnValues (map_of k v o) x vs = SpellsSizes map_of_size x vs
SpellsOwnValues (struct_of fs o) x vs = vs ≡ replicate (length vs) childless_struct

-- The own streams of a column store `count` cells, without children.
pub record IsOwnColumn (s : Shape) (x : Streams) (count : ℕ) (own : List Cell) : Type 0 where
  pub counted : length own ≡ count
  pub few : count < cell_limit
  pub spelled : Nullable (Marks (in_present x)) (SpellsOwnValues s x) own

-- how many elements all lists among the cells have
abbrev pub elements_together : List Cell → ℕ
elements_together cells = length (flat_map parts (values cells))

-- how many pairs all maps among the cells have
abbrev pub pairs_together : List Cell → ℕ
pairs_together cells = length (flat_map pairs_in (values cells))

abbrev mutual
  -- Down the schema, each column's own streams store cells, as many as the column above has children: the rows, the
  -- elements of the lists above, the pairs of the maps above, or the structs above that aren't null.
  pub AreOwnColumns : Shape → (ℕ → Streams) → (ℕ → List Cell) → ℕ → Type 0
  AreOwnColumns (scalar k o) x own n = IsOwnColumn (scalar k o) (x 0) n (own 0)
  AreOwnColumns (list_of s o) x own n =
      IsOwnColumn (list_of s o) (x 0) n (own 0)
      × AreOwnColumns s (λ c. x (suc c)) (λ c. own (suc c)) (elements_together (own 0))
  AreOwnColumns (map_of k v o) x own n =
      IsOwnColumn (map_of k v o) (x 0) n (own 0)
      × AreOwnColumns k (λ c. x (suc c)) (λ c. own (suc c)) (pairs_together (own 0))
      × AreOwnColumns v (λ c. x (suc (width k + c))) (λ c. own (suc (width k + c))) (pairs_together (own 0))
  AreOwnColumns (struct_of fs o) x own n =
      IsOwnColumn (struct_of fs o) (x 0) n (own 0)
      × AreOwnFields fs (λ c. x (suc c)) (λ c. own (suc c)) (length (values (own 0)))

  pub AreOwnFields : Fields → (ℕ → Streams) → (ℕ → List Cell) → ℕ → Type 0
  AreOwnFields no_field x own n = Unit {0}
  AreOwnFields (field name s fs) x own n =
      AreOwnColumns s x own n × AreOwnFields fs (λ c. x (width s + c)) (λ c. own (width s + c)) n

-- ---- the same by the columns' numbers, with cells that exist but aren't named

-- a column's own streams store n cells, and those of the columns below store the children of these cells
abbrev pub OwnFrom : (ℕ → List Cell → Type 0) → Shape → (ℕ → Streams) → ℕ → ℕ → Type 0
OwnFrom below s columns c n = (own : List Cell) × IsOwnColumn s (columns c) n own × below c own

abbrev mutual
  -- the columns below one with these cells
  pub OwnBelow : Shape → (ℕ → Streams) → ℕ → List Cell → Type 0
  OwnBelow (scalar k o) columns c own = Unit {0}
  OwnBelow (list_of s o) columns c own = OwnFrom (OwnBelow s columns) s columns (suc c) (elements_together own)
  OwnBelow (map_of k v o) columns c own =
      OwnFrom (OwnBelow k columns) k columns (suc c) (pairs_together own)
      × OwnFrom (OwnBelow v columns) v columns (suc c + width k) (pairs_together own)
  OwnBelow (struct_of fs o) columns c own = OwnWithin fs columns (suc c) (length (values own))

  pub OwnWithin : Fields → (ℕ → Streams) → ℕ → ℕ → Type 0
  OwnWithin no_field columns c n = Unit {0}
  OwnWithin (field name s fs) columns c n =
      OwnFrom (OwnBelow s columns) s columns c n × OwnWithin fs columns (c + width s) n

-- column c has n cells by its own streams, and each column below as many as the one above has children
abbrev pub OwnDown : Shape → (ℕ → Streams) → ℕ → ℕ → Type 0
OwnDown s columns c n = OwnFrom (OwnBelow s columns) s columns c n

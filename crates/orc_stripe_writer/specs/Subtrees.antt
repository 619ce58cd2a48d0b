-- What holds for the columns of a type's parts: their cells fit, are few, and are written (this project's).
use Rattle.std.specs.Prelude.{ℕ, ◌<◌, List, length}
use Rattle.std.specs.List.{flat_map}
use Rattle.orc_rle.specs.declared.sign.Rle.{Rle}
use Rattle.orc_values.specs.Shapes.{Shape, Fields, widths}
use Rattle.orc_values.specs.Cells.{Cell, keys_in, values_in, values}
use Rattle.orc_values.specs.Columns.{cells_within}
use Rattle.orc_values.specs.Fits.{RowsFit}
use Rattle.orc_values.specs.Limits.{cell_limit}
use Rattle.orc_stripe_writer.specs.declared.columns.Columns.{Columns}
use Rattle.orc_stripe_writer.specs.Firsts.{firsts_of}
use Rattle.orc_stripe_writer.specs.Indexes.{HaveIndexes}
use Rattle.orc_stripe_writer.specs.WrittenStripe.{AreFew, indexed_columns, HasColumns, HaveStats}

-- the keys of the maps fit the type k, and their values fit the type v
abbrev pub PairsFit : Shape → Shape → List Cell → Type 0
PairsFit k v maps = RowsFit k (flat_map keys_in (values maps)) × RowsFit v (flat_map values_in (values maps))

-- no column of the keys or of the values has more cells than a stripe may have
abbrev pub PairsAreFew : Shape → Shape → List Cell → Type 0
PairsAreFew k v maps = AreFew k (flat_map keys_in (values maps)) × AreFew v (flat_map values_in (values maps))

-- no column of the fields has more cells than a stripe may have
abbrev pub FieldsAreFew : Fields → List (List Cell) → Type 0
FieldsAreFew fs structs = (d : ℕ) → d < widths fs → length (cells_within fs d structs) < cell_limit

-- the first n columns of the rows are written, their statistics, and if the stride is above 0 their row indexes
pub record HasWritten (rle : Rle) (stride : ℕ) (s : Shape) (rows : List Cell) (n : ℕ) (out : Columns) : Type 0 where
  pub columns : HasColumns rle s rows n out.body.bytes.items out.body.directory.items out.encodings.items
  pub stats : HaveStats s rows n out.stats.items
  pub indexes : HaveIndexes s rows (firsts_of stride (length rows)) columns.columns (indexed_columns stride n)
      out.indexes

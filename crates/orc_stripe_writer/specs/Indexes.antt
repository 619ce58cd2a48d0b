-- The row indexes of a stripe's columns as they are written: one per column, before the streams of data (ORC
-- specification, "Stripes", "Row Group Index").
use Rattle.std.specs.Prelude.{◌≡◌, ℕ, zero, suc, ◌+◌, ◌<◌, Some, List, [], ◌∷◌, ◌++◌, length, slice_get}
use Rattle.std.specs.List.{flat_map}
use Rattle.orc_wire.specs.declared.stripe_footer.StreamMsg.{StreamMsg}
use Rattle.orc_wire.specs.declared.stripe_footer.StripeFooter.{StripeFooter}
use Rattle.orc_wire.specs.StreamKinds.{ROW_INDEX}
use Rattle.orc_values.specs.Cells.{Cell, keys_in, values_in, values}
use Rattle.orc_values.specs.Columns.{cells, cells_within}
use Rattle.orc_values.specs.Shapes.{Shape, Fields, width, widths, shape_at, shape_within}
use Rattle.orc_column_reader.specs.Starting.{AreStreams}
use Rattle.orc_column_reader.specs.Stripe.{Streams, IsColumn, columns_of}
use Rattle.orc_column_reader.specs.declared.starting.ColumnStreams.{ColumnStreams}
use Rattle.orc_row_index.specs.RowIndex.{IsWrittenIndex}
use Rattle.orc_stripe_writer.specs.declared.body.Body.{Body}
use Rattle.orc_row_groups.specs.Groups.{bounds_of}
use Rattle.orc_stripe_writer.specs.WrittenColumn.{Written}

-- the streams of a written column, by their kind
abbrev pub written_stream : Written → ℕ → List ℕ
written_stream w zero = w.marks
written_stream w (suc zero) = w.content
written_stream w (suc (suc zero)) = w.lengths
written_stream w (suc (suc (suc zero))) = w.dictionary_data
written_stream w (suc (suc (suc (suc k)))) = []

-- a written column's streams as a reader finds them
abbrev pub streams_written : Written → Streams
streams_written w = record { encoding = w.encoding; stream = written_stream w }

-- a row index's line in the directory, which it has even without bytes
abbrev pub index_line : ℕ → List ℕ → StreamMsg
index_line c text = record { kind = ROW_INDEX; column = c; length = length text }

-- the lines of the row indexes of the columns from number c on
abbrev pub index_lines : ℕ → List (List ℕ) → List StreamMsg
index_lines c [] = []
index_lines c (t ∷ ts) = index_line c t ∷ index_lines (suc c) ts

-- the row indexes of all columns, one after the other
abbrev pub index_bytes : List (List ℕ) → List ℕ
index_bytes indexes = flat_map (λ t. t) indexes

-- the row indexes of the first n columns; `firsts` has how many rows come before each group
pub record WritesIndexes (s : Shape) (rows : List Cell) (firsts : List ℕ) (columns : List Written) (n : ℕ)
    (indexes : List (List ℕ)) : Type 0 where
  pub counted : length indexes ≡ n
  pub each : (c : ℕ) (w : Written) (t : List ℕ) → slice_get columns c ≡ Some w → slice_get indexes c ≡ Some t
      → IsWrittenIndex (shape_at s c) (streams_written w) (cells s c rows) (bounds_of s c rows firsts) t

-- the body has the bytes and the lines of the row indexes of the first n columns
pub record HaveIndexes (s : Shape) (rows : List Cell) (firsts : List ℕ) (columns : List Written) (n : ℕ)
    (body : Body) : Type 0 where
  pub indexes : List (List ℕ)
  pub are : WritesIndexes s rows firsts columns n indexes
  pub bytes_are : body.bytes.items ≡ index_bytes indexes
  pub lines_are : body.directory.items ≡ index_lines 0 indexes

-- one more row index is added, that of the next column
pub record AddsIndex (is_text : List ℕ → Type 0) (old new : Body) : Type 0 where
  pub text : List ℕ
  pub is : is_text text
  pub bytes : new.bytes.items ≡ old.bytes.items ++ text
  pub directory : new.directory.items ≡ old.directory.items ++ index_line (length old.directory.items) text ∷ []

-- the streams of all columns, as they are found in a stripe
pub record AreAllStreams (footer : StripeFooter) (bytes : List ℕ) (streams : List ColumnStreams) : Type 0 where
  pub counted : length streams ≡ length footer.columns
  pub each : (c : ℕ) (r : ColumnStreams) → slice_get streams c ≡ Some r → AreStreams (columns_of footer bytes c) r

-- the streams are those that were written
pub record AreAsWritten (columns : List Written) (streams : List ColumnStreams) : Type 0 where
  pub counted : length columns ≡ length streams
  pub each : (c : ℕ) (w : Written) (r : ColumnStreams)
      → slice_get columns c ≡ Some w → slice_get streams c ≡ Some r
      → AreStreams (streams_written w) r

-- column c has streams, and they spell these cells
abbrev pub SpellColumn : List ColumnStreams → ℕ → Shape → List Cell → Type 0
SpellColumn streams c t column =
    (r : ColumnStreams) × (slice_get streams c ≡ Some r) × (x : Streams) × AreStreams x r × IsColumn t x column

-- the streams of the columns from number c on spell the cells of the columns of t
abbrev pub SpellFrom : List ColumnStreams → ℕ → Shape → List Cell → Type 0
SpellFrom streams c t column = (d : ℕ) → d < width t → SpellColumn streams (c + d) (shape_at t d) (cells t d column)

-- the streams of the columns from number c on spell the keys of maps, and after them their values
abbrev pub SpellPairsFrom : List ColumnStreams → ℕ → Shape → Shape → List Cell → Type 0
SpellPairsFrom streams c k v maps =
    SpellFrom streams c k (flat_map keys_in (values maps))
    × SpellFrom streams (c + width k) v (flat_map values_in (values maps))

-- the streams of the columns from number c on spell the fields of structs
abbrev pub SpellFieldsFrom : List ColumnStreams → ℕ → Fields → List (List Cell) → Type 0
SpellFieldsFrom streams c fs structs =
    (d : ℕ) → d < widths fs → SpellColumn streams (c + d) (shape_within fs d) (cells_within fs d structs)

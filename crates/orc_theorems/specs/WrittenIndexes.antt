-- Files whose row indexes are as a writer writes them (ORC specification, "Row Group Index").
use Rattle.std.specs.Prelude.{◌≡◌, ℕ, ◌<◌, true, Option, List, [], ◌∷◌, length}
use Rattle.std.specs.List.{AllZip}
use Rattle.orc_wire.specs.declared.stripe_footer.StripeFooter.{StripeFooter}
use Rattle.orc_wire.specs.declared.stripe_info.StripeInfo.{StripeInfo}
use Rattle.orc_wire.specs.StreamKinds.{ROW_INDEX}
use Rattle.orc_values.specs.Cells.{Cell}
use Rattle.orc_values.specs.Columns.{cells}
use Rattle.orc_values.specs.Shapes.{Shape, width, shape_at}
use Rattle.orc_directory.specs.Directory.{has_stream, slice}
use Rattle.orc_column_reader.specs.Stripe.{HasFooter, columns_of}
use Rattle.orc_row_index.specs.RowIndex.{IsWrittenIndex}
use Rattle.orc_row_groups.specs.Groups.{starts_of_groups, bounds_of}
use Rattle.orc_row_batch.specs.declared.options.Options.{Options}
use Rattle.orc_tail.specs.Stripes.{stripe_at, stripe_bytes}
use Rattle.orc_file_reader.specs.FileRows.{FileIs, cut_rows}
use Rattle.orc_file_writer.specs.Writing.{WroteWholeFile}
use Rattle.orc_tail.specs.declared.tail.Tail.{Tail}
use Rattle.orc_check.specs.Findings.{rows_at}

-- the directory lists a row index of column c, which is the one that a writer writes from the column's streams and
-- cells
abbrev pub HasWrittenIndex : ℕ → Shape → List Cell → StripeFooter → List ℕ → ℕ → Type 0
HasWrittenIndex stride s rows footer bytes c =
    (has_stream c ROW_INDEX footer.streams ≡ true)
    × IsWrittenIndex (shape_at s c) (columns_of footer bytes c) (cells s c rows)
    (bounds_of s c rows (starts_of_groups stride (length rows))) (slice c ROW_INDEX footer.streams bytes)

-- each column of a stripe with these rows has the row index that a writer writes
pub record IsIndexedAsWritten (s : Shape) (stride : ℕ) (info : StripeInfo) (bytes : List ℕ)
    (rows : List Cell) : Type 0 where
  pub footer : StripeFooter
  pub has_footer : HasFooter s info bytes footer
  pub written : (c : ℕ) → c < width s → HasWrittenIndex stride s rows footer bytes c

-- if the stride is above 0, each column of each stripe of a file with these rows has the row index that a writer
-- writes
abbrev pub HasWrittenIndexes : List ℕ → Tail → List Cell → Type 0
HasWrittenIndexes bytes tail rows =
    0 < tail.stride → (n : ℕ) → n < length tail.stripes
    → IsIndexedAsWritten tail.schema tail.stride (stripe_at tail.stripes n)
    (stripe_bytes (stripe_at tail.stripes n) bytes)
    (rows_at (cut_rows tail.stripes rows) n)

-- each input is a file with these rows, and its row indexes are those that a writer writes
abbrev pub AreIndexedAsWritten : List (List ℕ) → List (List Cell) → Type 0
AreIndexedAsWritten [] [] = Unit {0}
AreIndexedAsWritten [] (rows ∷ parts) = ⊥
AreIndexedAsWritten (b ∷ bs) [] = ⊥
AreIndexedAsWritten (b ∷ bs) (rows ∷ parts) =
    ((tail : Tail) × FileIs b tail rows × HasWrittenIndexes b tail rows) × AreIndexedAsWritten bs parts

-- `Writer::finish` wrote these bytes for these rows
pub record WasWritten (bytes : List ℕ) (rows : List Cell) : Type 0 where
  pub options : Options
  pub schema : Shape
  pub tail : Tail
  pub first : Option (List ℕ)
  pub told : Option (List ℕ)
  pub finish_wrote : WroteWholeFile options schema tail first told rows
  pub bytes_are : bytes ≡ finish_wrote.bytes

-- `Writer::finish` wrote these bytes for these rows, with this schema and these options
abbrev pub WasWrittenAs : Options → Shape → List ℕ → List Cell → Type 0
WasWrittenAs options schema bytes rows =
    (tail : Tail) × (first : Option (List ℕ)) × (told : Option (List ℕ))
    × (finish_wrote : WroteWholeFile options schema tail first told rows) × (bytes ≡ finish_wrote.bytes)

-- `Writer::finish` wrote each input, for these rows
abbrev pub WereWritten : List (List ℕ) → List (List Cell) → Type 0
WereWritten = AllZip WasWritten

-- What the writer makes of rows: the row indexes column by column, then the streams column by column, then the footer
-- (ORC specification, "Stripes"). The specification leaves the order of the streams to the writer.
use Rattle.std.specs.Prelude.{◌≡◌, ℕ, zero, suc, ◌<◌, Some, List, [], ◌∷◌, ◌++◌, map, length, slice_get}
use Rattle.std.specs.List.{flat_map}
use Rattle.orc_rle.specs.declared.sign.Rle.{Rle}
use Rattle.orc_wire.specs.declared.stripe_footer.StreamMsg.{StreamMsg}
use Rattle.orc_wire.specs.declared.stripe_footer.StripeFooter.{StripeFooter}
use Rattle.orc_wire.specs.declared.encoding.Encoding.{Encoding}
use Rattle.orc_wire.specs.declared.stripe_info.StripeInfo.{StripeInfo}
use Rattle.orc_wire.specs.Messages.{stripe_footer}
use Rattle.orc_wire.specs.CanonicalMessages.{stripe_footer_text}
use Rattle.orc_wire.specs.Spells.{Spells}
use Rattle.orc_wire.specs.StreamKinds.{PRESENT, DATA, LENGTH, DICTIONARY_DATA}
use Rattle.orc_values.specs.Shapes.{Shape, width, shape_at}
use Rattle.orc_values.specs.Cells.{Cell}
use Rattle.orc_values.specs.Columns.{cells}
use Rattle.orc_stats.specs.declared.stat.Stat.{Stat}
use Rattle.orc_values.specs.Limits.{cell_limit}
use Rattle.orc_row_groups.specs.Groups.{starts_of_groups}
use Rattle.orc_stripe_writer.specs.Indexes.{index_lines, index_bytes, WritesIndexes}
use Rattle.orc_stripe_writer.specs.WrittenColumn.{Written, IsWrittenColumn}
use Rattle.orc_stats.specs.ColumnStatistics.{column_stat}

-- no column has more cells than a stripe may have
abbrev pub AreFew : Shape → List Cell → Type 0
AreFew s rows = (c : ℕ) → c < width s → length (cells s c rows) < cell_limit

-- a stream's line in the directory, which it has if it has bytes
abbrev pub line : ℕ → ℕ → List ℕ → List StreamMsg
line c k [] = []
line c k (b ∷ bs) = record { kind = k; column = c; length = length (b ∷ bs) } ∷ []

-- the streams of a column: PRESENT, DATA, LENGTH, DICTIONARY_DATA
abbrev pub column_bytes : Written → List ℕ
column_bytes w = w.marks ++ (w.content ++ (w.lengths ++ w.dictionary_data))

-- the lines of the directory for a column's streams, by their kinds
abbrev pub column_lines : ℕ → Written → List StreamMsg
column_lines c w =
    line c PRESENT w.marks
    ++ (line c DATA w.content ++ (line c LENGTH w.lengths ++ line c DICTIONARY_DATA w.dictionary_data))

-- the lines of the directory for the columns from number c on
abbrev pub lines_from : ℕ → List Written → List StreamMsg
lines_from c [] = []
lines_from c (w ∷ ws) = column_lines c w ++ lines_from (suc c) ws

-- each column from number c on is what the writer makes of its cells
abbrev pub AreWrittenColumns : Rle → Shape → List Cell → ℕ → List Written → Type 0
AreWrittenColumns rle s rows c [] = Unit {0}
AreWrittenColumns rle s rows c (w ∷ ws) =
    IsWrittenColumn rle (shape_at s c) (cells s c rows) w × AreWrittenColumns rle s rows (suc c) ws

-- the streams of the first n columns of the rows, their directory and their encodings
pub record HasColumns (rle : Rle) (s : Shape) (rows : List Cell) (n : ℕ) (streams : List ℕ)
    (directory : List StreamMsg) (encodings : List Encoding) : Type 0 where
  pub columns : List Written
  pub counted : length columns ≡ n
  pub are : AreWrittenColumns rle s rows 0 columns
  pub joined : streams ≡ flat_map column_bytes columns
  pub listed : directory ≡ lines_from 0 columns
  pub encoded : encodings ≡ map (λ (w : Written). w.encoding) columns

-- how many columns have a row index: none if the stride is 0
abbrev pub indexed_columns : ℕ → ℕ → ℕ
indexed_columns zero columns = 0
indexed_columns (suc k) columns = columns

-- The bytes are the row indexes of all columns if the stride is above 0, then the streams of all columns of the rows,
-- and last the canonical text of the footer. The stripe isn't placed in a file yet: its offset is 0.
pub record IsWrittenStripe (rle : Rle) (stride : ℕ) (s : Shape) (rows : List Cell) (info : StripeInfo)
    (bytes : List ℕ) : Type 0 where
  pub indexes : List (List ℕ)
  pub streams : List ℕ
  pub lines : List StreamMsg
  pub footer : StripeFooter
  pub columns : HasColumns rle s rows (width s) streams lines footer.columns
  pub are : WritesIndexes s rows (starts_of_groups stride (length rows)) columns.columns (indexed_columns stride (width s)) indexes
  pub listed : footer.streams ≡ index_lines 0 indexes ++ lines
  pub parts : bytes ≡ index_bytes indexes ++ (streams ++ stripe_footer_text.text footer)
  pub spelled : Spells stripe_footer 0 0 (stripe_footer_text.text footer) footer
  pub info_is : info
      ≡ record {
        offset = 0;
        index_length = length (index_bytes indexes);
        data_length = length streams;
        footer_length = length (stripe_footer_text.text footer);
        number_of_rows = length rows;
      }

-- the statistics of the first n columns, in order
pub record HaveStats (s : Shape) (rows : List Cell) (n : ℕ) (stats : List Stat) : Type 0 where
  pub counted : length stats ≡ n
  pub each : (c : ℕ) → c < n → slice_get stats c ≡ Some (column_stat s rows c)

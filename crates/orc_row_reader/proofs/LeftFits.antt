-- What readers have still to give are cells of their columns' type.
use Rattle.std.proofs.Common.{ℕ, Option, Some, None, List, [], ◌∷◌, map, take, drop, sym, subst}
use Rattle.std.specs.declared.vec.Vec.{Vec}
use Rattle.std.specs.declared.alloc.Global.{Global}
use Rattle.orc_values.specs.Cells.{Cell, values}
use Rattle.orc_values.specs.Fits.{RowsFit}
use Rattle.orc_values.specs.Shapes.{Shape, scalar, list_of, map_of, struct_of, Fields, no_field, field, width}
use Rattle.orc_values.specs.declared.kind.Scalar.{Scalar}
use Rattle.orc_values.specs.declared.kind.Scalar.TheVariants as kind
use Rattle.orc_column_reader.specs.Columns.{IsBool, IsByte, IsInt, IsDate, IsText, IsBinary, IsEntry, entry_bytes, TextsLeft, ScalarLeft, ValuesLeft, FieldsLeft, CellsLeft}
use Rattle.orc_column_reader.specs.Spellings.{concatenated}
use Rattle.orc_column_reader.specs.declared.column.ColumnReader.{ColumnReader}
use Rattle.orc_column_reader.specs.declared.column.ValueSource.{ValueSource}
use Rattle.orc_column_reader.specs.declared.entry.Entry.{Entry}
use Rattle.orc_column_reader.proofs.ByNumber.{FieldsFit, first_of, second_of, fits_of_values, standing_fits, int_value, byte_value, date_value, text_value, word_value, binary_value, bool_value, lists_of, maps_of, records_of, zip_fit, empties_fit}

texts_fit : (o : List ℕ) (entries : Option (Vec Entry Global)) (source : ValueSource) (vs : List Cell) → TextsLeft entries source vs → RowsFit (scalar kind.String o) vs
texts_fit o None source vs h = standing_fits IsText (scalar kind.String o) (text_value o) h.0 vs h.1
texts_fit o (Some entries) source vs h =
    let words = map entry_bytes entries.items in
    standing_fits (IsEntry words) (scalar kind.String o) (word_value words o) h.0 vs h.1

scalar_fit : (k : Scalar) (o : List ℕ) (source : ValueSource) (vs : List Cell) → ScalarLeft k source vs → RowsFit (scalar k o) vs
scalar_fit kind.Boolean o source vs h = standing_fits IsBool (scalar kind.Boolean o) (bool_value o) h.0 vs h.1
scalar_fit kind.Byte o source vs h = standing_fits IsByte (scalar kind.Byte o) (byte_value o) h.0 vs h.1
scalar_fit kind.Short o source vs h = standing_fits (IsInt kind.Short) (scalar kind.Short o) (int_value kind.Short o) h.0 vs h.1
scalar_fit kind.Int o source vs h = standing_fits (IsInt kind.Int) (scalar kind.Int o) (int_value kind.Int o) h.0 vs h.1
scalar_fit kind.Long o source vs h = standing_fits (IsInt kind.Long) (scalar kind.Long o) (int_value kind.Long o) h.0 vs h.1
scalar_fit kind.Date o source vs h = standing_fits IsDate (scalar kind.Date o) (date_value o) h.0 vs h.1
scalar_fit kind.Binary o source vs h = standing_fits IsBinary (scalar kind.Binary o) (binary_value o) h.0 vs h.1
scalar_fit kind.String o source vs h = texts_fit o source.entries source vs h

-- a column's cells, where its values fit
column_fits : (s : Shape) (readers : List ColumnReader) → ((source : ValueSource) (below : List ColumnReader) (vs : List Cell) → ValuesLeft s source below vs → RowsFit s vs) → (cells : List Cell) → CellsLeft s readers cells → RowsFit s cells
column_fits s [] fit cells h = absurd h
column_fits s (own ∷ below) fit cells h = fits_of_values s cells (fit own.source below (values cells) h.1)

mutual
  values_fit : (s : Shape) (source : ValueSource) (below : List ColumnReader) (vs : List Cell) → ValuesLeft s source below vs → RowsFit s vs
  values_fit (scalar k o) source below vs h = scalar_fit k o source vs h
  values_fit (list_of s o) source below vs h = (lists_of s o h.0 vs h.1 (column_fits s below (λ own rest us g. values_fit s own rest us g) (concatenated h.0) h.2.1.1)).fit
  values_fit (map_of k v o) source below vs h =
      let ps = concatenated h.0 in
      let both = h.2.1.1 in
      let keys = column_fits k (take (width k) below) (λ own rest us g. values_fit k own rest us g) (map first_of ps) both.0 in
      let seconds = column_fits v (drop (width k) below) (λ own rest us g. values_fit v own rest us g) (map second_of ps) both.1 in
      (maps_of k v o h.0 vs h.1 keys seconds).fit
  values_fit (struct_of fs o) source below vs h = (records_of fs o h.0 vs h.1 (fields_fit fs below h.0 h.2)).fit

  fields_fit : (fs : Fields) (readers : List ColumnReader) (structs : List (List Cell)) → FieldsLeft fs readers structs → FieldsFit fs structs
  fields_fit no_field readers structs h = empties_fit structs h
  fields_fit (field name s fs) readers structs h =
      let heads = column_fits s (take (width s) readers) (λ own rest us g. values_fit s own rest us g) h.heads h.first_spelled in
      subst (FieldsFit (field name s fs)) (sym h.parts) (zip_fit name s fs h.heads h.tails h.alike heads (fields_fit fs (drop (width s) readers) h.tails h.others_spelled))

pub left_fits : (s : Shape) (readers : List ColumnReader) (cells : List Cell) → CellsLeft s readers cells → RowsFit s cells
left_fits s readers cells h = column_fits s readers (λ own rest us g. values_fit s own rest us g) cells h

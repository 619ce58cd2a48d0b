-- Why no file is written from lines, and what was written then.
use Rattle.std.specs.Prelude.{◌≡◌, ◌≢◌, ◌<◌, ◌≤◌, ◌⊎◌, ℕ, List, [], ◌∷◌, ◌++◌, length, Option}
use Rattle.orc_row_batch.specs.declared.options.Options.{Options}
use Rattle.orc_values.specs.Shapes.{Shape, width}
use Rattle.orc_values.specs.Cells.{Cell}
use Rattle.orc_values.specs.Columns.{cells}
use Rattle.orc_types.specs.Schemas.{HasText}
use Rattle.orc_trees.specs.TextFaults.{TextFault}
use Rattle.orc_trees.specs.declared.fault.TypeFault.{TypeFault}
use Rattle.orc_trees.specs.declared.fault.TypeFault.TheVariants as types
use Rattle.orc_json_rows.specs.declared.json_fault.JsonFault.{JsonFault}
use Rattle.orc_json_rows.specs.declared.json_fault.JsonFault.TheVariants as json
use Rattle.orc_json.specs.RowTexts.{RowTextFault}
use Rattle.orc_values.specs.Limits.{cell_limit}
use Rattle.orc_io.specs.Devices.{appended}
use Rattle.orc_tail.specs.Layout.{magic}
use Rattle.orc_tail.specs.Stripes.{most_stripes, most_rows}
use Rattle.orc_file_writer.specs.Writing.{WrittenStripe, AreWrittenStripes, AreFull, written_bytes, rows_of, infos_of, PassesBytes, Progress, HasPushed, IsCutOff}
use Rattle.orc_tail.specs.declared.fault.FileFault.TheVariants as file
use Rattle.orc_cli_write.specs.Lines.{AreLines, LinesSpell, LineSpellsRows, AreRowsOfLines}
use Rattle.orc_cli_output.specs.Output.{IsWantOfMemory, IsOutputOrMemory}
use Rattle.orc_cli_output.specs.declared.fault.CliFault.{CliFault}
use Rattle.orc_cli_output.specs.declared.fault.CliFault.TheVariants.{Run, Types, Json, File}

-- why a line spells no row: it isn't JSON, or it is the JSON of a value that isn't a row
abbrev pub LineSpellsNone : Shape → List ℕ → JsonFault → Type 0
LineSpellsNone s line why = RowTextFault s line why

-- the layers of the errors of a line: that of JSON, and that of files, but not `SourceFailed`
abbrev pub IsOfLine : CliFault → Type 0
IsOfLine (Run why) = ⊥
IsOfLine (Types why) = ⊥
IsOfLine (Json why) = Unit {0}
IsOfLine (File why) = why ≢ file.SourceFailed

-- want of memory for lines: in the layer of JSON, or in that of files, in which the writer's and the program's own
-- count
abbrev pub IsWantOfLines : CliFault → Type 0
IsWantOfLines fault = (fault ≡ Json json.OutOfMemory) ⊎ (fault ≡ File file.OutOfMemory)

-- The want of memory that `write` may fail with: that of types, for the schema's text, after which nothing was
-- written; or that for lines.
abbrev pub IsWantOfWrite : Option (List ℕ) → Option (List ℕ) → CliFault → Type 0
IsWantOfWrite old new fault = ((fault ≡ Types types.OutOfMemory) × (new ≡ old)) ⊎ IsWantOfLines fault

-- the errors of a writer whose rows fit its schema
abbrev pub IsOfWriter : CliFault → Type 0
IsOfWriter fault = (fault ≡ File file.Limit) ⊎ IsOutputOrMemory fault

-- Why the row of a line isn't pushed, and the rows of the line that the writer was given: none if the line spells
-- none, or if there was no memory to read it.
abbrev pub EndsAtLine : Shape → List ℕ → CliFault → List Cell → Type 0
EndsAtLine s line fault own =
    ((own ≡ []) × ((why : JsonFault) × (fault ≡ Json why) × LineSpellsNone s line why))
    ⊎ (((own ≡ []) × IsWantOfMemory fault)
    ⊎ (LineSpellsRows s line own × IsOfWriter fault))

-- a line of the bytes that isn't empty, and the rows that the lines before it spell
pub record StopsAtLine (s : Shape) (bytes : List ℕ) (rows : List Cell) (line : List ℕ) : Type 0 where
  pub ended : List (List ℕ)
  pub last : List ℕ
  pub lines : AreLines bytes ended last
  pub before : List (List ℕ)
  pub after : List (List ℕ)
  pub lines_are : ended ++ last ∷ [] ≡ before ++ line ∷ after
  pub spell : LinesSpell s before rows
  pub some : line ≢ []

-- why not all rows of the lines are pushed, and the rows that the writer was given
pub record EndsInLines (s : Shape) (bytes : List ℕ) (fault : CliFault) (rows : List Cell) : Type 0 where
  pub line : List ℕ
  pub before : List Cell
  pub own : List Cell
  pub stops : StopsAtLine s bytes before line
  pub ends : EndsAtLine s line fault own
  pub rows_are : rows ≡ before ++ own

-- Why no file of this schema is written: an error of a line, of the output or of memory before the first row, or of
-- the writer after the last row.
abbrev pub EndsUnder : Shape → List ℕ → CliFault → List Cell → Type 0
EndsUnder s bytes fault rows =
    EndsInLines s bytes fault rows
    ⊎ (((rows ≡ []) × IsOutputOrMemory fault)
    ⊎ (AreRowsOfLines s bytes rows × IsOfWriter fault))

-- a column has more cells in the rows of a stripe than it may have
abbrev pub HaveManyCells : Shape → List Cell → Type 0
HaveManyCells s rows = (c : ℕ) × (c < width s) × (cell_limit ≤ length (cells s c rows))

-- A file of the rows would pass a limit. The rows are those of full stripes, one after the other after `ORC`, and of
-- a last stripe, which has at least one row and at most as many as a full one. With the last stripe there are too
-- many stripes or rows, or it has too many cells in a column, or the stripes have too many bytes.
pub record PassesLimits (options : Options) (s : Shape) (rows : List Cell) : Type 0 where
  pub stripes_written : List WrittenStripe
  pub last : List Cell
  pub are : AreWrittenStripes options s 3 stripes_written
  pub full : AreFull options.stripe_rows stripes_written
  pub some : 0 < length last
  pub most : length last ≤ options.stripe_rows
  pub rows_are : rows ≡ rows_of stripes_written ++ last
  pub passes : (most_stripes ≤ length stripes_written)
      ⊎ ((most_rows < length rows)
      ⊎ (HaveManyCells s last ⊎ PassesBytes options s (infos_of stripes_written) last))

-- the error is `Limit` only if the rows that the writer was given pass a limit
abbrev pub LimitStands : Options → Shape → CliFault → List Cell → Type 0
LimitStands options s fault rows = fault ≡ File file.Limit → PassesLimits options s rows

-- The output has got, after what it had first, `ORC` and the full stripes of the rows, and nothing more. The rows
-- after these, which are too few for a stripe, are in no stripe, and there is no tail.
pub record StandsOpen (options : Options) (s : Shape) (first told : Option (List ℕ)) (rows : List Cell) : Type 0 where
  pub stripes_written : List WrittenStripe
  pub kept : List Cell
  pub are : AreWrittenStripes options s 3 stripes_written
  pub full : AreFull options.stripe_rows stripes_written
  pub told_is : told ≡ appended first (magic ++ written_bytes stripes_written)
  pub rows_are : rows ≡ rows_of stripes_written ++ kept
  pub few : length kept < options.stripe_rows

-- after an error of a line the file has neither a last stripe nor a tail, with the rows that the writer was given
abbrev pub OpenAtLine : Options → Shape → Option (List ℕ) → Option (List ℕ) → CliFault → List Cell → Type 0
OpenAtLine options s first told fault rows = (why : JsonFault) → fault ≡ Json why → StandsOpen options s first told rows

-- a writer was given these rows after whatever it was given before
abbrev pub PushesAlso : Progress → Progress → List Cell → Type 0
PushesAlso old new own =
    (first : Option (List ℕ)) (rows : List Cell) → HasPushed old first rows → HasPushed new first (rows ++ own)

-- What was written after an error of a line, if the writer was given these rows after whatever it was given before: a
-- prefix of a file of the first n of all these rows, for some n. They pass a limit if the error is `Limit`.
abbrev pub LeavesAtLine : Options → Shape → Progress → Option (List ℕ) → CliFault → List Cell → Type 0
LeavesAtLine options s old told fault own =
    (first : Option (List ℕ)) (rows : List Cell) → HasPushed old first rows
    → LimitStands options s fault (rows ++ own) × IsCutOff options s first told (rows ++ own)
    × OpenAtLine options s first told fault (rows ++ own)

-- Why `write` fails with a schema's text and lines, and what was written then: nothing if the text isn't that of a
-- schema, and otherwise a prefix of a file of the first n rows that the writer was given, for some n. After an error
-- of a line no more was written than the full stripes of these rows.
abbrev pub RefusesWrite : Options → List ℕ → List ℕ → Option (List ℕ) → Option (List ℕ) → CliFault → Type 0
RefusesWrite options text bytes old new fault =
    ((why : TypeFault) × (fault ≡ Types why) × TextFault text why × (new ≡ old))
    ⊎ ((s : Shape) × (rows : List Cell) × HasText s text × EndsUnder s bytes fault rows
    × LimitStands options s fault rows × IsCutOff options s old new rows × OpenAtLine options s old new fault rows)

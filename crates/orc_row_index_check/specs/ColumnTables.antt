-- The tables of the runs of a column's streams, in which its positions are looked up (ORC specification, "Row Group
-- Index", "Column Encodings").
use Rattle.std.specs.Prelude.{◌≡◌, ℕ, ◌⊎◌, Option, List}
use Rattle.orc_rle.specs.declared.fault.RunFault.{RunFault}
use Rattle.orc_values.specs.Shapes.{Shape}
use Rattle.orc_column_reader.specs.Stripe.{Streams, has_dictionary, in_present}
use Rattle.orc_directory.specs.declared.fault.StripeFault.{StripeFault}
use Rattle.orc_directory.specs.declared.fault.StripeFault.TheVariants.{Run}
use Rattle.orc_directory.specs.declared.fault.StreamKind.{StreamKind}
use Rattle.orc_directory.specs.declared.fault.StreamKind.TheVariants as stream
use Rattle.orc_row_index.specs.RunStreams.{RunStream, present_runs, value_runs, kind_of_values}
use Rattle.orc_row_index.specs.Walking.{lent_bytes}
use Rattle.orc_row_index_check.specs.declared.column_table.ColumnTable.{ColumnTable}
use Rattle.orc_row_index_check.specs.Tables.{IsTable, TableRunsFail}

-- these are the tables of a column's streams
pub record AreTables (present : RunStream) (content : Option (List ℕ)) (own : RunStream)
    (tables : ColumnTable) : Type 0 where
  pub of_present : IsTable present tables.present
  pub of_content : lent_bytes tables.content ≡ content
  pub of_own : IsTable own tables.own

-- an error of the runs of a stream of the column
abbrev pub FailsIn : ℕ → StreamKind → RunStream → StripeFault → Type 0
FailsIn column kind runs fault = (cause : RunFault) × (fault ≡ Run column kind cause) × TableRunsFail runs cause

-- an error of the runs of one of the column's streams that have positions
abbrev pub ColumnFails : Shape → Streams → ℕ → StripeFault → Type 0
ColumnFails s x column fault =
    FailsIn column stream.Present (present_runs (in_present x)) fault
    ⊎ FailsIn column (kind_of_values s (has_dictionary x)) (value_runs s x) fault

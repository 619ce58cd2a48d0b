use Rattle.orc_file_reader.specs.FileRows.{rows_together}
use Rattle.orc_merge_laws.specs.Grouping.{all_leaves}
use Rattle.orc_theorems.specs.WrittenIndexes.{IsIndexedAsWritten}
use Rattle.orc_theorems.proofs.MergedStripes.{have_rows, merged_stripes}
use Rattle.orc_theorems.proofs.IndexesAsWritten.{as_written_moved, file_indexed, files_indexed, files_hold}
use Rattle.orc_theorems.proofs.OneRunLemmas.{file_reads_one}
use Rattle.orc_theorems.proofs.written_positions.writers_positions.Goals as goal

pub returns-clause-written : goal.returns-clause-written
returns-clause-written c = λ options schema tail first told rows wrote. (
  c.written_laws.ensures.rows options schema tail wrote.bytes rows wrote.schema wrote.file wrote.few,
  file_indexed options schema tail wrote.bytes rows wrote.file,
)

pub returns-clause-merged : goal.returns-clause-merged
returns-clause-merged c = λ files tail out parts merge few such.
    let holds = files_hold files parts such in (
      c.grouping.ensures.rows files tail out parts merge few (have_rows IsIndexedAsWritten files parts holds),
      merged_stripes IsIndexedAsWritten as_written_moved files tail out parts merge holds,
    )

pub returns-clause-grouped : goal.returns-clause-grouped
returns-clause-grouped c = λ groups out parts wrote such.
    let gave = c.grouping.ensures.wrote groups out wrote in
    let flat = c.grouping.ensures.back groups out gave.0 gave.1 in
    let holds = files_hold (all_leaves groups) parts such in (
      flat.0,
      c.grouping.ensures.rows (all_leaves groups) flat.0 out parts flat.1 wrote.4 (have_rows IsIndexedAsWritten (all_leaves groups) parts holds),
      merged_stripes IsIndexedAsWritten as_written_moved (all_leaves groups) flat.0 out parts flat.1 holds,
    )

pub returns-clause-one_run : goal.returns-clause-one_run
returns-clause-one_run c = file_reads_one

pub returns-clause-in_files : goal.returns-clause-in_files
returns-clause-in_files c = λ options schema tail first told rows wrote.
    file_reads_one wrote.bytes tail rows (c.written_laws.ensures.rows options schema tail wrote.bytes rows wrote.schema wrote.file wrote.few)
    (file_indexed options schema tail wrote.bytes rows wrote.file)

pub returns-clause-in_merges : goal.returns-clause-in_merges
returns-clause-in_merges c = λ groups out parts wrote were.
    let gave = c.grouping.ensures.wrote groups out wrote in
    let flat = c.grouping.ensures.back groups out gave.0 gave.1 in
    let holds = files_hold (all_leaves groups) parts (files_indexed (all_leaves groups) parts were) in
    let is = c.grouping.ensures.rows (all_leaves groups) flat.0 out parts flat.1 wrote.4 (have_rows IsIndexedAsWritten (all_leaves groups) parts holds) in
    (flat.0, is, file_reads_one out flat.0 (rows_together parts) is (merged_stripes IsIndexedAsWritten as_written_moved (all_leaves groups) flat.0 out parts flat.1 holds))

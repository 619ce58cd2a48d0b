use Rattle.orc_file_reader.specs.FileRows.{rows_together}
use Rattle.orc_check.proofs.NoFinding.{whole_tells}
use Rattle.orc_merge_laws.specs.Grouping.{all_leaves}
use Rattle.orc_theorems.proofs.MergedIndexes.{merged_indexes, are_files, are_honest}
use Rattle.orc_theorems.proofs.merged_findings.findings_of_merges.Goals as goal

pub returns-clause-merged : goal.returns-clause-merged
returns-clause-merged c = λ files tail out parts merge few found.
    let none = c.finding_laws.ensures.none in
    let is = c.grouping.ensures.rows files tail out parts merge few (are_files files parts found) in
    let honest = are_honest none files parts found in (
      is,
      (none out tail (rows_together parts) is).1 (
        c.orders.ensures.honest files tail out parts merge honest,
        whole_tells tail (rows_together parts) (c.orders.ensures.whole files tail out parts merge honest),
        merged_indexes none files tail out parts merge found,
      ),
    )

pub returns-clause-grouped : goal.returns-clause-grouped
returns-clause-grouped c = λ groups out parts wrote found.
    let gave = c.grouping.ensures.wrote groups out wrote in
    let flat = c.grouping.ensures.back groups out gave.0 gave.1 in
    let none = c.finding_laws.ensures.none in
    let is = c.grouping.ensures.rows (all_leaves groups) flat.0 out parts flat.1 wrote.4 (are_files (all_leaves groups) parts found) in
    let honest = are_honest none (all_leaves groups) parts found in (
      flat.0,
      is,
      (none out flat.0 (rows_together parts) is).1 (
        c.orders.ensures.honest (all_leaves groups) flat.0 out parts flat.1 honest,
        whole_tells flat.0 (rows_together parts) (c.orders.ensures.whole (all_leaves groups) flat.0 out parts flat.1 honest),
        merged_indexes none (all_leaves groups) flat.0 out parts flat.1 found,
      ),
    )

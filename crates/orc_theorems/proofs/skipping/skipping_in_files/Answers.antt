use Rattle.std.proofs.Common.{◌≡◌}
use Rattle.std.specs.List.{AllByRecursion}
use Rattle.orc_values.specs.Columns.{cells}
use Rattle.orc_stats.specs.declared.stat.Stat.{Stat}
use Rattle.orc_file_reader.specs.FileRows.{rows_together}
use Rattle.orc_skipping.specs.Rules.{taken_boldly}
use Rattle.orc_skipping.specs.Right.{Admits}
use Rattle.orc_theorems.proofs.StoredLemmas.{stored_right, cells_skipped, at_told_column}
use Rattle.orc_theorems.proofs.skipping.skipping_in_files.Goals as goal

pub returns-clause-bold : goal.returns-clause-bold
returns-clause-bold c = λ bytes tail rows told part p is found stored skipped.
    let r = stored_right c.finding_laws.ensures.none bytes tail rows told part is found stored in
    c.skipping_laws.ensures.bold tail.schema part told p r.0 r.1 skipped

pub returns-clause-right : goal.returns-clause-right
returns-clause-right c = stored_right c.finding_laws.ensures.none

pub returns-clause-any : goal.returns-clause-any
returns-clause-any c = λ bytes tail rows told part test is found stored none.
    let r = stored_right c.finding_laws.ensures.none bytes tail rows told part is found stored in
    c.skipping_laws.ensures.any tail.schema part told test r.0 none

pub returns-clause-cells : goal.returns-clause-cells
returns-clause-cells c = λ bytes tail rows told part column x p is found stored own skipped.
    let r = stored_right c.finding_laws.ensures.none bytes tail rows told part is found stored in
    cells_skipped x (cells tail.schema column part) p
    (at_told_column (told column) x (λ (y : Stat). AllByRecursion (Admits y) (cells tail.schema column part)) own (r.0 column))
    (at_told_column (told column) x (λ (y : Stat). taken_boldly y ≡ y) own (r.1 column)) skipped

pub returns-clause-written : goal.returns-clause-written
returns-clause-written c = λ options schema tail before after rows told part p wrote stored skipped.
    let is = (c.written_files_read_back.ensures.written options schema tail before after rows wrote).1 in
    let none = c.written_finding_laws.ensures options schema tail wrote.bytes rows wrote.file is in
    let r = stored_right c.finding_laws.ensures.none wrote.bytes tail rows told part is none stored in
    c.skipping_laws.ensures.bold tail.schema part told p r.0 r.1 skipped

pub returns-clause-merged : goal.returns-clause-merged
returns-clause-merged c = λ groups out parts wrote found.
    let is = c.findings_of_merges.ensures.grouped groups out parts wrote found in (
      is.0,
      is.1,
      λ told part p stored skipped.
          let r = stored_right c.finding_laws.ensures.none out is.0 (rows_together parts) told part is.1 is.2 stored in
          c.skipping_laws.ensures.bold is.0.schema part told p r.0 r.1 skipped,
    )

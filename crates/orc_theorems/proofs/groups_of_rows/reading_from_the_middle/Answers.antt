use Rattle.orc_file_reader.specs.FileRows.{rows_together}
use Rattle.orc_theorems.proofs.BeforeLemmas.{starts_before, footer_before}
use Rattle.orc_theorems.proofs.FilesBefore.{lines_before, ends_before}
use Rattle.orc_theorems.proofs.groups_of_rows.reading_from_the_middle.Goals as goal

pub returns-clause-starts : goal.returns-clause-starts
returns-clause-starts c = c.start_laws.ensures

pub returns-clause-lines : goal.returns-clause-lines
returns-clause-lines c = c.printing_from_the_middle.ensures.lines

pub returns-clause-only : goal.returns-clause-only
returns-clause-only c = c.printing_from_the_middle.ensures.only

pub returns-clause-merged : goal.returns-clause-merged
returns-clause-merged c = λ groups out parts wrote found.
    let is = c.findings_of_merges.ensures.grouped groups out parts wrote found in (
      is.0,
      is.1,
      is.2,
      c.start_laws.ensures out is.0 (rows_together parts) is.1 is.2,
      λ stripe group lines printed. c.printing_from_the_middle.ensures.lines out is.0 (rows_together parts) stripe group lines is.1 is.2 printed,
    )

pub returns-clause-alone : goal.returns-clause-alone
returns-clause-alone c = λ view x rows group bytes starts differs. starts_before view x rows group bytes starts differs

pub returns-clause-footer : goal.returns-clause-footer
returns-clause-footer c = λ view group bytes has differs. footer_before view group bytes view.footer differs has

pub returns-clause-lines_alone : goal.returns-clause-lines_alone
returns-clause-lines_alone c = λ bytes other tail rows stripe group lines is found differs printed.
    lines_before bytes tail rows is (c.start_laws.ensures bytes tail rows is found) stripe group other differs lines printed

pub returns-clause-only_alone : goal.returns-clause-only_alone
returns-clause-only_alone c = λ bytes other tail rows stripe group old new fault is found differs place have refused.
    ends_before bytes tail rows is (c.start_laws.ensures bytes tail rows is found) stripe group other differs old new fault place have refused

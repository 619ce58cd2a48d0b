use Rattle.std.proofs.Common.{[]}
use Rattle.orc_theorems.proofs.written_files.written_files_read_back.Goals as goal

pub returns-clause-written : goal.returns-clause-written
returns-clause-written c = λ options schema tail first told rows wrote.
    (wrote.told_is, c.written_laws.ensures.rows options schema tail wrote.bytes rows wrote.schema wrote.file wrote.few)

pub returns-clause-opened : goal.returns-clause-opened
returns-clause-opened c = λ options schema tail first told rows opened wrote found.
    let is = c.written_laws.ensures.rows options schema tail wrote.bytes rows wrote.schema wrote.file wrote.few in
    c.tail_laws.ensures.one wrote.bytes opened tail found is.tail_is

pub returns-clause-read : goal.returns-clause-read
returns-clause-read c = λ options schema tail first told rows opened found wrote read.
    let is = c.written_laws.ensures.rows options schema tail wrote.bytes rows wrote.schema wrote.file wrote.few in
    c.row_laws.ensures.one wrote.bytes opened tail found rows read is

pub returns-clause-statistics : goal.returns-clause-statistics
returns-clause-statistics c = λ options schema tail first told rows wrote. (
  c.written_laws.ensures.honest options schema tail wrote.bytes rows wrote.file,
  c.written_laws.ensures.whole options schema tail wrote.bytes rows wrote.file,
)

pub returns-clause-checked : goal.returns-clause-checked
returns-clause-checked c = λ options schema tail first told rows found wrote findings.
    let is = c.written_laws.ensures.rows options schema tail wrote.bytes rows wrote.schema wrote.file wrote.few in
    c.finding_laws.ensures.one wrote.bytes tail rows found [] findings (c.written_finding_laws.ensures options schema tail wrote.bytes rows wrote.file is)

pub returns-clause-one : goal.returns-clause-one
returns-clause-one c = λ options schema tail other first told start end rows wrote another.
    c.written_laws.ensures.one options schema other tail another.bytes wrote.bytes rows another.file wrote.file

pub returns-clause-front : goal.returns-clause-front
returns-clause-front c = λ options schema first told rows cut few. c.written_laws.ensures.front options schema first told rows cut few

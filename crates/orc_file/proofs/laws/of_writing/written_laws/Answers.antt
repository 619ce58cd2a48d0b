use Rattle.orc_file.proofs.WrittenLaws.{written_tail_is, written_rows, written_honest, written_whole}
use Rattle.orc_file.proofs.ShortFile.{written_short, front_file}
use Rattle.orc_file.proofs.OneWritten.{one_written}
use Rattle.orc_file.proofs.laws.of_writing.written_laws.Goals as goal

pub returns-clause-read : goal.returns-clause-read
returns-clause-read c = λ options s tail first told rows is. (is.bytes, is.told_is, is.file, written_rows options s tail is.bytes rows is.file is.schema is.few)

pub returns-clause-tail : goal.returns-clause-tail
returns-clause-tail c = λ options s tail bytes rows schema is few. written_tail_is options s tail bytes rows is schema few

pub returns-clause-rows : goal.returns-clause-rows
returns-clause-rows c = λ options s tail bytes rows schema is few. written_rows options s tail bytes rows is schema few

pub returns-clause-honest : goal.returns-clause-honest
returns-clause-honest c = written_honest

pub returns-clause-whole : goal.returns-clause-whole
returns-clause-whole c = written_whole

pub returns-clause-one : goal.returns-clause-one
returns-clause-one c = one_written

pub returns-clause-short : goal.returns-clause-short
returns-clause-short c = λ options s tail bytes rows schema types is. written_short options s tail bytes rows schema is types

pub returns-clause-front : goal.returns-clause-front
returns-clause-front c = front_file

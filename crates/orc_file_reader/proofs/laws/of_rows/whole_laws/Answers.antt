use Rattle.orc_file_reader.proofs.HonestLemmas.{whole_all, whole_some}
use Rattle.orc_file_reader.proofs.laws.of_rows.whole_laws.Goals as goal

pub returns-clause-all : goal.returns-clause-all
returns-clause-all c = whole_all

pub returns-clause-less : goal.returns-clause-less
returns-clause-less c = whole_some

use Rattle.orc_file_reader.proofs.RowLemmas.{one_file, no_file, rows_cut, cut_whole}
use Rattle.orc_file_reader.proofs.laws.of_rows.row_laws.Goals as goal

pub returns-clause-one : goal.returns-clause-one
returns-clause-one c = one_file

pub returns-clause-none : goal.returns-clause-none
returns-clause-none c = no_file

pub returns-clause-cut : goal.returns-clause-cut
returns-clause-cut c = rows_cut

pub returns-clause-whole : goal.returns-clause-whole
returns-clause-whole c = cut_whole

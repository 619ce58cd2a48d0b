use Rattle.std.proofs.Common.{◌∙◌, sym}
use Rattle.orc_column_reader.proofs.ByNumber.{to_number, from_number}
use Rattle.orc_column_reader.proofs.OneRows.{one_cells}
use Rattle.orc_stripe_reader.proofs.laws.column_laws.Goals as goal

pub returns-clause-one_list : goal.returns-clause-one_list
returns-clause-one_list c = λ s columns count a b p q. one_cells s columns a b (from_number s columns count a p) (from_number s columns count b q) (p.counted ∙ sym q.counted)

pub returns-clause-by_number : goal.returns-clause-by_number
returns-clause-by_number c = to_number

pub returns-clause-by_tree : goal.returns-clause-by_tree
returns-clause-by_tree c = from_number

use Rattle.orc_column_reader.proofs.StartLemmas.{tree_alike}
use Rattle.orc_stripe_reader.proofs.laws.reader_laws.Goals as goal

pub returns-clause-found : goal.returns-clause-found
returns-clause-found c = λ s columns readers cells start spelled. (tree_alike s columns readers start).to cells spelled

pub returns-clause-only : goal.returns-clause-only
returns-clause-only c = λ s columns readers cells start spelled. (tree_alike s columns readers start).from cells spelled

use Rattle.orc_column_reader.specs.Numbers.{NumbersLeft}
use Rattle.orc_column_reader.proofs.Fronts.{nothing}
use Rattle.orc_column_reader.proofs.numbers.Numbers.ready.Goals as goal

pub returns-then-self-values-clause-found : goal.returns-then-self-values-clause-found
returns-then-self-values-clause-found c = nothing (NumbersLeft c.args.self.now)

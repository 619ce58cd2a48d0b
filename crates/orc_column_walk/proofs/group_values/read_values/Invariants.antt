use Rattle.orc_values.specs.Views.{shape}
use Rattle.orc_column_walk.proofs.PassedLemmas.{AreCountedValues}
use Rattle.orc_column_walk.proofs.group_values.read_values.Given as goal

abbrev pub invariant-loop : goal.invariant-loop
invariant-loop g l = AreCountedValues g.T.Tally.measure (shape l.tree) l.initial.source l.source l.counter (g.T.Tally.kept l.initial.tally) (g.T.Tally.kept l.tally) l.fn.before l.passed

use Rattle.orc_values.specs.Views.{shape}
use Rattle.orc_row_index.proofs.GroupFolds.{AreEntered}
use Rattle.orc_row_index.proofs.entries.put_groups.Given as goal

abbrev pub invariant-loop-group : goal.invariant-loop-group
invariant-loop-group g l =
    AreEntered g.T.Tally.measure (shape l.fn.tree) l.fn.streams l.fn.owns l.fn.bounds l.placed l.group l.initial.out.items l.out.items l.counts l.walk (g.T.Tally.kept l.whole)

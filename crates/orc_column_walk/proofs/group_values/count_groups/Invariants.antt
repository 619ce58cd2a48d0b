use Rattle.orc_values.specs.Views.{shape}
use Rattle.orc_column_walk.proofs.GroupLemmas.{GroupsRead}
use Rattle.orc_column_walk.proofs.group_values.count_groups.Given as goal

abbrev pub invariant-loop-group : goal.invariant-loop-group
invariant-loop-group g l =
    GroupsRead g.T.Tally.measure (shape l.tree) l.initial.source l.source l.groups.count l.groups.bounds.now l.groups.values l.groups.value_bounds.now l.group (g.T.Tally.kept l.whole) l.passed l.found.items l.bounds_below.items

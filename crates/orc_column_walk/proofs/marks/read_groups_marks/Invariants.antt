use Rattle.orc_column_walk.proofs.GroupMarkLemmas.{GroupMarksRead}
use Rattle.orc_column_walk.proofs.marks.read_groups_marks.Given as goal

abbrev pub invariant-loop-group : goal.invariant-loop-group
invariant-loop-group l = GroupMarksRead l.column l.initial.present l.present l.count l.bounds l.group l.values l.before.items

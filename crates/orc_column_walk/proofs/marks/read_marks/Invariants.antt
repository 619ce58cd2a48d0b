use Rattle.orc_column_walk.proofs.MarkLemmas.{MarksRead}
use Rattle.orc_column_walk.proofs.marks.read_marks.Given as goal

abbrev pub invariant-loop : goal.invariant-loop
invariant-loop l = MarksRead l.column l.initial.present l.present l.counter l.values

use Rattle.orc_column_walk.proofs.ScalarLemmas.{ScalarsRead}
use Rattle.orc_column_walk.proofs.scalars.skip_scalars.Given as goal

abbrev pub invariant-loop : goal.invariant-loop
invariant-loop l = ScalarsRead l.kind l.initial.source l.source l.counter

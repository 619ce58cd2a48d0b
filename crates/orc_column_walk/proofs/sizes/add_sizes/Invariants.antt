use Rattle.orc_column_walk.proofs.SizeLemmas.{SizesRead}
use Rattle.orc_column_walk.proofs.sizes.add_sizes.Given as goal

abbrev pub invariant-loop : goal.invariant-loop
invariant-loop l = SizesRead l.initial.source l.source l.counter l.together

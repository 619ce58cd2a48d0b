use Rattle.orc_values.specs.Views.{shape}
use Rattle.orc_row_index_check.proofs.Entries.{Deciding}
use Rattle.orc_row_index_check.proofs.decided.positions_right_behind.Given as goal

abbrev pub invariant-loop-group : goal.invariant-loop-group
invariant-loop-group l = Deciding (shape l.fn.tree) l.fn.streams l.fn.counts l.fn.entries l.group l.right.items

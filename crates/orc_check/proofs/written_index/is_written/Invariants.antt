use Rattle.orc_values.specs.Views.{shape}
use Rattle.orc_check.proofs.Matching.{Matches}
use Rattle.orc_check.proofs.written_index.is_written.Given as goal

-- the entries of the groups so far stand in front
abbrev pub invariant-loop-group : goal.invariant-loop-group
invariant-loop-group l = Matches (shape l.fn.tree) l.fn.streams l.fn.groups l.placed l.group-index l.initial.rest l.rest l.walk

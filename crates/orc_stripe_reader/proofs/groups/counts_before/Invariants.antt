use Rattle.std.proofs.Common.{◌≡◌, ◌++◌, map, drop}
use Rattle.orc_column_walk.specs.declared.found.GroupFound.{GroupFound}
use Rattle.orc_stripe_reader.proofs.groups.counts_before.Given as goal

-- the counts so far, before those of the groups that are left
abbrev pub invariant-loop-group : goal.invariant-loop-group
invariant-loop-group l = l.counts.items ++ map (λ (group : GroupFound). group.before) (drop l.group-index l.groups) ≡ map (λ (group : GroupFound). group.before) l.groups

use Rattle.std.proofs.Common.{◌≡◌, ◌≤◌, ◌++◌, length, drop}
use Rattle.std.specs.List.{AllByRecursion}
use Rattle.orc_skipping.specs.Groups.{CountsFew, groups_kept}
use Rattle.orc_skipping.specs.Tests.{predicate}
use Rattle.orc_skipping.proofs.keeping_groups.keep_groups.Given as goal

-- whatever completes the groups from here on completes all
abbrev pub invariant-loop-group : goal.invariant-loop-group
invariant-loop-group l = record {
  within : l.group ≤ length l.entries;
  kept : AllByRecursion (CountsFew l.kind) l.entries
      → l.places.items ++ groups_kept l.kind (predicate l.test) l.stripe l.group (drop l.group l.entries)
      ≡ l.fn.places.items ++ groups_kept l.kind (predicate l.test) l.stripe 0 l.entries;
}

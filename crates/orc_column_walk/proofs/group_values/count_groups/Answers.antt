use Rattle.std.proofs.Common.{◌≡◌, ◌≤◌, ◌+◌, ◌^◌, ◌∙◌, List, length, refl, ap, arith}
use Rattle.orc_values.specs.Cells.{Cell}
use Rattle.orc_values.specs.Views.{shape}
use Rattle.orc_stats.specs.Kinds.{kind_of}
use Rattle.orc_stats.specs.Statistics.{stat}
use Rattle.orc_stats.specs.Tallies.{cells_kept, stat_of_kept}
use Rattle.orc_row_groups.proofs.Groups.{bound_up, bound_within}
use Rattle.orc_column_walk.proofs.GroupLemmas.{no_groups_read, group_read, lacks_group, fault_group, groups_all, fewer_values}
use Rattle.orc_column_walk.proofs.group_values.count_groups.Goals as goal

pub loop-group-init : goal.loop-group-init
loop-group-init g c = rw (c.in_ok-found.ensures.items, c.in_ok-bounds_below.ensures.items)
    (no_groups_read g.T.Tally.measure (shape c.args.tree.now) c.args.source.now c.args.groups.count c.args.groups.bounds.now c.args.groups.values c.args.groups.value_bounds.now (g.T.Tally.kept c.unit-whole.result) c.nothing-passed.result c.requires.first c.requires.values c.unit-whole.ensures c.nothing-passed.ensures)

pub overflow_sub-cells : goal.overflow_sub-cells
overflow_sub-cells g c = omega (arith, c.bound_of.ensures, c.bound_of-in-loop-group.ensures, bound_up c.args.groups.count c.args.groups.bounds.now c.loop-group.group c.requires.bounds)

pub overflow_sub-part : goal.overflow_sub-part
overflow_sub-part g c = omega (arith, c.bound_of-in-loop-group-2.ensures, c.bound_of-in-loop-group-3.ensures, bound_up c.args.groups.values c.args.groups.value_bounds.now c.loop-group.group c.requires.values.ascending)

pub read_part-requires : goal.read_part-requires
read_part-requires g c κs =
    let i = c.loop-group.invariant in
    let fewer = fewer_values c.args.groups.count c.args.groups.bounds.now c.args.groups.values c.args.groups.value_bounds.now c.loop-group.group c.requires.bounds c.requires.values in
    let end = bound_within c.args.groups.count c.args.groups.bounds.now (c.loop-group.group + 1) c.requires.bounds in
    let up = bound_up c.args.groups.count c.args.groups.bounds.now c.loop-group.group c.requires.bounds in
    let value_up = bound_up c.args.groups.values c.args.groups.value_bounds.now c.loop-group.group c.requires.values.ascending in (
      (refl, tt),
      (
        c.requires.kind,
        (
          omega (arith, c.bound_of.ensures, c.bound_of-in-loop-group.ensures, c.bound_of-in-loop-group-2.ensures, c.bound_of-in-loop-group-3.ensures, fewer.0, up, value_up),
          (
            omega (arith, ap (λ k. k.count) c.unit-tally.ensures, c.bound_of-in-loop-group-2.ensures, c.bound_of-in-loop-group-3.ensures, fewer.0, fewer.1, up, value_up, end, c.requires.few),
            (
              omega (arith, i.cells_are, c.bound_of.ensures, c.bound_of-in-loop-group.ensures, end, up, c.requires.few),
              omega (arith, i.values_are, c.bound_of-in-loop-group-2.ensures, c.bound_of-in-loop-group-3.ensures, fewer.1, value_up, end, c.requires.few),
            ),
          ),
        ),
      ),
    )

pub returns-in-Err-clause-none : goal.returns-in-Err-clause-none
returns-in-Err-clause-none g c = λ memory.
    lacks_group g.T.Tally.measure (shape c.args.tree.now) c.args.source.now c.loop-group.source c.args.groups.count c.args.groups.bounds.now c.args.groups.values c.args.groups.value_bounds.now c.loop-group.group _ (g.T.Tally.kept c.loop-group.whole) c.loop-group.passed c.loop-group.found.items c.loop-group.bounds_below.items
    c.loop-group.invariant c.requires.values.ascending (omega (arith, c.bound_of-in-loop-group-2.ensures, c.bound_of-in-loop-group-3.ensures)) c.in-Err.ensures.none

pub returns-in-Err-clause-fault : goal.returns-in-Err-clause-fault
returns-in-Err-clause-fault g c = λ memory.
    fault_group g.T.Tally.measure (shape c.args.tree.now) c.args.source.now c.loop-group.source c.args.groups.count c.args.groups.bounds.now c.args.groups.values c.args.groups.value_bounds.now c.loop-group.group _ (g.T.Tally.kept c.loop-group.whole) c.loop-group.passed c.loop-group.found.items c.loop-group.bounds_below.items c.in-Err.fault
    c.loop-group.invariant c.requires.values.ascending (omega (arith, c.bound_of-in-loop-group-2.ensures, c.bound_of-in-loop-group-3.ensures)) (c.in-Err.ensures.fault memory)

pub join-requires : goal.join-requires
join-requires g c κs =
    let i = c.loop-group.invariant in
    let fewer = fewer_values c.args.groups.count c.args.groups.bounds.now c.args.groups.values c.args.groups.value_bounds.now c.loop-group.group c.requires.bounds c.requires.values in
    let end = bound_within c.args.groups.count c.args.groups.bounds.now (c.loop-group.group + 1) c.requires.bounds in
    let value_up = bound_up c.args.groups.values c.args.groups.value_bounds.now c.loop-group.group c.requires.values.ascending in (
      (refl, tt),
      omega (arith, i.whole_counted, c.in-Ok.ensures.counted, ap (λ k. k.count) c.unit-tally.ensures, c.bound_of-in-loop-group-2.ensures, c.bound_of-in-loop-group-3.ensures, fewer.1, value_up, end, c.requires.few),
    )

pub loop-group-preserved : goal.loop-group-preserved
loop-group-preserved g c =
    let m = g.T.Tally.measure in
    let s = shape c.args.tree.now in
    let f = c.in-Ok.ensures.found in
    let are : (cs : List Cell) → length cs ≤ 2 ^ 62 → stat_of_kept m (cells_kept m cs) ≡ stat (kind_of s) cs = λ cs few. g.T.Tally.cells_are cs few ∙ ap (λ k. stat k cs) c.requires.kind in
    group_read m s c.args.source.now c.loop-group.source c.read_part.new.source c.args.groups.count c.args.groups.bounds.now c.args.groups.values c.args.groups.value_bounds.now c.loop-group.group _ _ (g.T.Tally.kept c.loop-group.whole) (g.T.Tally.kept c.join.new.self) (g.T.Tally.kept c.read_part.new.tally)
    c.loop-group.passed c.in-Ok.after c.loop-group.found.items c.push.new.self.items c.loop-group.bounds_below.items c.push-in-loop-group.new.self.items (record { stat = c.in_ok-stat.stat; before = c.loop-group.passed.counts }) f.0
    c.loop-group.invariant c.loop-group-test.true c.requires.bounds c.requires.values
    (omega (arith, c.bound_of.ensures, c.bound_of-in-loop-group.ensures)) (omega (arith, c.bound_of-in-loop-group-2.ensures, c.bound_of-in-loop-group-3.ensures))
    f.1 f.2 c.in-Ok.ensures.before
    (λ cs e l. let k = f.3 cs e l in let start = c.unit-tally.ensures in (rw start at k.0, k.1))
    (omega (arith, c.in-Ok.ensures.counted, ap (λ k. k.count) c.unit-tally.ensures)) c.in-Ok.ensures.cells c.in-Ok.ensures.values
    are (omega (arith, c.requires.few)) c.in_ok-stat.ensures refl c.in_ok-push.ensures.items c.in_ok-push-2.ensures.items c.join.ensures

pub returns-clause-found : goal.returns-clause-found
returns-clause-found g c =
    let m = g.T.Tally.measure in
    let s = shape c.args.tree.now in
    let are : (cs : List Cell) → length cs ≤ 2 ^ 62 → stat_of_kept m (cells_kept m cs) ≡ stat (kind_of s) cs = λ cs few. g.T.Tally.cells_are cs few ∙ ap (λ k. stat k cs) c.requires.kind in
    groups_all m s c.args.source.now c.loop-group.source c.args.groups.count c.args.groups.bounds.now c.args.groups.values c.args.groups.value_bounds.now c.loop-group.group (g.T.Tally.kept c.loop-group.whole) c.loop-group.passed _
    c.loop-group.invariant (omega (arith, c.loop-group-test.false, c.loop-group.auto.group-end)) c.requires.values.as_many are (omega (arith, c.requires.few)) c.in_ok-statistic_of.ensures refl

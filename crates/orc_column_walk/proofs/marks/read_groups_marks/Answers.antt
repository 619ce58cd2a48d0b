use Rattle.std.proofs.Common.{◌+◌, refl, arith}
use Rattle.orc_column_reader.specs.Columns.{MarksLeft}
use Rattle.orc_row_groups.specs.Bounds.{bound_at}
use Rattle.orc_row_groups.proofs.Groups.{bound_up, bound_within}
use Rattle.orc_column_walk.proofs.MarkLemmas.{PresentMet}
use Rattle.orc_column_walk.proofs.ReadLemmas.{read_on}
use Rattle.orc_column_walk.proofs.StartedLemmas.{trues_few}
use Rattle.orc_column_walk.proofs.GroupMarkLemmas.{no_group_marks, group_marks, lacks_group_marks, fault_group_marks, all_group_marks}
use Rattle.orc_column_walk.proofs.marks.read_groups_marks.Goals as goal
use Rattle.orc_row_groups.proofs.BoundLemmas.{bound_past}

pub loop-group-init : goal.loop-group-init
loop-group-init c = rw c.new-before.ensures.items (no_group_marks c.args.column c.args.present.now c.args.count c.args.bounds.now c.requires.first)

pub overflow_add-values : goal.overflow_add-values
overflow_add-values c =
    let i = c.loop-group.invariant in
    let f = c.in-Ok.ensures.found in
    omega (arith, i.few, f.1, f.3, trues_few f.0, c.bound_of.ensures, c.bound_of-in-loop-group.ensures, bound_up c.args.count c.args.bounds.now c.loop-group.group c.requires.bounds, bound_within c.args.count c.args.bounds.now (c.loop-group.group + 1) c.requires.bounds, c.ranges.count.fits)

pub returns-in-Err-clause-none : goal.returns-in-Err-clause-none
returns-in-Err-clause-none c = λ memory.
    lacks_group_marks c.args.column c.args.present.now c.loop-group.present c.args.count c.args.bounds.now c.loop-group.group _ c.loop-group.values c.loop-group.before.items c.loop-group.invariant c.requires.bounds
    (omega (arith, c.bound_of.ensures, c.bound_of-in-loop-group.ensures)) c.in-Err.ensures.none

pub returns-in-Err-clause-fault : goal.returns-in-Err-clause-fault
returns-in-Err-clause-fault c = λ memory.
    fault_group_marks c.args.column c.args.present.now c.loop-group.present c.args.count c.args.bounds.now c.loop-group.group _ c.loop-group.values c.loop-group.before.items c.in-Err.fault c.loop-group.invariant c.requires.bounds
    (omega (arith, c.bound_of.ensures, c.bound_of-in-loop-group.ensures)) (c.in-Err.ensures.fault memory)

pub loop-group-preserved : goal.loop-group-preserved
loop-group-preserved c =
    let f = c.in-Ok.ensures.found in
    group_marks c.args.column c.args.present.now c.loop-group.present c.read_marks.new.present c.args.count c.args.bounds.now c.loop-group.group _ c.loop-group.values c.in-Ok.more _ c.loop-group.before.items c.push.new.self.items f.0
    c.loop-group.invariant c.loop-group-test.true c.requires.bounds (omega (arith, c.bound_of.ensures, c.bound_of-in-loop-group.ensures)) f.1 f.2 c.in-Ok.ensures.before f.3 (omega (arith, f.1, f.3, trues_few f.0)) refl c.in_ok-push.ensures.items

pub returns-clause-found : goal.returns-clause-found
returns-clause-found c =
    all_group_marks c.args.column c.args.present.now c.loop-group.present c.args.count c.args.bounds.now c.loop-group.group c.loop-group.values c.loop-group.before.items c.loop-group.invariant (omega (arith, c.loop-group-test.false, c.loop-group.auto.group-end))

pub returns-clause-before : goal.returns-clause-before
returns-clause-before c =
    let column = c.args.column in
    read_on (MarksLeft c.args.present.now) (MarksLeft c.loop-group.present) (PresentMet column c.args.present.now) (PresentMet column c.loop-group.present) (bound_at c.args.count c.args.bounds.now c.loop-group.group) c.args.count c.loop-group.invariant.marks c.loop-group.invariant.read
    (bound_past c.args.count c.args.bounds.now c.loop-group.group c.loop-group-test.false)

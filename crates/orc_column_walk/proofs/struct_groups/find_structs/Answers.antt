use Rattle.std.proofs.Common.{◌≡◌, List, ◌+◌, ℕ, ◌∙◌, length, refl, sym, ap, subst, arith}
use Rattle.orc_values.specs.Shapes.{struct_of}
use Rattle.orc_row_groups.specs.Bounds.{bound_at}
use Rattle.orc_column_walk.specs.Passed.{AreGroupsFound}
use Rattle.orc_column_walk.proofs.StructLemmas.{struct_group, structs_found}
use Rattle.orc_column_walk.proofs.struct_groups.find_structs.Goals as goal

pub loop-group-preserved : goal.loop-group-preserved
loop-group-preserved c = λ cells fields order h.
    let group = c.loop-group.group in
    let values = c.args.marked.values in
    struct_group (struct_of fields order) c.args.count c.args.bounds.now values c.args.marked.before.items group c.loop-group.groups.items c.push.new.self.items
    (record { stat = c.struct_stat.result; before = record { cells = c.bound_of-start.result; values = c.bound_of-first.result; octets = 0 } })
    c.bound_of-start.result c.bound_of-first.result _ _ cells refl c.requires.bounds c.requires.values h
    c.bound_of-start.ensures (c.bound_of-first.ensures ∙ ap (λ (bs : List ℕ). bound_at values bs group) c.deref.ensures.value)
    (omega (arith, c.bound_of.ensures))
    (omega (arith, c.bound_of-in-loop-group.ensures, ap (λ (bs : List ℕ). bound_at values bs (group + 1)) c.deref-in-loop-group.ensures.value))
    c.struct_stat.ensures.count c.struct_stat.ensures.nulls c.struct_stat.ensures.body refl refl refl c.in_ok-push.ensures.items (c.loop-group.invariant cells fields order h)

pub returns : goal.returns
returns c = λ cells fields order h.
    let last : c.loop-group.group ≡ length c.args.bounds.now = omega (arith, c.loop-group-test.false, c.loop-group.auto.group-end) in
    structs_found fields order c.args.count c.args.bounds.now c.args.marked.values c.args.marked.before.items _ cells h c.struct_stat-2.ensures.count c.struct_stat-2.ensures.nulls c.struct_stat-2.ensures.body refl refl
    (subst (λ (k : ℕ). AreGroupsFound (struct_of fields order) cells c.args.bounds.now k c.loop-group.groups.items) last (c.loop-group.invariant cells fields order h))

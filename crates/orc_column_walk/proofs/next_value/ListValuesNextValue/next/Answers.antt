use Rattle.std.proofs.Common.{[], ap, ◌∙◌}
use Rattle.std.proofs.lemmas.Result.{err_from_is_err_and}
use Rattle.orc_values.specs.Shapes.{struct_of, no_field}
use Rattle.orc_values.specs.Views.{shape}
use Rattle.orc_values.proofs.Views.{shape-List}
use Rattle.orc_column_walk.proofs.NextLemmas.{list_leave, list_children, list_lack, list_before, list_now}
use Rattle.orc_column_walk.proofs.next_value.ListValuesNextValue.next.Goals as goal

pub returns-in_ok-next_size-in-List-clause-found : goal.returns-in_ok-next_size-in-List-clause-found
returns-in_ok-next_size-in-List-clause-found c =
    list_leave (shape c.args.tree.now) (shape c.in-List.field-0.value) c.in-List.field-1.items c.args.source.now c.next_size.new.source c.in_ok-next_size-in-List.field-0
    (ap shape c.in-List.is ∙ shape-List c.in-List.field-0 c.in-List.field-1) c.in_ok-next_size-in-List.ensures.found c.in_ok-next_size-in-List.ensures.room.0 c.in_ok-next_size-in-List.ensures.room.1

pub returns-in_ok-next_size-in-List-clause-children : goal.returns-in_ok-next_size-in-List-clause-children
returns-in_ok-next_size-in-List-clause-children c =
    list_children (shape c.args.tree.now) (shape c.in-List.field-0.value) c.in-List.field-1.items c.in_ok-next_size-in-List.field-0 (ap shape c.in-List.is ∙ shape-List c.in-List.field-0 c.in-List.field-1)

pub returns-in_ok-next_size-in-List-clause-before : goal.returns-in_ok-next_size-in-List-clause-before
returns-in_ok-next_size-in-List-clause-before c =
    list_before (shape c.args.tree.now) (shape c.in-List.field-0.value) c.in-List.field-1.items c.args.source.now c.next_size.new.source (ap shape c.in-List.is ∙ shape-List c.in-List.field-0 c.in-List.field-1) c.in_ok-next_size-in-List.ensures.before

pub returns-in_err-next_size-in-List-clause-none : goal.returns-in_err-next_size-in-List-clause-none
returns-in_err-next_size-in-List-clause-none c =
    let p = err_from_is_err_and c.from_residual.result c.from_residual.ensures.1 in
    rw p.1 (list_lack (shape c.args.tree.now) (shape c.in-List.field-0.value) c.in-List.field-1.items c.args.source.now (ap shape c.in-List.is ∙ shape-List c.in-List.field-0 c.in-List.field-1)
    (λ below. c.in_err-next_size-in-List.ensures.none (struct_of no_field []) below))

pub returns-in_err-next_size-in-List-clause-fault : goal.returns-in_err-next_size-in-List-clause-fault
returns-in_err-next_size-in-List-clause-fault c =
    let p = err_from_is_err_and c.from_residual.result c.from_residual.ensures.1 in
    rw (p.1, p.2) (λ memory.
    list_now (shape c.args.tree.now) (shape c.in-List.field-0.value) c.in-List.field-1.items c.args.source.now c.in_err-next_size-in-List.field-0.0 (ap shape c.in-List.is ∙ shape-List c.in-List.field-0 c.in-List.field-1) (c.in_err-next_size-in-List.ensures.fault memory))

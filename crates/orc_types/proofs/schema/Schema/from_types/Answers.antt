use Rattle.std.proofs.lemmas.Result.{err_from_is_err_and}
use Rattle.orc_values.specs.Views.{shape}
use Rattle.orc_types.proofs.Trees.{one_schema}
use Rattle.orc_types.proofs.Exclusion.{no_schema}
use Rattle.orc_types.proofs.schema.Schema.from_types.Goals as goal

pub returns-in_err-tree-clause-only : goal.returns-in_err-tree-clause-only
returns-in_err-tree-clause-only c =
    let p = err_from_is_err_and c.from_residual.result c.from_residual.ensures.1 in
    rw (p.1, p.2) (λ s h. no_schema c.args.types.now s c.in_err-tree.field-0.0 h c.in_err-tree.ensures.fault)

pub returns-clause-only : goal.returns-clause-only
returns-clause-only c = λ s h. one_schema c.args.types.now (shape c.in_ok-tree.tree) s c.in_ok-tree.ensures.found h

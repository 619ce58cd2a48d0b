use Rattle.std.proofs.Common.{sym, arith}
use Rattle.std.proofs.lemmas.Result.{err_from_is_err_and}
use Rattle.orc_values.specs.Views.{shape}
use Rattle.orc_types.proofs.Trees.{root_fault, more_types, schema_from, no_root, empty_root}
use Rattle.orc_types.proofs.preorder.tree_of.Goals as goal

pub returns-in_default-clause-fault : goal.returns-in_default-clause-fault
returns-in_default-clause-fault c = empty_root c.args.types.now (sym c.in_default.ensures.node)

pub returns-then-root-ne-STRUCT-clause-fault : goal.returns-then-root-ne-STRUCT-clause-fault
returns-then-root-ne-STRUCT-clause-fault c = no_root c.args.types.now c.in-Some.root.now (sym c.in-Some.ensures.node) c.if-root-ne-STRUCT.true

pub returns-in_err-tree-clause-fault : goal.returns-in_err-tree-clause-fault
returns-in_err-tree-clause-fault c =
    let p = err_from_is_err_and c.from_residual-in_err-tree.result c.from_residual-in_err-tree.ensures.1 in
    rw (p.1, p.2) (root_fault c.args.types.now c.in_err-tree.field-0.0 c.in_ok-test_kinds.ensures.found c.in_err-tree.ensures.fault)

pub returns-then-end-types-clause-fault : goal.returns-then-end-types-clause-fault
returns-then-end-types-clause-fault c =
    record {
      kinds = c.in_ok-test_kinds.ensures.found;
      none = more_types c.args.types.now c.in_ok-tree.end (shape c.in_ok-tree.tree) c.in_ok-tree.ensures.found (λ e. c.if-end-types.true (e));
    }

pub returns-clause-found : goal.returns-clause-found
returns-clause-found c =
    schema_from c.args.types.now c.in_ok-tree.end c.in-Some.root.now (shape c.in_ok-tree.tree) c.in_ok-tree.ensures.found (c.if-end-types.false) (sym c.in-Some.ensures.node) c.if-root-ne-STRUCT.false (omega arith) c.requires

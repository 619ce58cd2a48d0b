use Rattle.std.proofs.Common.{◌≡◌, suc, ◌-◌, false, subst, arith}
use Rattle.std.proofs.lemmas.Result.{err_from_is_err_and}
use Rattle.orc_values.specs.Views.{shape}
use Rattle.orc_column_reader.specs.ReaderFaults.{CellsMeet}
use Rattle.orc_column_text.proofs.rows.push_next.Goals as goal

pub returns-in_err-push_cell-clause-fault : goal.returns-in_err-push_cell-clause-fault
returns-in_err-push_cell-clause-fault g c =
    let p = err_from_is_err_and c.from_residual-in_err-push_cell.result c.from_residual-in_err-push_cell.ensures.1 in
    rw (p.1, p.2) (λ memory.
    let e : suc (c.args.left.now - 1) ≡ c.args.left.now = omega (arith, c.if-left-eq0.false) in
    (false, subst (λ n. CellsMeet (shape c.args.tree.now) c.args.readers.now false n c.in_err-push_cell.field-0.0) e (c.in_err-push_cell.ensures.fault memory (c.args.left.now - 1))))

use Rattle.std.proofs.Common.{◌≡◌, ◌+◌, true, false, subst, ◌∙◌, sym, arith}
use Rattle.orc_values.specs.Views.{shape}
use Rattle.orc_column_reader.specs.ReaderFaults.{CellsMeet}
use Rattle.orc_row_reader.proofs.NeverFailed.{never_failed}
use Rattle.orc_stripe_reader.proofs.cursor.RowCursor.rest.Goals as goal

pub returns-in-Ok-clause-first : goal.returns-in-Ok-clause-first
returns-in-Ok-clause-first c = λ e.
    let s = shape c.args.self.tree.now in
    absurd (never_failed s c.deref.result.now true 0 (subst (CellsMeet s c.deref.result.now true 0) e c.in-Err-cells_end.ensures.fault))

pub returns-clause-fault : goal.returns-clause-fault
returns-clause-fault c = λ memory other.
    let s = shape c.args.self.tree.now in
    let e : c.args.self.left + 0 ≡ c.args.self.left = omega arith in (
      false,
      subst (λ rs. CellsMeet s rs false c.args.self.left c.in-Err.fault) c.deref_mut.ensures.value
          (subst (λ n. CellsMeet s c.deref_mut.result.now false n c.in-Err.fault) e (c.in-Err.ensures.fault memory 0)),
    )

pub returns-clause-first : goal.returns-clause-first
returns-clause-first c = λ e.
    let s = shape c.args.self.tree.now in
    absurd (never_failed s c.deref_mut.result.now false (c.args.self.left + 0) (subst (CellsMeet s c.deref_mut.result.now false (c.args.self.left + 0)) e
    (c.in-Err.ensures.fault (λ o. let k = sym e ∙ o in cc) 0)))

use Rattle.std.proofs.Common.{length, ◌≡◌, ◌-◌, suc, true, false, subst, ◌∙◌, sym, arith}
use Rattle.std.proofs.lemmas.List.{with_items_is}
use Rattle.orc_values.specs.Views.{shape}
use Rattle.orc_column_reader.specs.ReaderFaults.{CellsMeet}
use Rattle.orc_row_reader.proofs.NeverFailed.{never_failed}
use Rattle.orc_stripe_reader.proofs.cursor.RowCursor.advance.Goals as goal

pub returns-in-Err-clause-other : goal.returns-in-Err-clause-other
returns-in-Err-clause-other c = λ e.
    let s = shape c.args.self.now.tree.now in
    never_failed s c.deref.result.now true 0 (subst (CellsMeet s c.deref.result.now true 0) e c.in-Err.ensures.fault)

pub returns-in-Ok-next_cell-clause-before : goal.returns-in-Ok-next_cell-clause-before
returns-in-Ok-next_cell-clause-before c = λ f h.
    let s = shape c.args.self.now.tree.now in
    let e : suc (c.args.self.now.left - 1) ≡ c.args.self.now.left = omega (arith, c.if-self-eq0.false) in
    let l : length c.next_cell.new.readers ≡ c.args.self.now.readers.len = omega (arith, c.next_cell.auto.readers, c.deref_mut.ensures.len) in
    let v = with_items_is c.args.self.now.readers c.next_cell.new.readers l in (
      h.0,
      subst (λ rs. CellsMeet s rs h.0 c.args.self.now.left f) c.deref_mut.ensures.value
          (subst (λ n. CellsMeet s c.deref_mut.result.now h.0 n f) e (c.in-Ok-next_cell.ensures.before h.0 (c.args.self.now.left - 1) f
          (subst (λ rs. CellsMeet s rs h.0 (c.args.self.now.left - 1) f) v h.1))),
    )

pub returns-in-Err-next_cell-clause-fault : goal.returns-in-Err-next_cell-clause-fault
returns-in-Err-next_cell-clause-fault c = λ memory.
    let s = shape c.args.self.now.tree.now in
    let e : suc (c.args.self.now.left - 1) ≡ c.args.self.now.left = omega (arith, c.if-self-eq0.false) in (
      false,
      subst (λ rs. CellsMeet s rs false c.args.self.now.left c.in-Err-next_cell.fault) c.deref_mut.ensures.value
          (subst (λ n. CellsMeet s c.deref_mut.result.now false n c.in-Err-next_cell.fault) e (c.in-Err-next_cell.ensures.fault memory (c.args.self.now.left - 1))),
    )

pub returns-in-Err-next_cell-clause-other : goal.returns-in-Err-next_cell-clause-other
returns-in-Err-next_cell-clause-other c = λ e.
    let s = shape c.args.self.now.tree.now in
    never_failed s c.deref_mut.result.now false 1 (subst (CellsMeet s c.deref_mut.result.now false 1) e (c.in-Err-next_cell.ensures.fault (λ o. let k = sym e ∙ o in cc) 0))

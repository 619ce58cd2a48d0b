use Rattle.std.proofs.Common.{length, ◌≡◌, refl, sym, ◌∙◌, subst, arith}
use Rattle.std.proofs.lemmas.List.{with_items_is}
use Rattle.orc_values.specs.Views.{shape}
use Rattle.orc_json_printer.specs.Layouts.{text_by}
use Rattle.orc_column_reader.specs.ReaderFaults.{CellsMeet}
use Rattle.orc_row_reader.proofs.NeverFailed.{never_failed}
use Rattle.orc_stripe_reader.proofs.CursorTexts.{gave_text, gives_text}
use Rattle.orc_stripe_reader.proofs.cursor.RowCursor.push_next.Goals as goal

pub returns-in-Ok-clause-found : goal.returns-in-Ok-clause-found
returns-in-Ok-clause-found g c =
    let l : length c.push_next.new.readers ≡ c.args.self.now.readers.len = omega (arith, c.push_next.auto.readers, c.deref_mut.ensures.len) in
    let v = with_items_is c.args.self.now.readers c.push_next.new.readers l in
    gave_text c.args.self.now _ c.deref_mut.result.now c.push_next.new.readers c.push_next.new.left g.T.TextOutput.holds (text_by c.args.layout.now) c.args.out.now c.push_next.new.out c.in-Ok.some
    c.if-self.false c.deref_mut.ensures.value (sym v) refl c.in-Ok.ensures.found

pub returns-in-Ok-clause-only : goal.returns-in-Ok-clause-only
returns-in-Ok-clause-only g c = λ rows stood.
    let l : length c.push_next.new.readers ≡ c.args.self.now.readers.len = omega (arith, c.push_next.auto.readers, c.deref_mut.ensures.len) in
    let v = with_items_is c.args.self.now.readers c.push_next.new.readers l in
    gives_text c.args.self.now _ c.deref_mut.result.now c.push_next.new.readers c.push_next.new.left g.T.TextOutput.holds (text_by c.args.layout.now) c.args.out.now c.push_next.new.out c.in-Ok.some rows
    c.if-self.false c.deref_mut.ensures.value (sym v) refl (c.in-Ok.ensures.only rows) stood

pub returns-in-Err-clause-first : goal.returns-in-Err-clause-first
returns-in-Err-clause-first g c = λ e.
    let s = shape c.args.self.now.tree.now in
    let met = c.in-Err.ensures.fault (λ o. let k = sym e ∙ o in cc) in
    absurd (never_failed s c.deref_mut.result.now met.0 c.args.self.now.left (subst (CellsMeet s c.deref_mut.result.now met.0 c.args.self.now.left) e met.1))

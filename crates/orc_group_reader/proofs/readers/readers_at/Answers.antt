use Rattle.std.proofs.Common.{◌≡◌, List, ℕ, length, sym, ap, ◌∙◌, subst, arith, length-append, ◌∷◌, [], ◌<◌, refl}
use Rattle.std.proofs.lemmas.Option.{slice_get_read}
use Rattle.orc_values.specs.Columns.{cells}
use Rattle.orc_values.specs.Shapes.{Shape, width}
use Rattle.orc_values.specs.Views.{shape}
use Rattle.orc_column_reader.specs.Stripe.{columns_of}
use Rattle.orc_wire.specs.declared.row_index.RowIndexEntry.{RowIndexEntry}
use Rattle.orc_group_reader.specs.ReadersAt.{ColumnAt}
use Rattle.orc_group_reader.specs.Refusals.{ColumnRefused}
use Rattle.orc_group_reader.proofs.AllColumns.{turned_here, one_more_left, one_more_at, all_left}
use Rattle.orc_group_reader.proofs.readers.readers_at.Goals as goal

pub returns-in-Err-clause-left : goal.returns-in-Err-clause-left
returns-in-Err-clause-left c = λ x before after t.
    let s = shape c.args.tree.now in
    let y = columns_of c.args.footer.now c.args.located.now.bytes.now in
    let k = c.loop-column.column in
    let lt : k < width s = omega (arith, c.loop-column-test.true, c.width_of-column-end.ensures) in
    let at = slice_get_read c.args.entries.now (length c.args.entries.now) k c.index-entries-column.result refl (omega (arith, lt, c.requires.entries)) c.index-entries-column.is in
    c.in-Err.ensures.left (x k) (y k) (cells s k before) (cells s k after) c.streams_of-streams.ensures
    (turned_here s (shape c.tree_at-own.result.now) x y c.args.entries.now before after k c.index-entries-column.result c.as_slice.result.now c.tree_at-own.ensures (c.as_slice.ensures ∙ ap (λ (e : RowIndexEntry). e.positions) (sym c.index-entries-column.is)) t lt at)

pub loop-column-preserved : goal.loop-column-preserved
loop-column-preserved c = (
  omega (arith, c.loop-column.invariant.0, ap length c.in_ok-push-in-Ok.ensures.items, length-append c.loop-column.readers.items (c.in-Ok.reader ∷ [])),
  λ x before after t.
      let s = shape c.args.tree.now in
      let y = columns_of c.args.footer.now c.args.located.now.bytes.now in
      let k = c.loop-column.column in
      let lt : k < width s = omega (arith, c.loop-column-test.true, c.width_of-column-end.ensures) in
      let at = slice_get_read c.args.entries.now (length c.args.entries.now) k c.index-entries-column.result refl (omega (arith, lt, c.requires.entries)) c.index-entries-column.is in
      let here = c.in-Ok.ensures.left (x k) (y k) (cells s k before) (cells s k after) c.streams_of-streams.ensures
      (turned_here s (shape c.tree_at-own.result.now) x y c.args.entries.now before after k c.index-entries-column.result c.as_slice.result.now c.tree_at-own.ensures (c.as_slice.ensures ∙ ap (λ (e : RowIndexEntry). e.positions) (sym c.index-entries-column.is)) t lt at) in
      one_more_left s (shape c.tree_at-own.result.now) after c.loop-column.readers.items c.push.new.self.items c.in-Ok.reader k c.in_ok-push-in-Ok.ensures.items c.loop-column.invariant.0 c.tree_at-own.ensures
      (c.loop-column.invariant.1 x before after t) here,
  let s = shape c.args.tree.now in
      let y = columns_of c.args.footer.now c.args.located.now.bytes.now in
      let k = c.loop-column.column in
      let entry = c.index-entries-column.result in
      let lt : k < width s = omega (arith, c.loop-column-test.true, c.width_of-column-end.ensures) in
      let at = slice_get_read c.args.entries.now (length c.args.entries.now) k entry refl (omega (arith, lt, c.requires.entries)) c.index-entries-column.is in
      let same : c.as_slice.result.now ≡ entry.positions = c.as_slice.ensures ∙ ap (λ (e : RowIndexEntry). e.positions) (sym c.index-entries-column.is) in
      one_more_at s (shape c.tree_at-own.result.now) y c.args.entries.now c.loop-column.readers.items c.push.new.self.items c.in-Ok.reader k entry c.in_ok-push-in-Ok.ensures.items c.loop-column.invariant.0
      c.tree_at-own.ensures at c.loop-column.invariant.2
      (subst (λ (ps : List ℕ). ColumnAt (shape c.tree_at-own.result.now) (y k) k ps c.in-Ok.reader) same (c.in-Ok.ensures.at (y k) c.streams_of-streams.ensures)),
)

pub returns-clause-left : goal.returns-clause-left
returns-clause-left c = λ x before after t.
    let s = shape c.args.tree.now in
    let n : length c.loop-column.readers.items ≡ width s = omega (arith, c.loop-column.invariant.0, c.loop-column-test.false, c.width_of-column-end.ensures, c.loop-column.auto.column-end) in
    all_left s x (columns_of c.args.footer.now c.args.located.now.bytes.now) c.args.entries.now before after c.loop-column.readers.items t n (c.loop-column.invariant.1 x before after t)

pub returns-in-Err-clause-fault : goal.returns-in-Err-clause-fault
returns-in-Err-clause-fault c = λ memory.
    let s = shape c.args.tree.now in
    let k = c.loop-column.column in
    let y = columns_of c.args.footer.now c.args.located.now.bytes.now k in
    let entry = c.index-entries-column.result in
    let lt : k < width s = omega (arith, c.loop-column-test.true, c.width_of-column-end.ensures) in
    let at = slice_get_read c.args.entries.now (length c.args.entries.now) k entry refl (omega (arith, lt, c.requires.entries)) c.index-entries-column.is in
    let same : c.as_slice.result.now ≡ entry.positions = c.as_slice.ensures ∙ ap (λ (e : RowIndexEntry). e.positions) (sym c.index-entries-column.is) in (
      k,
      entry,
      at,
      lt,
      subst (λ (t : Shape). ColumnRefused t y k entry.positions c.in-Err.fault) c.tree_at-own.ensures
          (subst (λ (ps : List ℕ). ColumnRefused (shape c.tree_at-own.result.now) y k ps c.in-Err.fault) same (c.in-Err.ensures.fault memory y c.streams_of-streams.ensures)),
    )

pub returns-clause-at : goal.returns-clause-at
returns-clause-at c = record {
  listed = c.requires.entries;
  counted = omega (arith, c.loop-column.invariant.0, c.loop-column-test.false, c.width_of-column-end.ensures, c.loop-column.auto.column-end);
  column = c.loop-column.invariant.2;
}

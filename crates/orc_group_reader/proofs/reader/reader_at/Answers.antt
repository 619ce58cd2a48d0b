use Rattle.std.proofs.Common.{◌≡◌, ℕ, List, take, drop, sym, ap, ◌∙◌, subst}
use Rattle.orc_values.specs.Views.{shape}
use Rattle.orc_row_index.specs.Positions.{position_size}
use Rattle.orc_column_reader.specs.declared.column.ColumnReader.{ColumnReader}
use Rattle.orc_group_reader.specs.Columns.{ColumnIsLeft}
use Rattle.orc_group_reader.specs.ReadersAt.{MarksAt, SourceAt, ColumnAt}
use Rattle.orc_group_reader.specs.Refusals as refusals
use Rattle.orc_group_reader.proofs.ColumnTurned.{present_size, at_present, marks_left, own_turns, own_positions}
use Rattle.orc_group_reader.proofs.Refused.{size_of, own_refused}
use Rattle.orc_group_reader.proofs.reader.reader_at.Goals as goal

pub returns-in-Ok-own_from-clause-left : goal.returns-in-Ok-own_from-clause-left
returns-in-Ok-own_from-clause-left c = λ x y before after are t.
    let s = shape c.args.tree.now in
    let ps = c.args.positions.now in
    let placed = c.placed_streams-placed.result in
    let size = c.position_size.ensures ∙ present_size s x y placed before ps (c.placed_streams-placed.ensures y are) t.agree in
    let at = at_present s x y before ps c.split_at.result.0.now c.position_size.result size c.split_at.ensures.front t.agree in
    subst (λ (r : ColumnReader). ColumnIsLeft s r after) (sym c.of.ensures) (record {
      marks = marks_left x y c.args.streams.now.present.now c.split_at.result.0.now before after c.in-Ok.present are.present_is at c.in-Ok.ensures.enters t.spelled.marks;
      spelled = c.in-Ok-own_from.ensures.left x y before after t.agree.places.last are (own_turns s x y before after ps t) (own_positions s x y before ps c.split_at.result.1.now c.position_size.result size c.split_at.ensures.back t.agree);
    })

pub returns-clause-left : goal.returns-clause-left
returns-clause-left c = λ x y before after are t.
    let s = shape c.args.tree.now in
    let ps = c.args.positions.now in
    let placed = c.placed_streams-placed.result in
    let size = c.position_size.ensures ∙ present_size s x y placed before ps (c.placed_streams-placed.ensures y are) t.agree in
    c.in-Err-own_from.ensures.left x y before after t.agree.places.last are (own_turns s x y before after ps t) (own_positions s x y before ps c.split_at.result.1.now c.position_size.result size c.split_at.ensures.back t.agree)

pub returns-clause-fault : goal.returns-clause-fault
returns-clause-fault c = λ memory x are.
    own_refused (shape c.args.tree.now) x c.placed_streams-placed.result c.args.column c.args.positions.now c.split_at.result.1.now c.positions_size.result c.position_size.result c.in-Err-own_from.fault
    (c.placed_streams-placed.ensures x are) c.positions_size.ensures c.if-positions-positions_size.false c.position_size.ensures c.split_at.ensures.back (c.in-Err-own_from.ensures.fault memory x are)

pub returns-in-Ok-own_from-clause-at : goal.returns-in-Ok-own_from-clause-at
returns-in-Ok-own_from-clause-at c = λ x are.
    let s = shape c.args.tree.now in
    let ps = c.args.positions.now in
    let placed = c.placed_streams-placed.result in
    let is = c.placed_streams-placed.ensures x are in
    let size : c.position_size.result ≡ refusals.present_size x = c.position_size.ensures ∙ ap position_size is.present_is in
    subst (λ (r : ColumnReader). ColumnAt s x c.args.column ps r) (sym c.of.ensures) (record {
      counted = c.if-positions-positions_size.false ∙ c.positions_size.ensures ∙ size_of s x placed is;
      marks = subst (λ (n : ℕ). MarksAt (x.stream 0) (take n ps) c.in-Ok.present) size
          (subst (λ (t : List ℕ). MarksAt (x.stream 0) t c.in-Ok.present) c.split_at.ensures.front
          (subst (λ (b : List ℕ). MarksAt b c.split_at.result.0.now c.in-Ok.present) are.present_is c.in-Ok.ensures.at));
      source = subst (λ (n : ℕ). SourceAt s x c.args.column (drop n ps) c.in-Ok-own_from.source) size
          (subst (λ (t : List ℕ). SourceAt s x c.args.column t c.in-Ok-own_from.source) c.split_at.ensures.back (c.in-Ok-own_from.ensures.at x are));
    })

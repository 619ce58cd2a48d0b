use Rattle.std.proofs.Common.{◌≡◌, ◌∙◌, ◌<◌, ℕ, List, length, sym, ap, subst, arith}
use Rattle.std.proofs.lemmas.Option.{slice_get_within}
use Rattle.std.proofs.lemmas.Result.{err_from_is_err_and}
use Rattle.orc_wire.specs.declared.row_index.RowIndexEntry.{RowIndexEntry}
use Rattle.orc_wire.specs.declared.row_index.RowIndexMsg.{RowIndexMsg}
use Rattle.orc_values.specs.Columns.{cells}
use Rattle.orc_values.specs.Shapes.{shape_at}
use Rattle.orc_column_reader.specs.Stripe.{columns_of}
use Rattle.orc_row_groups.specs.Bounds.{before_group}
use Rattle.orc_row_groups.specs.Groups.{starts_of_groups, bounds_of}
use Rattle.orc_theorems.specs.OneRunPositions.{AreOneRunPositions}
use Rattle.orc_theorems.proofs.SoughtLemmas.{entry_reads, same_positions}
use Rattle.orc_theorems.proofs.written_positions_calls.seek_group.Goals as goal

pub returns-in-Ok-seek_places-clause-sought : goal.returns-in-Ok-seek_places-clause-sought
returns-in-Ok-seek_places-clause-sought c = λ rows reads.
    let v = c.args.view.now in
    let k = c.args.column in
    let has = c.in-Ok.ensures.found in
    let there = c.in_ok-placed.ensures in
    let entries = c.as_slice-entries.result.now in
    record {
      column = there.there;
      message = c.in-Ok.index;
      index = has.1;
      group = subst (λ (es : List RowIndexEntry). c.args.group < length es) c.as_slice-entries.ensures c.if-group-entries.false;
      sought = c.in-Ok-seek_places.ensures (shape_at v.schema k) (columns_of v.footer v.bytes k)
          (before_group (cells v.schema k rows) (bounds_of v.schema k rows (starts_of_groups v.stride (length rows))) c.args.group) there.placed
          (entry_reads v rows k c.args.group c.in-Ok.index entries c.index-entries-group.result c.as_slice.result.now (reads has.0 there.there) has.1 c.as_slice-entries.ensures c.if-group-entries.false c.index-entries-group.is
          (c.as_slice.ensures ∙ ap (λ (e : RowIndexEntry). e.positions) (sym c.index-entries-group.is)));
    }

pub returns-in-Err-clause-only : goal.returns-in-Err-clause-only
returns-in-Err-clause-only c = λ message entry before some below has at places. c.in-Err.ensures.only message some has

pub returns-in_err-placed-clause-only : goal.returns-in_err-placed-clause-only
returns-in_err-placed-clause-only c = λ message entry before some below has at places.
    let p = err_from_is_err_and c.from_residual.result c.from_residual.ensures.1 in
    rw (p.1, p.2) (c.in_err-placed.ensures.only below)

pub returns-then-group-entries-clause-only : goal.returns-then-group-entries-clause-only
returns-then-group-entries-clause-only c = λ message entry before some below has at places.
    let same : c.in-Ok.index ≡ message = c.in-Ok.ensures.only message some has in
    let within : c.args.group < length message.entries = slice_get_within message.entries c.args.group entry at in
    absurd (omega (arith, within, c.if-group-entries.true, ap length c.as_slice-entries.ensures, ap (λ (m : RowIndexMsg). length m.entries) same))

pub returns-clause-only : goal.returns-clause-only
returns-clause-only c = λ message entry before some below has at places.
    let v = c.args.view.now in
    let k = c.args.column in
    let same : c.in-Ok.index ≡ message = c.in-Ok.ensures.only message some has in
    let positions = same_positions message.entries c.as_slice-entries.result.now c.args.group entry c.index-entries-group.result c.as_slice.result.now
    (c.as_slice-entries.ensures ∙ ap (λ (m : RowIndexMsg). m.entries) same) c.if-group-entries.false c.index-entries-group.is
    (c.as_slice.ensures ∙ ap (λ (e : RowIndexEntry). e.positions) (sym c.index-entries-group.is)) at in
    absurd (c.in-Err-seek_places.ensures (shape_at v.schema k) (columns_of v.footer v.bytes k) before c.in_ok-placed.ensures.placed
    (subst (λ (ps : List ℕ). AreOneRunPositions (shape_at v.schema k) (columns_of v.footer v.bytes k) before ps) (sym positions) places))

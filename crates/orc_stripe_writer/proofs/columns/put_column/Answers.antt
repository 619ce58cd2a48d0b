use Rattle.std.proofs.Common.{◌≡◌, ℕ, ◌<◌, length, drop, ◌∙◌, subst, arith, rules}
use Rattle.orc_values.specs.Views.{shape}
use Rattle.orc_values.specs.Limits.{cell_limit}
use Rattle.orc_row_index.specs.OwnCells.{AreSpelledOwn}
use Rattle.orc_row_index.specs.RowIndex.{IsWrittenIndex}
use Rattle.orc_row_groups.proofs.OwnLemmas.{own_count}
use Rattle.orc_stripe_writer.specs.IndexSteps.{AddsIndexIf}
use Rattle.orc_stripe_writer.specs.Indexes.{streams_written}
use Rattle.orc_stripe_writer.specs.WrittenStripe.{column_bytes, column_lines}
use Rattle.orc_stripe_writer.proofs.LastColumn.{bytes_behind, lines_behind, room_alone, column_spelled, one_more_column}
use Rattle.orc_stripe_writer.proofs.SubtreeLemmas.{written_count}
use Rattle.orc_stripe_writer.proofs.columns.put_column.Goals as goal

pub column_streams-streams-requires : goal.column_streams-streams-requires
column_streams-streams-requires c =
    let old = c.args.out.now.body in
    let new = c.put_cells.new.body in
    let t = shape c.args.tree.now in
    let cs = c.requires.column.0 in
    let a = c.in_ok-encoding.ensures cs c.requires.column.1 c.requires.column.2 in
    let start : c.len-start.result ≡ length old.bytes.items = omega (arith, c.len-start.ensures) in
    let listed : c.len-listed.result ≡ length old.directory.items = omega (arith, c.len-listed.ensures) in
    let bytes : c.split_at-2.result.1.now ≡ column_bytes a.written = c.split_at-2.ensures.back ∙ (λ i. drop (start i) (c.deref-2.ensures.value i)) ∙ bytes_behind c.rle.result t cs c.in-Ok.column old new c.in_ok-encoding.encoding a in
    let lines : c.split_at.result.1.now ≡ column_lines c.in-Ok.column a.written = c.split_at.ensures.back ∙ (λ i. drop (listed i) (c.deref.ensures.value i)) ∙ lines_behind c.rle.result t cs c.in-Ok.column old new c.in_ok-encoding.encoding a in
    room_alone c.in-Ok.column a.written c.split_at.result.1.now c.split_at-2.result.1.now lines bytes

pub put_told-requires-clause-column : goal.put_told-requires-clause-column
put_told-requires-clause-column c =
    let old = c.args.out.now.body in
    let new = c.put_cells.new.body in
    let t = shape c.args.tree.now in
    let cs = c.requires.column.0 in
    let a = c.in_ok-encoding.ensures cs c.requires.column.1 c.requires.column.2 in
    let start : c.len-start.result ≡ length old.bytes.items = omega (arith, c.len-start.ensures) in
    let listed : c.len-listed.result ≡ length old.directory.items = omega (arith, c.len-listed.ensures) in
    let bytes : c.split_at-2.result.1.now ≡ column_bytes a.written = c.split_at-2.ensures.back ∙ (λ i. drop (start i) (c.deref-2.ensures.value i)) ∙ bytes_behind c.rle.result t cs c.in-Ok.column old new c.in_ok-encoding.encoding a in
    let lines : c.split_at.result.1.now ≡ column_lines c.in-Ok.column a.written = c.split_at.ensures.back ∙ (λ i. drop (listed i) (c.deref.ensures.value i)) ∙ lines_behind c.rle.result t cs c.in-Ok.column old new c.in_ok-encoding.encoding a in (
      cs,
      record {
        own = c.requires.column.1;
        fit = c.requires.column.2;
        spelled = (
          streams_written a.written,
          c.column_streams-streams.ensures a.written a.encoded bytes lines,
          column_spelled c.rle.result t cs c.in-Ok.column old new c.in_ok-encoding.encoding a c.requires.column.3,
        );
      },
    )

pub returns : goal.returns
returns c = λ s rows cs n own fit h type column bounded.
    let old = c.args.out.now.body in
    let new = c.put_cells.new.body in
    let t = shape c.args.tree.now in
    let few : length cs < cell_limit = omega (arith, own_count c.args.owns.now cs own, own_count c.args.owns.now c.requires.column.0 c.requires.column.1, c.requires.column.3) in
    let a = c.in_ok-encoding.ensures cs own fit in
    let start : c.len-start.result ≡ length old.bytes.items = omega (arith, c.len-start.ensures) in
    let listed : c.len-listed.result ≡ length old.directory.items = omega (arith, c.len-listed.ensures) in
    let bytes : c.split_at-2.result.1.now ≡ column_bytes a.written = c.split_at-2.ensures.back ∙ (λ i. drop (start i) (c.deref-2.ensures.value i)) ∙ bytes_behind c.rle.result t cs c.in-Ok.column old new c.in_ok-encoding.encoding a in
    let lines : c.split_at.result.1.now ≡ column_lines c.in-Ok.column a.written = c.split_at.ensures.back ∙ (λ i. drop (listed i) (c.deref.ensures.value i)) ∙ lines_behind c.rle.result t cs c.in-Ok.column old new c.in_ok-encoding.encoding a in
    let streams = c.column_streams-streams.ensures a.written a.encoded bytes lines in
    let spelled : AreSpelledOwn t c.column_streams-streams.result c.args.owns.now cs = record {
      own = own;
      fit = fit;
      spelled = (streams_written a.written, streams, column_spelled c.rle.result t cs c.in-Ok.column old new c.in_ok-encoding.encoding a few);
    } in
    let index = subst (λ (k : ℕ). AddsIndexIf k (IsWrittenIndex t (streams_written a.written) cs c.args.bounds.now) c.args.out.now.indexes c.put_told.new.indexes) c.stride.ensures
    (c.in_ok-found.ensures.index cs spelled (streams_written a.written) streams) in
    let many : length c.args.out.now.encodings.items ≡ n = written_count c.args.options.now.rle s rows n old.bytes.items old.directory.items c.args.out.now.encodings.items h.columns in
    let number : c.in-Ok.column ≡ n = search rules in
    one_more_column c.args.options.now.rle c.rle.result c.args.options.now.stride s rows n c.in-Ok.column t cs c.args.bounds.now c.args.out.now _ c.in_ok-encoding.encoding c.in_ok-found.found h
    c.rle.ensures number type column bounded a index c.in_ok-push.ensures.items c.in_ok-push-2.ensures.items (c.in_ok-found.ensures.stat cs own)

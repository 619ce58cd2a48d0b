use Rattle.std.proofs.Common.{◌≡◌, length, sym, ◌∙◌}
use Rattle.orc_values.specs.Shapes.{width}
use Rattle.orc_row_batch.specs.Batch.{kept_rows}
use Rattle.orc_stripe_writer.specs.WrittenStripe.{HasColumns}
use Rattle.orc_stripe_writer.proofs.IndexLemmas.{indexed_by_starts}
use Rattle.orc_stripe_writer.proofs.StripeReads.{stripe_read}
use Rattle.orc_stripe_writer.proofs.writer.write_batch.Goals as goal

pub returns-clause-written : goal.returns-clause-written
returns-clause-written c =
    let s = c.args.schema.now in
    let rows = kept_rows s c.args.batch.now in
    let long : length rows ≡ c.len.result = sym (c.len.ensures s rows c.requires.held) in
    let rle = c.args.options.now.rle in
    let stride = c.args.options.now.stride in
    let b = c.in_ok-columns.columns.body.bytes.items in
    let have = c.in_ok-columns.ensures in
    let h : HasColumns rle s rows (width s) b c.from_vec.result c.from_vec-2.result = record {
      columns = have.columns.columns;
      counted = have.columns.counted;
      are = have.columns.are;
      joined = have.columns.joined;
      listed = c.from_vec.ensures ∙ have.columns.listed;
      encoded = c.from_vec-2.ensures ∙ have.columns.encoded;
    } in
    let x = indexed_by_starts stride s rows have.columns.columns (width s) c.in_ok-columns.columns.indexes have.indexes in
    c.in_ok-assemble.ensures.written rle stride s rows long h x

pub returns-clause-stripe : goal.returns-clause-stripe
returns-clause-stripe c =
    let s = c.args.schema.now in
    let rows = kept_rows s c.args.batch.now in
    let long : length rows ≡ c.len.result = sym (c.len.ensures s rows c.requires.held) in
    let rle = c.args.options.now.rle in
    let stride = c.args.options.now.stride in
    let b = c.in_ok-columns.columns.body.bytes.items in
    let have = c.in_ok-columns.ensures in
    let h : HasColumns rle s rows (width s) b c.from_vec.result c.from_vec-2.result = record {
      columns = have.columns.columns;
      counted = have.columns.counted;
      are = have.columns.are;
      joined = have.columns.joined;
      listed = c.from_vec.ensures ∙ have.columns.listed;
      encoded = c.from_vec-2.ensures ∙ have.columns.encoded;
    } in
    let x = indexed_by_starts stride s rows have.columns.columns (width s) c.in_ok-columns.columns.indexes have.indexes in
    stripe_read rle stride s rows _ _ (c.in_ok-assemble.ensures.written rle stride s rows long h x) c.requires.held.fit c.requires.few

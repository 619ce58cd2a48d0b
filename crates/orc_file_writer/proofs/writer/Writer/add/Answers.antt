use Rattle.std.proofs.Common.{◌≡◌, ◌≤◌, ◌++◌, ◌∷◌, [], length, ap, arith}
use Rattle.orc_row_batch.specs.declared.options.Options.{Options}
use Rattle.orc_values.specs.Views.{view}
use Rattle.orc_row_batch.specs.Batch.{kept_rows}
use Rattle.orc_file_writer.proofs.Spread.{HasKept}
use Rattle.orc_file_writer.proofs.PushLemmas.{one_more, pushed_full}
use Rattle.orc_file_writer.proofs.WriterLemmas.{cut_row, kept_row, within_of}
use Rattle.orc_file_writer.proofs.writer.Writer.add.Goals as goal
use Rattle.orc_rle.proofs.WrittenLemmas.{on_err_holds}

pub returns-in_err-keep-clause-cut : goal.returns-in_err-keep-clause-cut
returns-in_err-keep-clause-cut g c = λ first rows h.
    let w = c.args.self.now in
    let few = h.1 in
    rw c.keep.ensures.stands.0
    (on_err_holds c.from_residual.result (cut_row w.options w.schema first _ w.written w.infos.items w.stats.items (kept_rows w.schema w.batch) rows (view c.args.row.now) (omega (arith, few)) (within_of w.infos.items w.total _ w.stripes w.total_is w.few_rows w.bytes) c.requires.schema h.0))

pub returns-then-len-stripe_rows-clause-pushed : goal.returns-then-len-stripe_rows-clause-pushed
returns-then-len-stripe_rows-clause-pushed g c = λ first rows h.
    let w = c.args.self.now in
    let k = c.keep.new.self in
    let all = rows ++ view c.args.row.now ∷ [] in
    let kept_is : kept_rows k.schema k.batch ≡ kept_rows w.schema w.batch ++ view c.args.row.now ∷ [] = c.in_ok-keep.ensures.kept in
    let kept : HasKept k.options k.schema first (g.W.Sink.told k.out) k.written k.infos.items k.stats.items (kept_rows k.schema k.batch) all =
    rw (kept_is, c.keep.ensures.same.0, c.keep.ensures.same.1, c.keep.ensures.stands.0, c.keep.ensures.stands.1, c.keep.ensures.stands.2, c.keep.ensures.stands.3)
    (kept_row w.options w.schema first _ w.written w.infos.items w.stats.items (kept_rows w.schema w.batch) rows (view c.args.row.now) h.0) in
    let few = h.1 in
    let more = one_more (kept_rows w.schema w.batch) (kept_rows k.schema k.batch) (view c.args.row.now) kept_is in
    let size = ap (λ (o : Options). o.stripe_rows) c.keep.ensures.same.1 in
    let full : length (kept_rows k.schema k.batch) ≡ k.options.stripe_rows = omega (arith, few, more, size, c.len.ensures k.schema (kept_rows k.schema k.batch) k.held, c.stripe_rows.ensures) in
    let n = c.close.new.self in
    pushed_full c.close.result n.options n.schema first _ n.written n.infos.items n.stats.items (kept_rows n.schema n.batch) all n.options.some c.close.ensures.empty (c.close.ensures.kept first all full kept)

pub returns-then-len-stripe_rows-clause-cut : goal.returns-then-len-stripe_rows-clause-cut
returns-then-len-stripe_rows-clause-cut g c = λ first rows h.
    let w = c.args.self.now in
    let k = c.keep.new.self in
    let all = rows ++ view c.args.row.now ∷ [] in
    let kept_is : kept_rows k.schema k.batch ≡ kept_rows w.schema w.batch ++ view c.args.row.now ∷ [] = c.in_ok-keep.ensures.kept in
    let kept : HasKept k.options k.schema first (g.W.Sink.told k.out) k.written k.infos.items k.stats.items (kept_rows k.schema k.batch) all =
    rw (kept_is, c.keep.ensures.same.0, c.keep.ensures.same.1, c.keep.ensures.stands.0, c.keep.ensures.stands.1, c.keep.ensures.stands.2, c.keep.ensures.stands.3)
    (kept_row w.options w.schema first _ w.written w.infos.items w.stats.items (kept_rows w.schema w.batch) rows (view c.args.row.now) h.0) in
    let few = h.1 in
    let more = one_more (kept_rows w.schema w.batch) (kept_rows k.schema k.batch) (view c.args.row.now) kept_is in
    let size = ap (λ (o : Options). o.stripe_rows) c.keep.ensures.same.1 in
    let room : length (kept_rows k.schema k.batch) ≤ k.options.stripe_rows = omega (arith, few, more, size) in
    let cut = c.close.ensures.cut first all room kept in
    rw (c.keep.ensures.same.0, c.keep.ensures.same.1) at cut

pub returns-then-len-stripe_rows-clause-full : goal.returns-then-len-stripe_rows-clause-full
returns-then-len-stripe_rows-clause-full g c = λ limit.
    let w = c.args.self.now in
    let k = c.keep.new.self in
    let more = one_more (kept_rows w.schema w.batch) (kept_rows k.schema k.batch) (view c.args.row.now) c.in_ok-keep.ensures.kept in
    let size = ap (λ (o : Options). o.stripe_rows) c.keep.ensures.same.1 in
    omega (arith, more, size, c.len.ensures k.schema (kept_rows k.schema k.batch) k.held, c.stripe_rows.ensures)

pub returns-then-len-stripe_rows-clause-out : goal.returns-then-len-stripe_rows-clause-out
returns-then-len-stripe_rows-clause-out g c = rw c.keep.ensures.stands.0 at c.close.ensures.out

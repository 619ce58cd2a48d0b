use Rattle.std.proofs.Common.{◌≡◌}
use Rattle.orc_row_batch.specs.Batch.{kept_rows}
use Rattle.orc_file_writer.proofs.Spread.{HasFilled}
use Rattle.orc_file_writer.proofs.WriterLemmas.{whole_end, cut_end, within_of}
use Rattle.orc_file_writer.proofs.writer.Writer.finish.Goals as goal

pub returns-in-Ok-end_file-clause-whole : goal.returns-in-Ok-end_file-clause-whole
returns-in-Ok-end_file-clause-whole g c = λ first rows h.
    let w = c.args.self in
    let n = c.close_rest.new.self in
    let options : n.options ≡ w.options = c.close_rest.ensures.same.1 in
    let filled : HasFilled n.options n.schema first (g.W.Sink.told n.out) n.written n.infos.items n.stats.items (kept_rows n.schema n.batch) rows = c.in-Ok.ensures.last first rows h in
    let within = within_of n.infos.items n.total _ n.stripes n.total_is n.few_rows n.bytes in
    rw (c.in-Ok-end_file.ensures.tail, options, c.close_rest.ensures.same.0)
    (whole_end w.options w.schema first _ n.written n.infos.items n.stats.items (kept_rows w.schema n.batch) rows (rw (c.close_rest.ensures.same.0, c.close_rest.ensures.same.1) at filled) within _ (rw c.close_rest.ensures.same.0 at c.end_file.ensures.schema) (rw (options, c.close_rest.ensures.same.0) at c.in-Ok-end_file.ensures.few) (rw (options, c.close_rest.ensures.same.0) at c.in-Ok-end_file.ensures.told))

pub returns-clause-cut : goal.returns-clause-cut
returns-clause-cut g c = λ first rows h f.
    let w = c.args.self in
    let n = c.close_rest.new.self in
    let options : n.options ≡ w.options = c.close_rest.ensures.same.1 in
    let filled : HasFilled n.options n.schema first (g.W.Sink.told n.out) n.written n.infos.items n.stats.items (kept_rows n.schema n.batch) rows = c.in-Ok.ensures.last first rows h in
    let within = within_of n.infos.items n.total _ n.stripes n.total_is n.few_rows n.bytes in
    let some = c.in-Err-end_file.ensures.cut in
    cut_end w.options w.schema first _ n.written n.infos.items n.stats.items (kept_rows w.schema n.batch) rows (rw (c.close_rest.ensures.same.0, c.close_rest.ensures.same.1) at filled) within _ some.0 (rw c.close_rest.ensures.same.0 at c.end_file.ensures.schema) (rw (options, c.close_rest.ensures.same.0) at some.1)

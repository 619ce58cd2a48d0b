use Rattle.std.proofs.Common.{◌≡◌, length, arith}
use Rattle.orc_row_batch.specs.Batch.{kept_rows}
use Rattle.orc_file_writer.proofs.WriterLemmas.{filled_empty, none_kept}
use Rattle.orc_file_writer.proofs.writer.Writer.close_rest.Goals as goal

pub returns-then-len-eq0-clause-last : goal.returns-then-len-eq0-clause-last
returns-then-len-eq0-clause-last g c = λ first rows h.
    let w = c.args.self.now in
    let kept = kept_rows w.schema w.batch in
    let counted = c.len.ensures w.schema kept w.held in
    let none : length kept ≡ 0 = omega (arith, counted, c.if-len-eq0.true) in
    filled_empty w.options w.schema first _ w.written w.infos.items w.stats.items kept rows (none_kept kept none) h

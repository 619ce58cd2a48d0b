use Rattle.std.proofs.Common.{arith}
use Rattle.orc_row_batch.specs.Batch.{kept_rows}
use Rattle.orc_file_writer.proofs.WriterLemmas.{cut_kept, within_of}
use Rattle.orc_file_writer.proofs.writer.Writer.close.Goals as goal

pub returns-in-Err-clause-cut : goal.returns-in-Err-clause-cut
returns-in-Err-clause-cut g c = λ first rows few h.
    let w = c.args.self.now in
    let b = c.requires.begun in
    cut_kept w.options w.schema first _ w.written w.infos.items w.stats.items (kept_rows w.schema w.batch) rows (omega (arith, few, b)) (within_of w.infos.items w.total _ w.stripes w.total_is w.few_rows w.bytes) c.stripe_of.ensures.schema h

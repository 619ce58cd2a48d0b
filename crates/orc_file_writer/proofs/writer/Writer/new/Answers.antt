use Rattle.std.proofs.Common.{[], sym}
use Rattle.orc_row_batch.proofs.BatchLemmas.{held_rows}
use Rattle.orc_file_writer.proofs.CountLemmas.{counts_none, few_none}
use Rattle.orc_file_writer.proofs.WriterLemmas.{cut_begun, cut_unbegun}
use Rattle.orc_file_writer.proofs.writer.Writer.new.Goals as goal

pub invariant_of-result-clause-few_cells : goal.invariant_of-result-clause-few_cells
invariant_of-result-clause-few_cells g c = rw c.in-Ok.ensures (few_none c.width.result)

pub invariant_of-result-clause-counted : goal.invariant_of-result-clause-counted
invariant_of-result-clause-counted g c =
    let none = held_rows c.args.schema [] c.in-Ok-new.batch (c.in-Ok-new.ensures.rows c.args.schema (sym c.width-3.ensures.same)) in
    rw (c.in-Ok.ensures, c.width.ensures.same, none) (counts_none c.args.schema)

pub returns-in-Err-clause-cut : goal.returns-in-Err-clause-cut
returns-in-Err-clause-cut g c = cut_begun c.args.options c.args.schema (g.W.Sink.told c.args.out) _ c.in-Err.field-0 c.limit_laws.ensures c.in-Err.ensures.some

pub returns-in_default-clause-cut : goal.returns-in_default-clause-cut
returns-in_default-clause-cut g c = cut_unbegun c.args.options c.args.schema (g.W.Sink.told c.args.out) c.limit_laws.ensures

pub returns-in_default-no_cells-clause-cut : goal.returns-in_default-no_cells-clause-cut
returns-in_default-no_cells-clause-cut g c = cut_unbegun c.args.options c.args.schema (g.W.Sink.told c.args.out) c.limit_laws.ensures

pub returns-in_default-new-clause-cut : goal.returns-in_default-new-clause-cut
returns-in_default-new-clause-cut g c = cut_unbegun c.args.options c.args.schema (g.W.Sink.told c.args.out) c.limit_laws.ensures

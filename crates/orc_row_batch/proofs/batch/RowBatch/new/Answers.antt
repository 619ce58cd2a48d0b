use Rattle.std.proofs.Common.{◌+◌, length, ap, ◌∙◌, arith}
use Rattle.std.proofs.lemmas.List.{length_push}
use Rattle.orc_row_batch.proofs.BatchLemmas.{none_held, none_empty, empty_more}
use Rattle.orc_row_batch.proofs.batch.RowBatch.new.Goals as goal

pub loop-column-init : goal.loop-column-init
loop-column-init c = record { many = ap length c.in_ok-columns.ensures.items; empty = rw c.in_ok-columns.ensures.items none_empty }

pub loop-column-preserved : goal.loop-column-preserved
loop-column-preserved c = record {
  many = ap length c.in_ok-push.ensures.items ∙ length_push c.loop-column.columns.items c.new.result ∙ ap (λ n. n + 1) c.loop-column.invariant.many;
  empty = empty_more c.loop-column.columns.items c.push.new.self.items c.new.result c.loop-column.invariant.empty c.new.ensures c.in_ok-push.ensures.items;
}

pub returns-clause-rows : goal.returns-clause-rows
returns-clause-rows c s wide = none_held s _ (omega (arith, c.loop-column.invariant.many, c.loop-column-test.false, c.loop-column.auto._column-end, wide)) c.loop-column.invariant.empty

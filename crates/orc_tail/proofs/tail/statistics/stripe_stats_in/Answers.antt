use Rattle.std.proofs.Common.{◌≡◌, ◌++◌, ◌∷◌, [], List, ap, ◌∙◌, sym}
use Rattle.std.specs.List.{list_all}
use Rattle.orc_wire.specs.declared.column_stats.ColumnStats.{ColumnStats}
use Rattle.orc_wire.specs.declared.column_stats.StripeStatistics.{StripeStatistics}
use Rattle.orc_values.specs.Shapes.{width}
use Rattle.orc_stats.specs.declared.stat.Stat.{Stat}
use Rattle.orc_stats.specs.Messages.{in_limits}
use Rattle.orc_tail.specs.Statistics.{stats_read}
use Rattle.orc_tail.proofs.Columns.{map_next, all_next, few_next}
use Rattle.orc_tail.proofs.tail.statistics.stripe_stats_in.Goals as goal

pub loop-message-preserved : goal.loop-message-preserved
loop-message-preserved c =
    let s = c.args.schema.now in let ms = c.args.messages.now in let i = c.loop-message.message-index in let m = c.message-item.result in
    let f = λ (x : StripeStatistics). stats_read s 0 x.col_stats in
    let read : c.in_ok-stats_in.field-0 ≡ stats_read s 0 m.col_stats = c.in_ok-stats_in.ensures.found ∙ ap (stats_read s 0) c.as_slice.ensures in
    let good = ap (λ (t : List ColumnStats). list_all in_limits (stats_read s 0 t)) (sym c.as_slice.ensures) ∙ c.in_ok-stats_in.ensures.limits in
    record {
      whole = map_next f ms i m c.loop-message-test.true c.message-item.is c.loop-message.stats.items c.push.new.self.items _
          (c.in_ok-push.ensures.items ∙ ap (λ (x : List Stat). c.loop-message.stats.items ++ x ∷ []) read) c.loop-message.invariant.whole;
      decides = all_next f ms i m c.loop-message-test.true c.message-item.is (list_all in_limits) _ good c.loop-message.invariant.decides;
      few = (few_next (width s) ms i m c.loop-message-test.true c.message-item.is c.loop-message.invariant.few).1;
    }

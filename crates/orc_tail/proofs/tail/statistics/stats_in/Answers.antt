use Rattle.std.proofs.Common.{◌++◌, ◌∷◌, [], length, ap, ◌∙◌, sym, inl, inr, arith}
use Rattle.std.proofs.lemmas.Result.{err_from_is_err_and}
use Rattle.orc_types.proofs.Trees.{length-types}
use Rattle.orc_stats.specs.declared.kind.StatKind.{StatKind}
use Rattle.orc_stats.specs.declared.stat.Stat.{Stat}
use Rattle.orc_stats.specs.Messages.{stat_read, in_limits}
use Rattle.orc_tail.proofs.Columns.{column_kind, stats_next, limits_next, limits_fail}
use Rattle.orc_tail.proofs.tail.statistics.stats_in.Goals as goal

pub bounds-types-column : goal.bounds-types-column
bounds-types-column c =
    omega (arith, ap length c.types-types.ensures.same, length-types c.args.schema.now 0, c.requires.few, c.loop-column-test.true)

pub returns-in_err-stat_in-clause-fault : goal.returns-in_err-stat_in-clause-fault
returns-in_err-stat_in-clause-fault c =
    let p = err_from_is_err_and c.from_residual-in_err-stat_in.result c.from_residual-in_err-stat_in.ensures.1 in
    let s = c.args.schema.now in let i = c.loop-column.column in let m = c.index-messages-column.result in
    let kind = column_kind s c.types-types.result.now i c.index-types-column.result c.kind_of_type-kind.result c.types-types.ensures.same
    (omega (arith, c.requires.few, c.loop-column-test.true)) c.kind_of_type-kind.ensures c.index-types-column.is in
    rw (p.1, p.2) (elim c.in_err-stat_in.ensures.fault [
      | inl memory ↦ inl memory
      | inr fails ↦ inr (fails.0, limits_fail s c.args.messages.now i m c.loop-column-test.true c.index-messages-column.is _ (ap (λ (k : StatKind). in_limits (stat_read k m)) (sym kind) ∙ fails.1) c.loop-column.invariant.decides)
    ])

pub loop-column-preserved : goal.loop-column-preserved
loop-column-preserved c =
    let s = c.args.schema.now in let i = c.loop-column.column in let m = c.index-messages-column.result in
    let kind = column_kind s c.types-types.result.now i c.index-types-column.result c.kind_of_type-kind.result c.types-types.ensures.same
    (omega (arith, c.requires.few, c.loop-column-test.true)) c.kind_of_type-kind.ensures c.index-types-column.is in
    let read = c.in_ok-stat_in.ensures.found ∙ ap (λ (k : StatKind). stat_read k m) kind in
    record {
      whole = stats_next s c.args.messages.now i m c.loop-column-test.true c.index-messages-column.is c.loop-column.stats.items c.push.new.self.items _
          (c.in_ok-push.ensures.items ∙ ap (λ (x : Stat). c.loop-column.stats.items ++ x ∷ []) read) c.loop-column.invariant.whole;
      decides = limits_next s c.args.messages.now i m c.loop-column-test.true c.index-messages-column.is _
          (ap (λ (k : StatKind). in_limits (stat_read k m)) (sym kind) ∙ c.in_ok-stat_in.ensures.limits) c.loop-column.invariant.decides;
    }

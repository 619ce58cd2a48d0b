use Rattle.std.proofs.Common.{◌≡◌, ◌∙◌, Some, true, ap}
use Rattle.orc_stats.specs.declared.stat.Stat.{Stat}
use Rattle.orc_skipping.specs.Rules.{taken_boldly, may_be}
use Rattle.orc_skipping.specs.Tests.{predicate}
use Rattle.orc_skipping.proofs.keeping.keeps.Goals as goal

pub returns : goal.returns
returns c =
    let t : Stat = c.args.told.now in
    let passed : Stat = record { count = c.values_taken.result; nulls = Some c.null_taken.result; body = t.body } in
    let same : passed ≡ taken_boldly t = λ i. record { count = c.values_taken.ensures i; nulls = Some (c.null_taken.ensures i); body = t.body } in
    c.may_be.ensures ∙ ap (λ (s : Stat). may_be (λ _. Some s) (predicate c.args.test.now) true) same

use Rattle.std.proofs.Common.{sym, ap, add-one}
use Rattle.orc_values.specs.Views.{lent_views}
use Rattle.orc_values.proofs.Views.{paired-is}
use Rattle.orc_trees.proofs.Lending.{lent_more}
use Rattle.orc_trees.proofs.columns.lend_values.Goals as goal

pub loop-pair-preserved : goal.loop-pair-preserved
loop-pair-preserved c =
    let p = c.pair-item.result in
    rw (c.in_ok-push.ensures.items, add-one) (lent_more (λ p. p.1) c.loop-pair.found.items _ (lent_views c.args.found.now.items) c.args.pairs.now c.loop-pair.pair-index p c.loop-pair-test.true c.pair-item.is (ap (λ p. p.1) (sym (paired-is p))) c.loop-pair.invariant)

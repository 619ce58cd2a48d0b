use Rattle.std.proofs.Common.{◌≡◌, ap, ◌∙◌, subst, refl, arith, IfOk, drop, ◌+◌, ◌≤◌, ◌^◌, sum_by}
use Rattle.orc_stats.specs.declared.stat.Stat.{Stat}
use Rattle.orc_stats.specs.Tallies.{together, stats_kept, stat_of_kept}
use Rattle.orc_stats.proofs.Folding.{stats_none, stats_more, stats_exceed, stat_kind, memory_fault, on_ok}
use Rattle.orc_stats.specs.laws.TallyLaws.{stats_kept_count}
use Rattle.orc_stats.proofs.tally.Tally.of_stats.Goals as goal

pub of_stat-requires : goal.of_stat-requires
of_stat-requires g c = λ k. (
  (refl, tt),
  (stat_kind g.Self.Tally.kind c.args.stats.now c.loop-stat.stat-index c.stat-item.result c.stat-item.is c.loop-stat-test.true c.requires, omega arith),
)

pub join-requires : goal.join-requires
join-requires g c = λ k. ((refl, tt), (let e = ap (λ t. t.count) c.of_stat.ensures in omega (arith, c.loop-stat.invariant.count, c.loop-stat.invariant.most)))

pub loop-stat-preserved : goal.loop-stat-preserved
loop-stat-preserved g c =
    let m = g.Self.Tally.measure in
    let kept = g.Self.Tally.kept c.loop-stat.tally in
    let joined = c.join.ensures ∙ ap (together m kept) c.of_stat.ensures in
    let counts = ap (λ t. t.count) joined in
    record {
      count = omega (arith, c.loop-stat.invariant.count);
      most = omega (arith, c.loop-stat.invariant.most);
      whole = ap (λ k. together m k (stats_kept m (drop (c.loop-stat.stat-index + 1) c.args.stats.now))) joined
          ∙ stats_more m kept c.args.stats.now c.loop-stat.stat-index c.stat-item.result c.loop-stat-test.true c.stat-item.is c.loop-stat.invariant.whole;
    }

pub returns : goal.returns
returns g c =
    let m = g.Self.Tally.measure in
    let all = stats_none m (g.Self.Tally.kept c.loop-stat.tally) c.args.stats.now c.loop-stat.stat-index c.loop-stat-test.false c.loop-stat.invariant.whole in
    let counts = ap (λ t. t.count) all in
    let sums = stats_kept_count m c.args.stats.now in
    let few : sum_by (λ s. s.count) c.args.stats.now ≤ 2 ^ 62 = omega (arith, c.loop-stat.invariant.count, c.loop-stat.invariant.most) in
    record {
      found = subst (λ (t : Stat). IfOk c.close.result (λ s. s ≡ t)) (ap (stat_of_kept m) all ∙ g.Self.Tally.stats_are c.args.stats.now) c.close.ensures.found;
      most = on_ok _ c.close.result few;
      fault = memory_fault g.Self.Tally.TakesMemory c.args.stats.now c.close.result few c.close.ensures.fault;
    }

pub returns-then-stat-count-clause-fault : goal.returns-then-stat-count-clause-fault
returns-then-stat-count-clause-fault g c =
    let m = g.Self.Tally.measure in
    let kept = g.Self.Tally.kept c.loop-stat.tally in
    let few = stats_exceed m kept c.args.stats.now c.loop-stat.stat-index c.stat-item.result c.loop-stat-test.true c.stat-item.is c.loop-stat.invariant.whole in
    omega (arith, c.loop-stat.invariant.count)

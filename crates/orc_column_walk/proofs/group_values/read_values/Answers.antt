use Rattle.std.proofs.Common.{◌≡◌, ◌+◌, refl, true, sym, ap, subst, length, arith}
use Rattle.orc_values.specs.Own.{own_cell}
use Rattle.orc_values.specs.Views.{shape}
use Rattle.orc_stats.specs.Kinds.{is_of}
use Rattle.orc_stats.specs.Statistics.{bit}
use Rattle.orc_stats.specs.laws.TallyLaws.{cells_kept_count}
use Rattle.orc_column_walk.specs.OwnLeft.{OwnValuesLeft}
use Rattle.orc_column_walk.proofs.ReadLemmas.{read_fault}
use Rattle.orc_column_walk.proofs.PassedLemmas.{ValuesMet, no_values_counted, value_counted}
use Rattle.orc_column_walk.proofs.group_values.read_values.Goals as goal

pub loop-init : goal.loop-init
loop-init g c = no_values_counted g.T.Tally.measure (shape c.args.tree.now) c.args.source.now (g.T.Tally.kept c.args.tally.now) c.args.before

pub add_own-requires : goal.add_own-requires
add_own-requires g c κs = (
  (refl, tt),
  (
    subst (λ k. is_of k (own_cell c.in-Ok.own) ≡ true) (sym c.requires.kind) c.in-Ok.ensures.kind,
    (let i = c.loop.invariant in
        let whole = ap (λ k. k.count) i.kept in
        let counted = cells_kept_count g.T.Tally.measure i.cells in
        omega (arith, whole, counted, i.read.counted, ap length i.all, ap bit c.in-Ok.ensures.value, c.requires.most, c.loop-test.true)),
  ),
)

pub returns-in-Err-clause-fault : goal.returns-in-Err-clause-fault
returns-in-Err-clause-fault g c = λ memory n.
    let s = shape c.args.tree.now in
    let i = c.loop.invariant in
    read_fault (OwnValuesLeft s c.args.source.now) (OwnValuesLeft s c.loop.source) (ValuesMet s c.args.source.now) (ValuesMet s c.loop.source) c.loop.counter (c.args.count + n) i.cells c.in-Err.fault i.read (omega (arith, c.loop-test.true)) (c.in-Err.ensures.fault memory)

pub loop-preserved : goal.loop-preserved
loop-preserved g c =
    let s = shape c.args.tree.now in
    value_counted g.T.Tally.measure s c.args.source.now c.loop.source c.next.new.source c.loop.counter (g.T.Tally.kept c.args.tally.now) (g.T.Tally.kept c.loop.tally) (g.T.Tally.kept c.add_own.new.self) c.args.before c.loop.passed c.add-passed.result (own_cell c.in-Ok.own)
    c.loop.invariant c.in-Ok.ensures.found c.in-Ok.ensures.value c.in-Ok.ensures.before c.add_own.ensures
    (λ front h. c.add-passed.ensures.passed s front c.in-Ok.ensures.value c.in-Ok.ensures.children h) c.add-passed.ensures.cells c.add-passed.ensures.values

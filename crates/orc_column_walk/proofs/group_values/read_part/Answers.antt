use Rattle.std.proofs.Common.{refl, length, ◌++◌, sym, ap, ◌∙◌, subst, arith}
use Rattle.orc_values.specs.Cells.{null}
use Rattle.orc_values.specs.Views.{shape}
use Rattle.orc_stats.specs.Tallies.{together, cell_kept}
use Rattle.orc_stats.specs.laws.TallyLaws.{cells_kept_count}
use Rattle.orc_column_walk.specs.Passed.{IsPassed}
use Rattle.orc_column_walk.proofs.KeptLemmas.{part_with_nulls, part_of_values}
use Rattle.orc_column_walk.proofs.group_values.read_part.Goals as goal
use Rattle.orc_column_walk.proofs.group_values.read_part.Goals.{then-count-cells, else-count-cells}

pub add_own-requires : goal.add_own-requires
add_own-requires g c κs = (
  (refl, tt),
  (
    refl,
    (let f = c.in-Ok.ensures.found in
        let whole = ap (λ k. k.count) f.4 in
        let counted = cells_kept_count g.T.Tally.measure f.0 in
        omega (arith, whole, counted, f.1, ap length f.3, c.requires.most)),
  ),
)

pub returns-after-count-cells-clause-counted : goal.returns-after-count-cells-clause-counted
returns-after-count-cells-clause-counted g c =
    let f = c.in-Ok.ensures.found in
    let whole = ap (λ k. k.count) f.4 in
    let counted = cells_kept_count g.T.Tally.measure f.0 in
    elim c.if-count-cells.branch [
      | then-count-cells w ↦ omega (arith, ap (λ t. (g.T.Tally.kept t).count) w.tally-is, ap (λ k. k.count) w.add_own.ensures, whole, counted, f.1, ap length f.3)
      | else-count-cells w ↦ omega (arith, ap (λ t. (g.T.Tally.kept t).count) w.tally-is, whole, counted, f.1, ap length f.3)
    ]

pub returns-after-count-cells-clause-found : goal.returns-after-count-cells-clause-found
returns-after-count-cells-clause-found g c =
    let m = g.T.Tally.measure in
    let s = shape c.args.tree.now in
    let old = g.T.Tally.kept c.args.tally.now in
    let f = c.in-Ok.ensures.found in (
      f.0,
      f.1,
      f.2,
      λ part is long. (
        elim c.if-count-cells.branch [
          | then-count-cells w ↦
              ap g.T.Tally.kept w.tally-is ∙ w.add_own.ensures ∙ ap (λ k. together m k (cell_kept m null)) f.4
              ∙ part_with_nulls m old part f.0 is (omega (arith, f.1, long, w.if-count-cells.true))
          | else-count-cells w ↦ ap g.T.Tally.kept w.tally-is ∙ f.4 ∙ part_of_values m old part f.0 is (omega (arith, f.1, long, w.if-count-cells.false))
        ],
        λ front h. c.pad.ensures.passed s front part long (ap length is ∙ f.1) (subst (λ cs. IsPassed s (front ++ cs) c.in-Ok.passed) (sym is) (f.5 front h)),
      ),
    )

use Rattle.std.proofs.Common.{◌+◌, refl, ap, ◌∙◌, drop}
use Rattle.orc_stats.specs.Tallies.{together, cells_kept}
use Rattle.orc_row_groups.specs.OwnCells.{own_cells}
use Rattle.orc_row_index.proofs.OwnLemmas.{owns_none, owns_more, owns_fit, own_kind}
use Rattle.orc_row_index.proofs.tallies.tally_of.Goals as goal

pub add_own-requires : goal.add_own-requires
add_own-requires g c = λ k. (
  (refl, tt),
  (
    own_kind g.T.Tally.kind c.args.owns.now c.loop-own.own-index _ c.loop-own-test.true c.requires.kind,
    owns_fit g.T.Tally.measure (g.T.Tally.kept c.loop-own.tally) c.args.owns.now c.loop-own.own-index _ c.loop-own-test.true c.requires.most c.loop-own.invariant,
  ),
)

pub loop-own-preserved : goal.loop-own-preserved
loop-own-preserved g c =
    let m = g.T.Tally.measure in
    ap (λ k. together m k (cells_kept m (own_cells (drop (c.loop-own.own-index + 1) c.args.owns.now)))) c.add_own.ensures
    ∙ owns_more m (g.T.Tally.kept c.loop-own.tally) c.args.owns.now c.loop-own.own-index _ c.loop-own-test.true c.loop-own.invariant

pub returns : goal.returns
returns g c = owns_none g.T.Tally.measure (g.T.Tally.kept c.loop-own.tally) c.args.owns.now c.loop-own.own-index c.loop-own-test.false c.loop-own.invariant

use Rattle.std.proofs.Common.{◌≡◌, ◌∷◌, [], ap, ◌∙◌, sym, ◌+◌, min, arith}
use Rattle.orc_values.specs.Cells.{values}
use Rattle.orc_values.specs.Own.{own_cell}
use Rattle.orc_row_groups.specs.Counts.{most}
use Rattle.orc_column_walk.specs.OwnLeft.{children}
use Rattle.orc_column_walk.proofs.PassedLemmas.{passed_more, octets_alone}
use Rattle.orc_column_walk.proofs.passed.Passed.add.Goals as goal
use Rattle.orc_values.proofs.Lists.{values_few, values_one}

pub returns-clause-passed : goal.returns-clause-passed
returns-clause-passed c = λ s cells value many h.
    let own = own_cell c.args.own in
    let alone = values_one own value in
    passed_more s c.args.self _ cells (own ∷ []) h c.add_own.ensures.cells c.add_own.ensures.values
    (c.add_own.ensures.octets ∙ ap (λ n. min most (c.args.self.counts.octets + n)) (sym (octets_alone own)))
    (let e : children s (values (own ∷ [])) ≡ c.children_of.result = ap (children s) alone ∙ sym many ∙ sym c.children_of.ensures in omega (arith, c.saturating_add.ensures, e))

pub returns-clause-values : goal.returns-clause-values
returns-clause-values c = omega (arith, values_few (own_cell c.args.own ∷ []), c.add_own.ensures.values)

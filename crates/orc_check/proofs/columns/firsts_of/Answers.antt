use Rattle.std.proofs.Common.{◌<◌, List, ℕ, sym, ap, subst, ◌∙◌, arith}
use Rattle.orc_row_groups.specs.Bounds.{AreBounds, bound_at}
use Rattle.orc_row_groups.proofs.GroupLemmas.{starts_are_bounds}
use Rattle.orc_check.proofs.GroupBounds.{ok_so}
use Rattle.orc_check.proofs.columns.firsts_of.Goals as goal
use Rattle.orc_row_groups.proofs.BoundLemmas.{first_start}

pub returns-then-need_groups-clause-bounds : goal.returns-then-need_groups-clause-bounds
returns-then-need_groups-clause-bounds c =
    let some : 0 < c.stride.result = omega (arith, c.if-need_groups.ensures.3.0, c.stride.ensures) in
    ok_so c.group_starts.result (λ found e. subst (λ (bs : List ℕ). AreBounds c.args.rows bs) (sym e) (starts_are_bounds c.stride.result c.args.rows some)) c.group_starts.ensures

pub returns-then-need_groups-clause-first : goal.returns-then-need_groups-clause-first
returns-then-need_groups-clause-first c =
    let some : 0 < c.stride.result = omega (arith, c.if-need_groups.ensures.3.0, c.stride.ensures) in
    ok_so c.group_starts.result (λ found e. ap (λ (bs : List ℕ). bound_at c.args.rows bs 0) e ∙ first_start c.stride.result c.args.rows some) c.group_starts.ensures

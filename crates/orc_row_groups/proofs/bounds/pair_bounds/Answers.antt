use Rattle.std.proofs.Common.{◌≡◌, ◌+◌, length, get_or, ap, arith}
use Rattle.std.specs.List.{flat_map}
use Rattle.orc_values.specs.Cells.{pairs_in, values}
use Rattle.orc_row_groups.specs.OwnCells.{own_cells}
use Rattle.orc_row_groups.specs.Bounds.{pairs_before}
use Rattle.orc_row_groups.proofs.OwnLemmas.{owns_long}
use Rattle.orc_row_groups.proofs.Groups.{bound_ahead, bound_there, bound_rises, pairs_between, pairs_within, found_more}
use Rattle.orc_row_groups.proofs.bounds.pair_bounds.Goals as goal

pub owns_between-requires-clause-there : goal.owns_between-requires-clause-there
owns_between-requires-clause-there c = bound_there c.args.owns.now c.args.bounds.now c.loop-bound.bound-index c.requires.bounds c.loop-bound-test.true

pub count_pairs-count-requires : goal.count_pairs-count-requires
count_pairs-count-requires c =
    let cells = own_cells c.args.owns.now in
    let at = c.loop-bound.at in
    let bound = get_or c.args.bounds.now c.loop-bound.bound-index 0 in
    let there = bound_there c.args.owns.now c.args.bounds.now c.loop-bound.bound-index c.requires.bounds c.loop-bound-test.true in
    omega (
      arith,
      c.requires.few,
      ap (λ cs. length (flat_map pairs_in (values cs))) c.owns_between.ensures,
      pairs_between cells at bound (bound_ahead (length cells) c.args.bounds.now c.loop-bound.bound-index at c.loop-bound-test.true c.loop-bound.invariant.begun),
      pairs_within cells bound (omega (arith, there, owns_long c.args.owns.now)),
    )

pub overflow_add-count : goal.overflow_add-count
overflow_add-count c =
    let cells = own_cells c.args.owns.now in
    let at = c.loop-bound.at in
    let bound = get_or c.args.bounds.now c.loop-bound.bound-index 0 in
    let there = bound_there c.args.owns.now c.args.bounds.now c.loop-bound.bound-index c.requires.bounds c.loop-bound-test.true in
    omega (
      arith,
      c.requires.few,
      c.loop-bound.invariant.counted,
      c.count_pairs-count.ensures,
      ap (λ cs. length (flat_map pairs_in (values cs))) c.owns_between.ensures,
      pairs_between cells at bound (bound_ahead (length cells) c.args.bounds.now c.loop-bound.bound-index at c.loop-bound-test.true c.loop-bound.invariant.begun),
      pairs_within cells bound (omega (arith, there, owns_long c.args.owns.now)),
    )

pub loop-bound-preserved : goal.loop-bound-preserved
loop-bound-preserved c =
    let cells = own_cells c.args.owns.now in
    let at = c.loop-bound.at in
    let i = c.loop-bound.bound-index in
    let bound = get_or c.args.bounds.now i 0 in
    let counted : c.loop-bound.count + c.count_pairs-count.result ≡ pairs_before cells bound = omega (
      arith,
      c.loop-bound.invariant.counted,
      c.count_pairs-count.ensures,
      ap (λ cs. length (flat_map pairs_in (values cs))) c.owns_between.ensures,
      pairs_between cells at bound (bound_ahead (length cells) c.args.bounds.now c.loop-bound.bound-index at c.loop-bound-test.true c.loop-bound.invariant.begun),
    ) in
    record {
      begun = bound_rises (length cells) c.args.bounds.now i c.requires.bounds c.loop-bound-test.true;
      counted = counted;
      found = found_more (pairs_before cells) c.args.bounds.now i _ c.loop-bound.found.items _ c.loop-bound-test.true counted c.in_ok-push.ensures.items c.loop-bound.invariant.found;
    }

use Rattle.std.specs.Prelude.{MatchBool}
use Rattle.std.proofs.Common.{◌≡◌, ◌∙◌, ℕ, Some, List, length, slice_get, refl, sym, ap, subst, arith, ltb-true}
use Rattle.std.proofs.lemmas.Option.{slice_get_read}
use Rattle.orc_values.specs.Views.{shape}
use Rattle.orc_row_groups.specs.Bounds.{bound_at, before_group}
use Rattle.orc_row_index.specs.Positions.{ArePositions, reader}
use Rattle.orc_row_index.specs.RunStreams.{RunStream, kind_of_values}
use Rattle.orc_row_index.specs.Walking.{runs, lent_bytes}
use Rattle.orc_row_index.proofs.Groups.{front_there}
use Rattle.orc_row_index_check.specs.Tables.{IsFew}
use Rattle.orc_row_index_check.proofs.Entries.{deciding_more, deciding_end, group_decided, fails_in}
use Rattle.orc_row_index_check.proofs.FewValues.{few_in_present, few_in_own}
use Rattle.orc_row_index_check.proofs.decided.positions_right_behind.Goals as goal

pub returns-in-Err-clause-right : goal.returns-in-Err-clause-right
returns-in-Err-clause-right c = λ x cells bounds is column rises counted.
    let s = shape c.args.tree.now in
    let p = c.placed_streams-placed.ensures x is in
    c.in-Err.ensures.only (subst (λ (y : RunStream). IsFew y) (sym p.present_is) (few_in_present s x cells column)) (subst (λ (y : RunStream). IsFew y) (sym p.own_is) (few_in_own s x cells column))

pub returns-in-Err-clause-fault : goal.returns-in-Err-clause-fault
returns-in-Err-clause-fault c = λ memory x is.
    let s = shape c.args.tree.now in
    fails_in s x c.placed_streams-placed.result c.args.column c.values_kind-kind.result c.in-Err.fault (c.placed_streams-placed.ensures x is) (c.values_kind-kind.ensures ∙ ap (kind_of_values s) is.dictionary_is)
    (c.in-Err.ensures.fault memory)

pub loop-group-preserved : goal.loop-group-preserved
loop-group-preserved c =
    let s = shape c.args.tree.now in
    let streams = c.args.streams.now in
    let entries = c.args.entries.now in
    let placed = c.placed_streams-placed.result in
    let group = c.loop-group.group in
    let b = c.right.result in
    let entry = c.index-entries-group.result in
    let there : slice_get entries group ≡ Some entry = slice_get_read entries (length entries) group entry refl c.loop-group-test.true c.index-entries-group.is in
    let counts : slice_get c.args.counts.now group ≡ Some c.in-Some.before.now =
    slice_get_read c.args.counts.now (length c.args.counts.now) group c.in-Some.before.now refl (ltb-true group (length c.args.counts.now) (sym c.in-Some.ensures.lookup.0)) c.in-Some.ensures.lookup.1 in
    let positions : c.as_slice.result.now ≡ entry.positions = c.as_slice.ensures in
    deciding_more s streams c.args.counts.now entries group c.loop-group.right.items c.push.new.self.items entry b c.loop-group.invariant there c.in_ok-push.ensures.items
    (λ x cells bounds is column counted. group_decided s x placed cells bounds group (bound_at (length cells) bounds group) entry.positions b (c.placed_streams-placed.ensures x is) refl
    (subst (λ (ps : List ℕ). MatchBool b (ArePositions reader (runs placed.present) (lent_bytes placed.content) (runs placed.own) (before_group cells bounds group) ps)
    (ArePositions reader (runs placed.present) (lent_bytes placed.content) (runs placed.own) (before_group cells bounds group) ps → ⊥)) positions
    (c.right.ensures (runs placed.present) (lent_bytes placed.content) (runs placed.own) (before_group cells bounds group) c.in-Ok.ensures.found (counted.each group c.in-Some.before.now counts)
    (front_there s streams cells placed (bound_at (length cells) bounds group) (x, is, column) c.placed_streams-placed.ensures))))

pub returns-clause-right : goal.returns-clause-right
returns-clause-right c = λ x cells bounds is column rises counted.
    deciding_end (shape c.args.tree.now) c.args.streams.now c.args.counts.now c.args.entries.now c.loop-group.group c.loop-group.right.items x cells bounds c.loop-group.invariant
    (omega (arith, c.loop-group-test.false, c.loop-group.auto.group-end)) is column counted

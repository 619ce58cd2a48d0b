use Rattle.std.specs.Option.{option_map}
use Rattle.std.proofs.Common.{rules, ◌≡◌, ◌∙◌, ℕ, ◌<◌, ◌^◌, ◌++◌, Some, List, length, slice_get, refl, ap, arith}
use Rattle.std.proofs.lemmas.Bool.Decides.{Decides-eqb}
use Rattle.std.proofs.lemmas.Option.{slice_get_read}
use Rattle.std.proofs.lemmas.Slice.Eq.{strip_prefix_is}
use Rattle.orc_values.specs.Views.{shape}
use Rattle.orc_row_index.proofs.Groups.{walk_begins}
use Rattle.orc_check.proofs.Matching.{none_matched, next_ready, next_matched, all_matched}
use Rattle.orc_check.proofs.written_index.is_written.Goals as goal

pub loop-group-init : goal.loop-group-init
loop-group-init c =
    let s = shape c.args.tree.now in
    let streams = c.args.streams.now in
    let placed = c.placed_streams-placed.result in
    let is_placed = c.placed_streams-placed.ensures in
    none_matched s streams c.args.groups.now placed is_placed c.in-Some.bytes.now c.start-walk.result
    (λ cells spelled. walk_begins s streams cells placed c.start-walk.result spelled is_placed c.start-walk.ensures.present c.start-walk.ensures.own)

pub put_entry-requires : goal.put_entry-requires
put_entry-requires c =
    let n = c.loop-group.group-index in
    let groups = c.args.groups.now in
    let there : slice_get groups n ≡ Some c.group-item.result = slice_get_read groups (length groups) n c.group-item.result refl c.loop-group-test.true c.group-item.is in
    let ready = next_ready (shape c.args.tree.now) c.args.streams.now groups c.placed_streams-placed.result c.placed_streams-placed.ensures n c.group-item.result there c.in-Some.bytes.now c.loop-group.rest.now c.loop-group.walk
    c.loop-group.invariant c.requires in
    (ready.0, ready.1.0, ready.1.1, ready.1.2)

pub loop-group-preserved : goal.loop-group-preserved
loop-group-preserved c =
    let n = c.loop-group.group-index in
    let groups = c.args.groups.now in
    let there : slice_get groups n ≡ Some c.group-item.result = slice_get_read groups (length groups) n c.group-item.result refl c.loop-group-test.true c.group-item.is in
    let mid = c.loop-group.rest.now in
    let behind = c.in-Some-strip_prefix.behind in
    let text = c.put_entry.new.out.items in
    let stripped : mid ≡ c.deref.result.now ++ behind.now = strip_prefix_is Decides-eqb mid c.deref.result.now (Some behind) c.in-Some-strip_prefix.ensures.cases in
    let split : mid ≡ text ++ behind.now = stripped ∙ ap (λ (t : List ℕ). t ++ behind.now) c.deref.ensures.value in
    next_matched (shape c.args.tree.now) c.args.streams.now groups c.placed_streams-placed.result c.placed_streams-placed.ensures n c.group-item.result there c.in-Some.bytes.now mid c.loop-group.walk
    c.clear.new.self.items text behind.now c.in_ok-walk.walk c.loop-group.invariant c.clear.ensures.items split c.in_ok-walk.ensures.entry c.in_ok-walk.ensures.walked

pub returns : goal.returns
returns c = λ yes x cells bounds is fit few h.
    let n = c.loop-group.group-index in
    let groups = c.args.groups.now in
    let bytes = c.in-Some.bytes.now in
    let end : n ≡ length groups = omega (arith, c.loop-group-test.false, c.loop-group.auto.group-index-end) in
    let none : length c.loop-group.rest.now ≡ 0 = search rules in
    let fits : length bytes < 2 ^ 64 = search rules in (
      bytes,
      ap (option_map (λ b. b.now)) c.in-Some.is,
      all_matched (shape c.args.tree.now) c.args.streams.now groups c.placed_streams-placed.result c.placed_streams-placed.ensures n bytes c.loop-group.rest.now c.loop-group.walk c.loop-group.invariant end none fits x cells bounds is fit few h,
    )

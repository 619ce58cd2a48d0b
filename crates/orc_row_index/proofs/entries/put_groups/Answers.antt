use Rattle.std.proofs.Common.{◌≡◌, ℕ, ◌+◌, ◌-◌, ◌<◌, ◌≤◌, ◌^◌, true, Result, Ok, Err, OnOk, length, get_or, refl, sym, ap, ◌∙◌, subst, arith}
use Rattle.std.proofs.lemmas.Result.{IfOk-weaker}
use Rattle.orc_wire.specs.CanonicalMessages.{row_index_text}
use Rattle.orc_wire.proofs.PutLemmas.{keeps_more, text_fits}
use Rattle.orc_values.specs.Views.{shape}
use Rattle.orc_stats.specs.Kinds.{is_of}
use Rattle.orc_stats.specs.Tallies.{cells_kept}
use Rattle.orc_row_groups.specs.Bounds.{AreBounds, bound_at, before_group, group_of}
use Rattle.orc_row_groups.specs.OwnCells.{own_cells}
use Rattle.orc_row_index.specs.RowIndex.{AreEntries}
use Rattle.orc_row_index.proofs.EntryTexts.{index_spelled}
use Rattle.orc_row_index.proofs.GroupFolds.{part_so, part_short, kept_first, kept_more, kept_all, group_room}
use Rattle.orc_row_index.proofs.Groups.{stands_none, stands_more, front_there}
use Rattle.orc_row_groups.proofs.Groups.{bound_within, bound_read, bound_rises, own_front, own_group, group_few, group_between, take_short}
use Rattle.orc_row_index.proofs.OwnLemmas.{owns_kind, own_stat}
use Rattle.orc_row_groups.proofs.OwnLemmas.{owns_long, own_count}
use Rattle.orc_row_index.proofs.WrittenIndex.{entries_whole}
use Rattle.orc_row_index.proofs.entries.put_groups.Goals as goal
use Rattle.orc_values.proofs.Lists.{values_few}

on_ok : {T E : Type 0} (Q : Type 0) (r : Result T E) → Q → OnOk r Q
on_ok Q (Ok x) q = q
on_ok Q (Err e) q = tt

-- ---- before the first group

pub owns_between-before-requires-clause-there : goal.owns_between-before-requires-clause-there
owns_between-before-requires-clause-there g c =
    omega (arith, bound_within (length c.args.owns.now) c.args.bounds.now 0 c.requires.bounds, c.group_start.ensures)

pub counts_behind-counts-requires : goal.counts_behind-counts-requires
counts_behind-counts-requires g c =
    let owns = c.args.owns.now in
    let part = c.owns_between-before.result.now in
    let h = c.requires.column.1 in
    let first = c.group_start.result in
    let short : length part < 2 ^ 31 = omega (arith, part_short (own_cells owns) (own_cells part) (first - 0) 0 c.owns_between-before.ensures, owns_long part, owns_long owns, own_count owns c.requires.column.0 h.own, h.spelled.2.few) in
    record { cells = omega (arith, c.none.ensures.0, short); values = omega (arith, c.none.ensures.1, short) }

pub tally_of-whole-requires : goal.tally_of-whole-requires
tally_of-whole-requires g c =
    let owns = c.args.owns.now in
    let part = c.owns_between-before.result.now in
    let h = c.requires.column.1 in
    let first = c.group_start.result in
    λ k. (
      (refl, tt),
      (
        part_so (λ x. is_of g.T.Tally.kind x ≡ true) (own_cells owns) (own_cells part) (first - 0) 0 c.owns_between-before.ensures (owns_kind g.T.Tally.kind (shape c.args.tree.now) owns c.requires.column.0 c.requires.kind h.own h.fit),
        omega (arith, part_short (own_cells owns) (own_cells part) (first - 0) 0 c.owns_between-before.ensures, owns_long part, owns_long owns, own_count owns c.requires.column.0 h.own, h.spelled.2.few),
      ),
    )

pub loop-group-init : goal.loop-group-init
loop-group-init g c =
    let m = g.T.Tally.measure in
    let s = shape c.args.tree.now in
    let owns = c.args.owns.now in
    let bounds = c.args.bounds.now in
    let part = c.owns_between-before.result.now in
    let first = c.group_start.result in
    let counts = c.counts_behind-counts in
    record {
      stands = λ cells has.
          stands_none s c.args.streams.now owns part cells bounds c.placed_streams-placed.result c.args.out.now.items c.none.result counts.result c.start-walk.result has c.placed_streams-placed.ensures
          (own_front owns part cells bounds first has.own c.owns_between-before.ensures c.group_start.ensures) c.none.ensures counts.ensures.cells counts.ensures.values counts.ensures.octets
          c.start-walk.ensures.present c.start-walk.ensures.own;
      kept = kept_first m (own_cells owns) bounds first (own_cells part) (g.T.Tally.kept c.tally_of-whole.result) c.tally_of-whole.ensures c.owns_between-before.ensures
          (c.group_start.ensures ∙ ap (λ (n : ℕ). bound_at n bounds 0) (sym (owns_long owns)));
    }

-- ---- a group

pub owns_between-cells-requires : goal.owns_between-cells-requires
owns_between-cells-requires g c =
    let count = length c.args.owns.now in
    let group = c.loop-group.group in
    record {
      ordered = omega (arith, bound_rises count c.args.bounds.now group c.requires.bounds c.loop-group-test.true, c.group_end-end.ensures);
      there = omega (arith, bound_within count c.args.bounds.now (group + 1) c.requires.bounds, c.group_end-end.ensures);
    }

pub tally_of-tally-requires : goal.tally_of-tally-requires
tally_of-tally-requires g c =
    let owns = c.args.owns.now in
    let part = c.owns_between-cells.result.now in
    let h = c.requires.column.1 in
    let start = get_or c.args.bounds.now c.loop-group.group 0 in
    let size = c.group_end-end.result - start in
    λ k. (
      (refl, tt),
      (
        part_so (λ x. is_of g.T.Tally.kind x ≡ true) (own_cells owns) (own_cells part) size start c.owns_between-cells.ensures (owns_kind g.T.Tally.kind (shape c.args.tree.now) owns c.requires.column.0 c.requires.kind h.own h.fit),
        omega (arith, part_short (own_cells owns) (own_cells part) size start c.owns_between-cells.ensures, owns_long part, owns_long owns, own_count owns c.requires.column.0 h.own, h.spelled.2.few),
      ),
    )

pub put_entry-requires : goal.put_entry-requires
put_entry-requires g c =
    let s = shape c.args.tree.now in
    let cells = c.requires.column.0 in
    let h = c.requires.column.1 in
    let bounds = c.args.bounds.now in
    let placed = c.placed_streams-placed.result in
    let group = c.loop-group.group in
    let stands = c.loop-group.invariant.stands cells h in
    (before_group cells bounds group, stands.counted, front_there s c.args.streams.now cells placed (bound_at (length cells) bounds group) h.spelled c.placed_streams-placed.ensures, stands.walked)

pub counts_behind-counts-requires-in-loop-group : goal.counts_behind-counts-requires-in-loop-group
counts_behind-counts-requires-in-loop-group g c =
    let owns = c.args.owns.now in
    let part = c.owns_between-cells.result.now in
    let cells = c.requires.column.0 in
    let h = c.requires.column.1 in
    let bounds = c.args.bounds.now in
    let group = c.loop-group.group in
    let start = get_or bounds group 0 in
    let size = c.group_end-end.result - start in
    let counted = (c.loop-group.invariant.stands cells h).counted in
    let short : length part < 2 ^ 31 = omega (arith, part_short (own_cells owns) (own_cells part) size start c.owns_between-cells.ensures, owns_long part, owns_long owns, own_count owns cells h.own, h.spelled.2.few) in
    let front = take_short (bound_at (length cells) bounds group) cells in
    record {
      cells = omega (arith, counted.cells_are, short, front, h.spelled.2.few);
      values = omega (arith, counted.values_are, values_few (before_group cells bounds group), short, front, h.spelled.2.few);
    }

pub join-requires : goal.join-requires
join-requires g c =
    let m = g.T.Tally.measure in
    let owns = c.args.owns.now in
    let cells = own_cells owns in
    let bounds = c.args.bounds.now in
    let group = c.loop-group.group in
    let h = c.requires.column.1 in
    let start = get_or bounds group 0 in
    let rise : AreBounds (length cells) bounds = subst (λ (n : ℕ). AreBounds n bounds) (sym (owns_long owns)) c.requires.bounds in
    let end : c.group_end-end.result ≡ bound_at (length cells) bounds (group + 1) = c.group_end-end.ensures ∙ ap (λ (n : ℕ). bound_at n bounds (group + 1)) (sym (owns_long owns)) in
    let own : own_cells c.owns_between-cells.result.now ≡ group_of cells bounds group = c.owns_between-cells.ensures
    ∙ group_between cells bounds group start c.group_end-end.result rise (bound_read (length cells) bounds group c.loop-group-test.true) end in
    let is : g.T.Tally.kept c.tally_of-tally.result ≡ cells_kept m (group_of cells bounds group) = c.tally_of-tally.ensures ∙ ap (cells_kept m) own in
    let few : length cells ≤ 2 ^ 62 = omega (arith, owns_long owns, own_count owns c.requires.column.0 h.own, h.spelled.2.few) in
    λ k. (
      (refl, tt),
      group_room m cells bounds group (2 ^ 62) (g.T.Tally.kept c.loop-group.whole) (g.T.Tally.kept c.tally_of-tally.result) rise few c.loop-group.invariant.kept is,
    )

pub loop-group-preserved : goal.loop-group-preserved
loop-group-preserved g c =
    let m = g.T.Tally.measure in
    let s = shape c.args.tree.now in
    let streams = c.args.streams.now in
    let owns = c.args.owns.now in
    let said = own_cells owns in
    let part = c.owns_between-cells.result.now in
    let bounds = c.args.bounds.now in
    let placed = c.placed_streams-placed.result in
    let group = c.loop-group.group in
    let start = get_or bounds group 0 in
    let counts = c.counts_behind-counts-in-loop-group in
    let rise : AreBounds (length said) bounds = subst (λ (n : ℕ). AreBounds n bounds) (sym (owns_long owns)) c.requires.bounds in
    let end : c.group_end-end.result ≡ bound_at (length said) bounds (group + 1) = c.group_end-end.ensures ∙ ap (λ (n : ℕ). bound_at n bounds (group + 1)) (sym (owns_long owns)) in
    let is_group : own_cells part ≡ group_of said bounds group = c.owns_between-cells.ensures
    ∙ group_between said bounds group start c.group_end-end.result rise (bound_read (length said) bounds group c.loop-group-test.true) end in
    let is : g.T.Tally.kept c.tally_of-tally.result ≡ cells_kept m (group_of said bounds group) = c.tally_of-tally.ensures ∙ ap (cells_kept m) is_group in
    record {
      stands = λ cells has.
          let stands = c.loop-group.invariant.stands cells has in
          let there : AreBounds (length cells) bounds = subst (λ (n : ℕ). AreBounds n bounds) (own_count owns cells has.own) c.requires.bounds in
          let own = own_group owns part cells bounds group c.group_end-end.result has.own c.requires.bounds c.loop-group-test.true c.owns_between-cells.ensures c.group_end-end.ensures in
          let few : length (group_of cells bounds group) ≤ 2 ^ 62 = omega (arith, group_few cells bounds group, has.spelled.2.few) in
          let places = front_there s streams cells placed (bound_at (length cells) bounds group) has.spelled c.placed_streams-placed.ensures in
          stands_more s streams part cells bounds placed group c.args.out.now.items c.loop-group.out.items c.put_entry.new.out.items c.loop-group.counts counts.result c.loop-group.walk c.in_ok-walk.walk c.in_ok-statistic_of.field-0
          there c.placed_streams-placed.ensures stands own counts.ensures.cells counts.ensures.values counts.ensures.octets
          (c.in_ok-walk.ensures.walked (before_group cells bounds group) stands.counted)
          (own_stat m g.T.Tally.kind s part (group_of cells bounds group) (g.T.Tally.kept c.tally_of-tally.result) c.in_ok-statistic_of.field-0 g.T.Tally.childless_kept g.T.Tally.cells_are c.requires.kind own few c.tally_of-tally.ensures c.in_ok-statistic_of.ensures)
          (c.in_ok-walk.ensures.entry (before_group cells bounds group) stands.counted places);
      kept = c.join.ensures ∙ kept_more m said bounds group (g.T.Tally.kept c.loop-group.whole) (g.T.Tally.kept c.tally_of-tally.result) rise c.loop-group.invariant.kept is;
    }

-- what stands so far stays
pub returns-in_err-statistic_of-clause-front : goal.returns-in_err-statistic_of-clause-front
returns-in_err-statistic_of-clause-front g c =
    let stands = c.loop-group.invariant.stands c.requires.column.0 c.requires.column.1 in
    keeps_more c.args.out.now.items c.loop-group.out.items (row_index_text.text (record { entries = stands.entries })) stands.added.text_is

pub returns-in_err-walk-clause-front : goal.returns-in_err-walk-clause-front
returns-in_err-walk-clause-front g c =
    let stands = c.loop-group.invariant.stands c.requires.column.0 c.requires.column.1 in
    keeps_more c.args.out.now.items c.put_entry.new.out.items (row_index_text.text (record { entries = stands.entries })) (c.in_err-walk.ensures.unchanged ∙ stands.added.text_is)

-- ---- behind the last group

pub returns-clause-index : goal.returns-clause-index
returns-clause-index g c = λ cells has. on_ok _ c.statistic_of-2.result (λ x is.
    let s = shape c.args.tree.now in
    let bounds = c.args.bounds.now in
    let out = c.loop-group.out in
    let i = c.loop-group.invariant.stands cells has in
    let end : c.loop-group.group ≡ length bounds = omega (arith, c.loop-group-test.false, c.loop-group.auto.group-end) in
    let are : AreEntries s x cells bounds (length bounds) i.entries = subst (λ (n : ℕ). AreEntries s x cells bounds n i.entries) end (i.are x is) in
    let text = row_index_text.text (record { entries = i.entries }) in
    let whole = entries_whole s x cells bounds (length bounds) i.entries has.fit has.spelled.2.few are in
    let fits = text_fits c.args.out.now.items out.items text out.len out.cap i.added.text_is out.ok.0 out.ok.1 out.small in (
      text,
      record { entries = i.entries; are = are; text_is = refl; spelled = index_spelled i.entries i.added.bounded whole fits },
      i.added.text_is,
    ))

pub returns-clause-stat : goal.returns-clause-stat
returns-clause-stat g c = λ cells own.
    let m = g.T.Tally.measure in
    let owns = c.args.owns.now in
    let bounds = c.args.bounds.now in
    let h = c.requires.column.1 in
    let all : length bounds ≤ c.loop-group.group = omega (arith, c.loop-group-test.false) in
    let few : length cells ≤ 2 ^ 62 = omega (arith, own_count owns cells own, own_count owns c.requires.column.0 h.own, h.spelled.2.few) in
    let kept = kept_all m (own_cells owns) bounds c.loop-group.group (g.T.Tally.kept c.loop-group.whole) all c.loop-group.invariant.kept in
    IfOk-weaker c.statistic_of-2.result _ _
    (λ found e. own_stat m g.T.Tally.kind (shape c.args.tree.now) owns cells (g.T.Tally.kept c.loop-group.whole) found g.T.Tally.childless_kept g.T.Tally.cells_are c.requires.kind own few kept e) c.statistic_of-2.ensures

pub returns-clause-front : goal.returns-clause-front
returns-clause-front g c =
    let stands = c.loop-group.invariant.stands c.requires.column.0 c.requires.column.1 in
    keeps_more c.args.out.now.items c.loop-group.out.items (row_index_text.text (record { entries = stands.entries })) stands.added.text_is

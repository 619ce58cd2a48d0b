use Rattle.std.proofs.Common.{◌≡◌, ◌∙◌, ℕ, List, length, inl, inr, refl, sym, ap, subst, arith}
use Rattle.orc_wire.specs.declared.row_index.RowIndexMsg.{RowIndexMsg}
use Rattle.orc_values.specs.Columns.{cells}
use Rattle.orc_values.specs.Shapes.{Shape, shape_at}
use Rattle.orc_values.specs.Views.{shape}
use Rattle.orc_column_reader.specs.Starting.{AreStreams}
use Rattle.orc_column_reader.specs.Stripe.{IsColumn, columns_of}
use Rattle.orc_group_reader.proofs.OnlyMemory.{only_memory}
use Rattle.orc_row_groups.specs.Bounds.{AreBounds}
use Rattle.orc_row_groups.specs.Groups.{group_count, starts_of_groups, bounds_of}
use Rattle.orc_row_groups.proofs.GroupLemmas.{starts_are_bounds}
use Rattle.orc_stripe_reader.proofs.ColumnsDown.{few_rows, counted_entries}
use Rattle.orc_stripe_reader.proofs.GroupCells.{column_bounds}
use Rattle.orc_stripe_reader.proofs.IndexFaults.{starts_long, result_by, ok_always, err_memory, decided_same}
use Rattle.orc_stripe_reader.proofs.OneStripe.{by_footer}
use Rattle.orc_stripe_reader.proofs.Opened.{footer_columns}
use Rattle.orc_stripe_reader.proofs.view.StripeView.positions_right.Goals as goal

pub returns-in-Err-clause-right : goal.returns-in-Err-clause-right
returns-in-Err-clause-right c = λ rows message is some h.
    let v = c.self.inside in
    let spelled = by_footer v.schema.now v.info v.bytes.now v.footer rows c.self.invariant (rw (← c.self.view_is) at is) in
    let refused = rw (← c.self.view_is) at c.in-Err.ensures.fault in
    inl (only_memory c.in-Err.fault (λ other. (refused other).none rows spelled))

pub returns-in-Err-clause-fault : goal.returns-in-Err-clause-fault
returns-in-Err-clause-fault c = λ memory. inl (c.in-Err.ensures.fault memory)

pub returns-in-Err-index-clause-right : goal.returns-in-Err-index-clause-right
returns-in-Err-index-clause-right c = λ rows message is some h. inl (c.in-Err-index.ensures.only message some h)

pub returns-in-Err-index-clause-fault : goal.returns-in-Err-index-clause-fault
returns-in-Err-index-clause-fault c = λ memory. let r = c.in-Ok.ensures.rows in inr (r.0, r.1, inl c.in-Err-index.ensures.fault)

-- ---- another number of entries

pub returns-then-entries-groups-clause-right : goal.returns-then-entries-groups-clause-right
returns-then-entries-groups-clause-right c = λ rows message is some h.
    let v = c.self.inside in
    let spelled = by_footer v.schema.now v.info v.bytes.now v.footer rows c.self.invariant (rw (← c.self.view_is) at is) in
    rw (← c.self.view_is) (inr (
      refl,
      c.in-Ok-index.index,
      rw (← c.self.view_is) at c.in-Ok-index.ensures.found.1,
      λ whole. c.if-entries-groups.true (omega (arith, whole, ap (group_count v.stride) spelled.counted, ap length c.as_slice-entries.ensures, c.div_ceil-groups.ensures)),
    ))

pub returns-then-entries-groups-clause-fault : goal.returns-then-entries-groups-clause-fault
returns-then-entries-groups-clause-fault c = λ memory.
    let v = c.self.inside in
    let r = rw (← c.self.view_is) at c.in-Ok.ensures.rows in
    let spelled = by_footer v.schema.now v.info v.bytes.now v.footer r.0 c.self.invariant r.1 in
    rw (← c.self.view_is) (inr (
      r.0,
      r.1,
      inr (
        refl,
        c.in-Ok-index.index,
        rw (← c.self.view_is) at c.in-Ok-index.ensures.found.1,
        λ whole. c.if-entries-groups.true (omega (arith, whole, ap (group_count v.stride) spelled.counted, ap length c.as_slice-entries.ensures, c.div_ceil-groups.ensures)),
      ),
    ))

-- ---- what is counted before each group

pub column_counts-requires-clause-few : goal.column_counts-requires-clause-few
column_counts-requires-clause-few c =
    let v = c.self.inside in
    let r = rw (← c.self.view_is) at c.in-Ok.ensures.rows in
    rw (← c.self.view_is) (few_rows v.schema.now (columns_of v.footer v.bytes.now) v.info.number_of_rows r.0 (by_footer v.schema.now v.info v.bytes.now v.footer r.0 c.self.invariant r.1))

pub column_counts-requires-clause-located : goal.column_counts-requires-clause-located
column_counts-requires-clause-located c = c.in-Ok.ensures.found

pub column_counts-requires-clause-same : goal.column_counts-requires-clause-same
column_counts-requires-clause-same c = c.in-Ok.ensures.same

pub column_counts-requires-clause-stride : goal.column_counts-requires-clause-stride
column_counts-requires-clause-stride c = c.in-Ok-index.ensures.found.0

pub returns-in-Err-column_counts-clause-right : goal.returns-in-Err-column_counts-clause-right
returns-in-Err-column_counts-clause-right c = λ rows message is some h.
    let v = c.self.inside in
    let spelled = by_footer v.schema.now v.info v.bytes.now v.footer rows c.self.invariant (rw (← c.self.view_is) at is) in
    inl (c.in-Err-column_counts.ensures.refused rows (rw (← c.self.view_is) spelled))

pub returns-in-Err-column_counts-clause-fault : goal.returns-in-Err-column_counts-clause-fault
returns-in-Err-column_counts-clause-fault c = λ memory.
    let v = c.self.inside in
    let r = rw (← c.self.view_is) at c.in-Ok.ensures.rows in
    absurd (memory (c.in-Err-column_counts.ensures.refused r.0 (rw (← c.self.view_is) (by_footer v.schema.now v.info v.bytes.now v.footer r.0 c.self.invariant r.1))))

pub streams_of-streams-requires-clause-there : goal.streams_of-streams-requires-clause-there
streams_of-streams-requires-clause-there c =
    let v = c.self.inside in
    let there = rw (← c.self.view_is) at c.requires in
    omega (arith, there, footer_columns v.schema.now v.info v.bytes.now v.footer c.self.invariant)

pub streams_of-streams-requires-clause-located : goal.streams_of-streams-requires-clause-located
streams_of-streams-requires-clause-located c = rw (← c.self.view_is) at c.in-Ok.ensures.found

-- ---- what is answered

pub returns-clause-index : goal.returns-clause-index
returns-clause-index c =
    let v = c.self.inside in
    let r = rw (← c.self.view_is) at c.in-Ok.ensures.rows in
    let has = rw (← c.self.view_is) at c.in-Ok-index.ensures.found in
    let spelled = by_footer v.schema.now v.info v.bytes.now v.footer r.0 c.self.invariant r.1 in
    rw (← c.self.view_is) (ok_always c.positions_right_behind.result (
      r.0,
      c.in-Ok-index.index,
      r.1,
      has.1,
      omega (arith, ap (group_count v.stride) spelled.counted, ap length c.as_slice-entries.ensures, c.if-entries-groups.false, c.div_ceil-groups.ensures),
      has.0,
    ))

pub returns-clause-right : goal.returns-clause-right
returns-clause-right c = λ rows message is some h.
    let v = c.self.inside in
    let s = v.schema.now in
    let column = c.args.column in
    let x = columns_of v.footer v.bytes.now column in
    let there = rw (← c.self.view_is) at c.requires in
    let positive = rw (← c.self.view_is) at some in
    let spelled = by_footer s v.info v.bytes.now v.footer rows c.self.invariant (rw (← c.self.view_is) at is) in
    let firsts = starts_of_groups v.stride (length rows) in
    let bounds = bounds_of s column rows firsts in
    let tree : shape c.tree_at-tree.result.now ≡ shape_at s column = c.tree_at-tree.ensures ∙ ap (λ (z : Shape). shape_at z column) c.tree.ensures.same in
    let same : c.in-Ok-index.index ≡ message = c.in-Ok-index.ensures.only message some h in
    let entries : c.as_slice-entries.result.now ≡ message.entries = c.as_slice-entries.ensures ∙ ap (λ (m : RowIndexMsg). m.entries) same in
    let whole : length message.entries ≡ group_count v.stride (length rows) = omega (arith, ap (group_count v.stride) spelled.counted, ap length entries, c.if-entries-groups.false, c.div_ceil-groups.ensures) in
    let located = rw (← c.self.view_is) at c.in-Ok.ensures.same in
    let streams = subst (λ (b : List ℕ). AreStreams (columns_of v.footer b column) c.streams_of-streams.result) located c.streams_of-streams.ensures in
    let own : IsColumn (shape c.tree_at-tree.result.now) x (cells s column rows) = subst (λ (z : Shape). IsColumn z x (cells s column rows)) (sym tree) (spelled.column column there) in
    let rising : AreBounds (length (cells s column rows)) bounds = column_bounds s column rows firsts (starts_are_bounds v.stride (length rows) positive) in
    let found = rw (← c.self.view_is) at c.in-Ok-column_counts.ensures.found in
    let counted = counted_entries c.in-Ok-column_counts.counts.items c.deref.result.now (cells s column rows) bounds (length firsts) (length c.as_slice-entries.result.now) c.deref.ensures.value
    (omega (arith, whole, ap length entries, starts_long v.stride (length rows))) (found rows spelled) in
    rw (← c.self.view_is) (result_by c.positions_right_behind.result
    (λ right decided. (
      whole,
      decided_same (shape c.tree_at-tree.result.now) (shape_at s column) x (cells s column rows) (cells s column rows) bounds bounds c.as_slice-entries.result.now message.entries right.items tree refl refl entries decided,
    )) (λ f memory. inl memory)
    (c.positions_right_behind.ensures.right x (cells s column rows) bounds streams own rising counted))

pub returns-clause-fault : goal.returns-clause-fault
returns-clause-fault c =
    let v = c.self.inside in
    let r = rw (← c.self.view_is) at c.in-Ok.ensures.rows in
    let rows = r.0 in
    let message = c.in-Ok-index.index in
    let s = v.schema.now in
    let column = c.args.column in
    let x = columns_of v.footer v.bytes.now column in
    let there = rw (← c.self.view_is) at c.requires in
    let positive = rw (← c.self.view_is) at c.in-Ok-index.ensures.found.0 in
    let spelled = by_footer s v.info v.bytes.now v.footer rows c.self.invariant r.1 in
    let firsts = starts_of_groups v.stride (length rows) in
    let bounds = bounds_of s column rows firsts in
    let tree : shape c.tree_at-tree.result.now ≡ shape_at s column = c.tree_at-tree.ensures ∙ ap (λ (z : Shape). shape_at z column) c.tree.ensures.same in
    let entries : c.as_slice-entries.result.now ≡ message.entries = c.as_slice-entries.ensures in
    let whole : length message.entries ≡ group_count v.stride (length rows) = omega (arith, ap (group_count v.stride) spelled.counted, ap length entries, c.if-entries-groups.false, c.div_ceil-groups.ensures) in
    let located = rw (← c.self.view_is) at c.in-Ok.ensures.same in
    let streams = subst (λ (b : List ℕ). AreStreams (columns_of v.footer b column) c.streams_of-streams.result) located c.streams_of-streams.ensures in
    let own : IsColumn (shape c.tree_at-tree.result.now) x (cells s column rows) = subst (λ (z : Shape). IsColumn z x (cells s column rows)) (sym tree) (spelled.column column there) in
    let rising : AreBounds (length (cells s column rows)) bounds = column_bounds s column rows firsts (starts_are_bounds v.stride (length rows) positive) in
    let found = rw (← c.self.view_is) at c.in-Ok-column_counts.ensures.found in
    let counted = counted_entries c.in-Ok-column_counts.counts.items c.deref.result.now (cells s column rows) bounds (length firsts) (length c.as_slice-entries.result.now) c.deref.ensures.value
    (omega (arith, whole, ap length entries, starts_long v.stride (length rows))) (found rows spelled) in
    err_memory _ _ c.positions_right_behind.result (c.positions_right_behind.ensures.right x (cells s column rows) bounds streams own rising counted)

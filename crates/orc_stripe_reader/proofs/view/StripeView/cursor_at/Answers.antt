use Rattle.std.proofs.Common.{◌≡◌, ◌∙◌, ℕ, ◌*◌, ◌-◌, List, take, drop, refl, sym, ap, inr, subst, arith, length-drop}
use Rattle.orc_values.specs.Shapes.{Shape, width}
use Rattle.orc_values.specs.Views.{shape}
use Rattle.orc_wire.specs.declared.row_index.RowIndexEntry.{RowIndexEntry}
use Rattle.orc_column_reader.specs.Columns.{CellsLeft}
use Rattle.orc_column_reader.specs.ReaderFaults.{CellsMeet}
use Rattle.orc_column_reader.specs.Stripe.{columns_of}
use Rattle.orc_group_reader.specs.Rows.{RowsTurn}
use Rattle.orc_stripe_reader.specs.GroupCursors.{HasGroup, GroupRefused, EntersGroup, SpellsFrom}
use Rattle.orc_stripe_reader.specs.Opened.{Opened}
use Rattle.orc_stripe_reader.proofs.GroupTurned.{group_turns, all_there, group_refused, enters_group}
use Rattle.orc_stripe_reader.proofs.Opened.{footer_room, footer_columns}
use Rattle.orc_stripe_reader.proofs.RowsLemmas.{rows_too_many}
use Rattle.orc_stripe_reader.proofs.SpelledBehind.{gives_behind}
use Rattle.orc_stripe_reader.proofs.view.StripeView.cursor_at.Goals as goal

pub returns-then-count-ge-CELL_LIMIT-clause-starts : goal.returns-then-count-ge-CELL_LIMIT-clause-starts
returns-then-count-ge-CELL_LIMIT-clause-starts c = λ x rows h.
    let v = c.self.inside in
    let spelled = rw (← c.self.view_is) at h.spelled in
    absurd (rows_too_many v.schema.now x v.info.number_of_rows rows (omega (arith, c.if-count-ge-CELL_LIMIT.true)) spelled)

pub returns-in-Err-clause-starts : goal.returns-in-Err-clause-starts
returns-in-Err-clause-starts c = λ x rows h. c.in-Err.ensures.refused (λ column lt. let k = h.column column lt in (k.0, k.1))

pub locate-requires-clause-room : goal.locate-requires-clause-room
locate-requires-clause-room c =
    let v = c.self.inside in
    footer_room v.schema.now v.info v.bytes.now v.footer c.self.invariant

pub readers_at-requires-clause-columns : goal.readers_at-requires-clause-columns
readers_at-requires-clause-columns c =
    let v = c.self.inside in
    ap width c.tree-tree.ensures.same ∙ footer_columns v.schema.now v.info v.bytes.now v.footer c.self.invariant

-- ---- the readers

pub returns-in-Ok-readers_at-clause-starts : goal.returns-in-Ok-readers_at-clause-starts
returns-in-Ok-readers_at-clause-starts c = λ x rows h.
    let v = c.self.inside in
    let n = c.args.group * v.stride in
    let here = group_turns c.args.self.now x rows c.args.group c.in-Ok.entries.items h c.in-Ok.ensures.counted c.in-Ok.ensures.only in
    let turns = rw (← c.self.view_is) at here in
    let spelled = rw (← c.self.view_is) at h.spelled in
    let given = subst (λ (es : List RowIndexEntry). RowsTurn v.schema.now x (columns_of v.footer v.bytes.now) (take n rows) (drop n rows) es) (sym c.deref.ensures.value) turns in
    let located = subst (λ (b : List ℕ). RowsTurn v.schema.now x (columns_of v.footer b) (take n rows) (drop n rows) c.deref.result.now) (sym c.in_ok-located.ensures.same) given in
    let all = subst (λ (s : Shape). RowsTurn s x (columns_of v.footer c.in_ok-located.located.bytes.now) (take n rows) (drop n rows) c.deref.result.now) (sym c.tree-tree.ensures.same) located in
    rw (← c.self.view_is) (record {
      going = refl;
      counted = omega (arith, length-drop n rows, spelled.counted, c.in-Some.ensures);
      spelled = c.in-Ok-readers_at.ensures.left x (take n rows) (drop n rows) all;
    })

pub returns-clause-starts : goal.returns-clause-starts
returns-clause-starts c = λ x rows h.
    let v = c.self.inside in
    let n = c.args.group * v.stride in
    let here = group_turns c.args.self.now x rows c.args.group c.in-Ok.entries.items h c.in-Ok.ensures.counted c.in-Ok.ensures.only in
    let turns = rw (← c.self.view_is) at here in
    let given = subst (λ (es : List RowIndexEntry). RowsTurn v.schema.now x (columns_of v.footer v.bytes.now) (take n rows) (drop n rows) es) (sym c.deref.ensures.value) turns in
    let located = subst (λ (b : List ℕ). RowsTurn v.schema.now x (columns_of v.footer b) (take n rows) (drop n rows) c.deref.result.now) (sym c.in_ok-located.ensures.same) given in
    let all = subst (λ (s : Shape). RowsTurn s x (columns_of v.footer c.in_ok-located.located.bytes.now) (take n rows) (drop n rows) c.deref.result.now) (sym c.tree-tree.ensures.same) located in
    c.in-Err-readers_at.ensures.left x (take n rows) (drop n rows) all

pub returns-in-Ok-readers_at-clause-there : goal.returns-in-Ok-readers_at-clause-there
returns-in-Ok-readers_at-clause-there c =
    let has : HasGroup c.args.self.now c.args.group =
    rw (← c.self.view_is) (record { indexed = omega (arith, c.if-self-eq0.false); there = omega (arith, c.in-Some.ensures, c.if-first-count.false) }) in
    (has, all_there c.args.self.now c.args.group c.in-Ok.entries.items c.in-Ok.ensures.counted c.in-Ok.ensures.found)

pub returns-clause-fault : goal.returns-clause-fault
returns-clause-fault c = λ memory.
    let v = c.self.inside in
    let has : HasGroup c.args.self.now c.args.group =
    rw (← c.self.view_is) (record { indexed = omega (arith, c.if-self-eq0.false); there = omega (arith, c.in-Some.ensures, c.if-first-count.false) }) in
    let all = all_there c.args.self.now c.args.group c.in-Ok.entries.items c.in-Ok.ensures.counted c.in-Ok.ensures.found in
    let found = rw (← c.self.view_is) at c.in-Ok.ensures.found in
    let refused = group_refused (record { schema = v.schema.now; info = v.info; stride = v.stride; bytes = v.bytes.now; footer = v.footer }) c.args.group (shape c.tree-tree.result.now) c.in_ok-located.located.bytes.now
    c.deref.result.now c.in-Ok.entries.items c.in-Err-readers_at.fault c.tree-tree.ensures.same c.in_ok-located.ensures.same c.deref.ensures.value found (c.in-Err-readers_at.ensures.fault memory) in
    let here : GroupRefused c.args.self.now c.args.group c.in-Err-readers_at.fault = rw (← c.self.view_is) refused in
    inr (has, inr (all, here))

-- ---- what the cursor has to give

pub returns-in-Ok-readers_at-clause-entered : goal.returns-in-Ok-readers_at-clause-entered
returns-in-Ok-readers_at-clause-entered c =
    let v = c.self.inside in
    let view : Opened = record { schema = v.schema.now; info = v.info; stride = v.stride; bytes = v.bytes.now; footer = v.footer } in
    let of_group = rw (← c.self.view_is) at c.in-Ok.ensures.found in
    let counted = rw (← c.self.view_is) at c.in-Ok.ensures.counted in
    let enters : EntersGroup view c.args.group c.in-Ok-readers_at.readers.items = enters_group view c.args.group (shape c.tree-tree.result.now) c.in_ok-located.located.bytes.now c.deref.result.now c.in-Ok.entries.items
    c.in-Ok-readers_at.readers.items c.tree-tree.ensures.same c.in_ok-located.ensures.same c.deref.ensures.value counted of_group c.in-Ok-readers_at.ensures.at in
    rw (← c.self.view_is) (c.in-Ok-readers_at.readers.items, enters)

pub returns-in-Ok-readers_at-clause-found : goal.returns-in-Ok-readers_at-clause-found
returns-in-Ok-readers_at-clause-found c = λ rows stands.
    let v = c.self.inside in
    let view : Opened = record { schema = v.schema.now; info = v.info; stride = v.stride; bytes = v.bytes.now; footer = v.footer } in
    let of_group = rw (← c.self.view_is) at c.in-Ok.ensures.found in
    let counted = rw (← c.self.view_is) at c.in-Ok.ensures.counted in
    let enters : EntersGroup view c.args.group c.in-Ok-readers_at.readers.items = enters_group view c.args.group (shape c.tree-tree.result.now) c.in_ok-located.located.bytes.now c.deref.result.now c.in-Ok.entries.items
    c.in-Ok-readers_at.readers.items c.tree-tree.ensures.same c.in_ok-located.ensures.same c.deref.ensures.value counted of_group c.in-Ok-readers_at.ensures.at in
    rw (← c.self.view_is) (record {
      readers = c.in-Ok-readers_at.readers.items;
      entered = enters;
      counted = omega (arith, stands.counted, c.in-Some.ensures, c.if-first-count.false);
      spelled = subst (λ (s : Shape). CellsLeft s c.in-Ok-readers_at.readers.items rows) c.tree-tree.ensures.same stands.spelled;
    })

pub returns-in-Ok-readers_at-clause-stands : goal.returns-in-Ok-readers_at-clause-stands
returns-in-Ok-readers_at-clause-stands c = λ rows h.
    let v = c.self.inside in
    let view : Opened = record { schema = v.schema.now; info = v.info; stride = v.stride; bytes = v.bytes.now; footer = v.footer } in
    let of_group = rw (← c.self.view_is) at c.in-Ok.ensures.found in
    let counted = rw (← c.self.view_is) at c.in-Ok.ensures.counted in
    let enters : EntersGroup view c.args.group c.in-Ok-readers_at.readers.items = enters_group view c.args.group (shape c.tree-tree.result.now) c.in_ok-located.located.bytes.now c.deref.result.now c.in-Ok.entries.items
    c.in-Ok-readers_at.readers.items c.tree-tree.ensures.same c.in_ok-located.ensures.same c.deref.ensures.value counted of_group c.in-Ok-readers_at.ensures.at in
    let behind : SpellsFrom view c.args.group rows = rw (← c.self.view_is) at h in
    record {
      going = refl;
      counted = omega (arith, behind.counted, c.in-Some.ensures);
      spelled = subst (λ (s : Shape). CellsLeft s c.in-Ok-readers_at.readers.items rows) (sym c.tree-tree.ensures.same) (gives_behind view c.args.group rows c.in-Ok-readers_at.readers.items enters behind);
    }

pub returns-in-Ok-readers_at-clause-meets : goal.returns-in-Ok-readers_at-clause-meets
returns-in-Ok-readers_at-clause-meets c = λ f met.
    let v = c.self.inside in
    let view : Opened = record { schema = v.schema.now; info = v.info; stride = v.stride; bytes = v.bytes.now; footer = v.footer } in
    let of_group = rw (← c.self.view_is) at c.in-Ok.ensures.found in
    let counted = rw (← c.self.view_is) at c.in-Ok.ensures.counted in
    let enters : EntersGroup view c.args.group c.in-Ok-readers_at.readers.items = enters_group view c.args.group (shape c.tree-tree.result.now) c.in_ok-located.located.bytes.now c.deref.result.now c.in-Ok.entries.items
    c.in-Ok-readers_at.readers.items c.tree-tree.ensures.same c.in_ok-located.ensures.same c.deref.ensures.value counted of_group c.in-Ok-readers_at.ensures.at in
    let left : v.info.number_of_rows - c.in-Some.first ≡ v.info.number_of_rows - c.args.group * v.stride = ap (λ (n : ℕ). v.info.number_of_rows - n) c.in-Some.ensures.1 in
    rw (← c.self.view_is) (record {
      readers = c.in-Ok-readers_at.readers.items;
      entered = enters;
      all = met.0;
      met = subst (λ (n : ℕ). CellsMeet v.schema.now c.in-Ok-readers_at.readers.items met.0 n f) left
          (subst (λ (s : Shape). CellsMeet s c.in-Ok-readers_at.readers.items met.0 (v.info.number_of_rows - c.in-Some.first) f) c.tree-tree.ensures.same met.1);
    })

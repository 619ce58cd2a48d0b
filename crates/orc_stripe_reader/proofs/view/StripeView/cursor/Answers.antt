use Rattle.std.proofs.Common.{◌≡◌, false, refl, inl, inr, length, ap, sym, subst, arith}
use Rattle.orc_values.specs.Shapes.{width}
use Rattle.orc_values.specs.Views.{shape}
use Rattle.orc_column_reader.specs.Starting.{PutsReaders}
use Rattle.orc_column_reader.specs.Faults.{FaultDown}
use Rattle.orc_directory.specs.Located.{AreLocated}
use Rattle.orc_column_reader.specs.Stripe.{columns_of, columns_from, SpellRows, SpellsCells}
use Rattle.orc_row_reader.proofs.FaultLemmas.{fault_from_start, readers_down}
use Rattle.orc_column_reader.proofs.StartLemmas.{tree_alike}
use Rattle.orc_row_reader.proofs.Started.{all_put, all_origins, none_put}
use Rattle.orc_column_reader.proofs.ByNumber.{from_number, to_number}
use Rattle.orc_stripe_reader.proofs.OneStripe.{by_footer}
use Rattle.orc_stripe_reader.proofs.Opened.{footer_room, footer_once, footer_columns}
use Rattle.orc_group_reader.proofs.OnlyMemory.{only_memory}
use Rattle.orc_stripe_reader.proofs.RowsLemmas.{rows_too_many}
use Rattle.orc_stripe_reader.proofs.view.StripeView.cursor.Goals as goal

pub returns-then-count-ge-CELL_LIMIT-clause-only : goal.returns-then-count-ge-CELL_LIMIT-clause-only
returns-then-count-ge-CELL_LIMIT-clause-only c = λ rows h.
    let v = c.self.inside in
    let is = rw (← c.self.view_is) at h in
    absurd (rows_too_many v.schema.now (columns_of v.footer v.bytes.now) v.info.number_of_rows rows (omega (arith, c.if-count-ge-CELL_LIMIT.true)) (by_footer v.schema.now v.info v.bytes.now v.footer rows c.self.invariant is))

pub returns-then-count-ge-CELL_LIMIT-clause-fault : goal.returns-then-count-ge-CELL_LIMIT-clause-fault
returns-then-count-ge-CELL_LIMIT-clause-fault c = λ memory.
    let v = c.self.inside in
    rw (← c.self.view_is) (record {
      none = λ rows h. rows_too_many v.schema.now (columns_of v.footer v.bytes.now) v.info.number_of_rows rows (omega (arith, c.if-count-ge-CELL_LIMIT.true)) h;
      reason = inl (refl, (omega (arith, c.if-count-ge-CELL_LIMIT.true)));
    })

pub returns-in-Ok-clause-found : goal.returns-in-Ok-clause-found
returns-in-Ok-clause-found c = λ rows h.
    let v = c.self.inside in
    let x = columns_of v.footer v.bytes.now in
    let s = c.tree-tree.ensures.same in
    let made = all_put v.footer v.bytes.now (shape c.tree-tree.result.now) c.in_ok-readers.readers.items c.put_tree.new.readers.items c.in_ok-readers.ensures.items (subst (λ b. PutsReaders v.footer b (shape c.tree-tree.result.now) c.in_ok-readers.readers.items c.put_tree.new.readers.items) c.in_ok-located.ensures.same c.in-Ok.ensures.found) in
    let n = to_number (shape c.tree-tree.result.now) x rows (omega (arith, h.counted, c.if-count-ge-CELL_LIMIT.false)) ((tree_alike (shape c.tree-tree.result.now) x c.put_tree.new.readers.items made).to rows h.spelled) in
    rw (← c.self.view_is) (record {
      footer = v.footer;
      has_footer = c.self.invariant;
      spelled = subst (λ t. SpellRows t x v.info.number_of_rows rows) s (subst (λ k. SpellRows (shape c.tree-tree.result.now) x k rows) h.counted n);
    })

pub returns-in-Ok-clause-only : goal.returns-in-Ok-clause-only
returns-in-Ok-clause-only c = λ rows h.
    let v = c.self.inside in
    let x = columns_of v.footer v.bytes.now in
    let s = c.tree-tree.ensures.same in
    let is = rw (← c.self.view_is) at h in
    let spelled = by_footer v.schema.now v.info v.bytes.now v.footer rows c.self.invariant is in
    let made = all_put v.footer v.bytes.now (shape c.tree-tree.result.now) c.in_ok-readers.readers.items c.put_tree.new.readers.items c.in_ok-readers.ensures.items (subst (λ b. PutsReaders v.footer b (shape c.tree-tree.result.now) c.in_ok-readers.readers.items c.put_tree.new.readers.items) c.in_ok-located.ensures.same c.in-Ok.ensures.found) in
    let here = subst (λ t. SpellRows t x v.info.number_of_rows rows) (sym s) spelled in
    record {
      going = refl;
      counted = spelled.counted;
      spelled = (tree_alike (shape c.tree-tree.result.now) x c.put_tree.new.readers.items made).from rows (from_number (shape c.tree-tree.result.now) x v.info.number_of_rows rows here);
    }

pub returns-in-Ok-clause-meets : goal.returns-in-Ok-clause-meets
returns-in-Ok-clause-meets c = λ f h.
    let v = c.self.inside in
    let x = columns_of v.footer v.bytes.now in
    let s = c.tree-tree.ensures.same in
    let are = all_origins v.footer v.bytes.now (shape c.tree-tree.result.now) c.in_ok-readers.readers.items c.put_tree.new.readers.items c.in_ok-readers.ensures.items (subst (λ b. PutsReaders v.footer b (shape c.tree-tree.result.now) c.in_ok-readers.readers.items c.put_tree.new.readers.items) c.in_ok-located.ensures.same c.in-Ok.ensures.found) in
    rw (← c.self.view_is) (h.0, subst (λ t. FaultDown t x 0 h.0 v.info.number_of_rows f) s (readers_down (shape c.tree-tree.result.now) x 0 c.put_tree.new.readers.items h.0 v.info.number_of_rows f are h.1))

pub returns-clause-only : goal.returns-clause-only
returns-clause-only c = λ rows h.
    let v = c.self.inside in
    let x = columns_of v.footer v.bytes.now in
    let s = c.tree-tree.ensures.same in
    let is = rw (← c.self.view_is) at h in
    let spelled = by_footer v.schema.now v.info v.bytes.now v.footer rows c.self.invariant is in
    only_memory c.in-Err.fault (λ other.
    c.in-Err.ensures.none other rows (subst (λ b. SpellsCells (shape c.tree-tree.result.now) (columns_from v.footer b (length c.in_ok-readers.readers.items)) rows) (sym c.in_ok-located.ensures.same)
    (none_put v.footer v.bytes.now (shape c.tree-tree.result.now) c.in_ok-readers.readers.items rows c.in_ok-readers.ensures.items
    (subst (λ t. SpellsCells t x rows) (sym s) (from_number v.schema.now x v.info.number_of_rows rows spelled)))))

pub returns-clause-fault : goal.returns-clause-fault
returns-clause-fault c = λ memory.
    let v = c.self.inside in
    let x = columns_of v.footer v.bytes.now in
    let s = c.tree-tree.ensures.same in
    rw (← c.self.view_is) (record {
      none = λ rows h. memory (only_memory c.in-Err.fault (λ other.
          c.in-Err.ensures.none other rows (subst (λ b. SpellsCells (shape c.tree-tree.result.now) (columns_from v.footer b (length c.in_ok-readers.readers.items)) rows) (sym c.in_ok-located.ensures.same)
          (none_put v.footer v.bytes.now (shape c.tree-tree.result.now) c.in_ok-readers.readers.items rows c.in_ok-readers.ensures.items
          (subst (λ t. SpellsCells t x rows) (sym s) (from_number v.schema.now x v.info.number_of_rows rows h))))));
      reason = inr (fault_from_start v.schema.now (shape c.tree-tree.result.now) x c.in_ok-readers.readers.items v.info.number_of_rows c.in-Err.fault s c.in_ok-readers.ensures.items
          (subst (λ b. FaultDown (shape c.tree-tree.result.now) (columns_of v.footer b) (length c.in_ok-readers.readers.items) false v.info.number_of_rows c.in-Err.fault) c.in_ok-located.ensures.same
          (c.in-Err.ensures.fault memory v.info.number_of_rows)));
    })

pub put_tree-requires-clause-there : goal.put_tree-requires-clause-there
put_tree-requires-clause-there c =
    let v = c.self.inside in
    let n = footer_columns v.schema.now v.info v.bytes.now v.footer c.self.invariant in
    let w : width (shape c.tree-tree.result.now) ≡ width v.schema.now = ap width c.tree-tree.ensures.same in
    omega (arith, n, w, ap length c.in_ok-readers.ensures.items)

pub put_tree-requires-clause-located : goal.put_tree-requires-clause-located
put_tree-requires-clause-located c =
    let v = c.self.inside in
    subst (λ b. AreLocated (length v.footer.columns) v.footer.streams b c.in_ok-located.located.slices.items) (sym c.in_ok-located.ensures.same) c.in_ok-located.ensures.found

pub locate-requires-clause-room : goal.locate-requires-clause-room
locate-requires-clause-room c =
    let v = c.self.inside in
    footer_room v.schema.now v.info v.bytes.now v.footer c.self.invariant

pub locate-requires-clause-once : goal.locate-requires-clause-once
locate-requires-clause-once c =
    let v = c.self.inside in
    footer_once v.schema.now v.info v.bytes.now v.footer c.self.invariant

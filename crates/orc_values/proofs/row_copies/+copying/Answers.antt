use Rattle.std.proofs.Common.{◌≡◌, refl, ap, sym, ◌∙◌, add-one}
use Rattle.orc_values.specs.Cells.{list, struct, pairs, cells_of, pairs_of}
use Rattle.orc_values.specs.Views.{view, cell_of_value}
use Rattle.orc_values.specs.declared.value.MapPair.{MapPair}
use Rattle.orc_values.proofs.Views.{view-List, view-Map, view-Struct}
use Rattle.orc_values.proofs.Copied.{rows_copied, pairs_copied}
use Rattle.orc_values.proofs.row_copies.+copying.Goals as goal
use Rattle.orc_values.proofs.row_copies.+copying.Goals.{owned_rows-in-None, owned_rows-in-Some+in_ok-owned_value-in-Some}
use Rattle.orc_values.proofs.row_copies.+copying.Goals.{owned_pairs-in-None, owned_pairs-in-Some+in_ok-owned_value-in-Some}
use Rattle.orc_values.proofs.row_copies.+copying.Goals.{owned_pairs-in-None-value, owned_pairs-in-Some-value+in_ok-owned_value-in-Some-value}

pub owned_value-returns-in_ok-owned_rows-in-List : goal.owned_value-returns-in_ok-owned_rows-in-List
owned_value-returns-in_ok-owned_rows-in-List t c =
    view-List c.in_ok-owned_rows-in-List.field-0 ∙ ap (λ rs. list (cells_of rs)) c.in_ok-owned_rows-in-List.ensures ∙ sym (view-List c.in-List.items) ∙ ap cell_of_value (sym c.in-List.is)

pub owned_value-returns-in_ok-owned_rows-in-Struct : goal.owned_value-returns-in_ok-owned_rows-in-Struct
owned_value-returns-in_ok-owned_rows-in-Struct t c =
    view-Struct c.in_ok-owned_rows-in-Struct.field-0 ∙ ap (λ rs. struct (cells_of rs)) c.in_ok-owned_rows-in-Struct.ensures ∙ sym (view-Struct c.in-Struct.items) ∙ ap cell_of_value (sym c.in-Struct.is)

pub owned_value-returns-in_ok-owned_pairs-in-Map : goal.owned_value-returns-in_ok-owned_pairs-in-Map
owned_value-returns-in_ok-owned_pairs-in-Map t c =
    view-Map c.in_ok-owned_pairs-in-Map.field-0 ∙ ap (λ ps. pairs (pairs_of ps)) c.in_ok-owned_pairs-in-Map.ensures ∙ sym (view-Map c.in-Map.pairs) ∙ ap cell_of_value (sym c.in-Map.is)

pub owned_rows-loop-row-preserved : goal.owned_rows-loop-row-preserved
owned_rows-loop-row-preserved t c =
    let same : view c.match-row.copy ≡ view c.row-item.result =
    elim c.match-row.branch [
      | owned_rows-in-None w ↦ rw (w.copy-is, w.in-None.is) refl
      | owned_rows-in-Some+in_ok-owned_value-in-Some w ↦ rw (w.copy-is, w.in-Some.is) w.in_ok-owned_value-in-Some.ensures
    ] in
    rw (c.in_ok-push.ensures.items, add-one) (rows_copied c.deref-row-items.result.now c.loop-row.copies.items c.loop-row.row-index c.row-item.result c.match-row.copy c.loop-row-test.true c.row-item.is same c.loop-row.invariant)

pub owned_pairs-loop-pair-preserved : goal.owned_pairs-loop-pair-preserved
owned_pairs-loop-pair-preserved t c =
    let copy : MapPair = record { key = c.match-pair.key; value = c.match-pair-2.value } in
    let key : view copy.key ≡ view c.pair-item.result.key =
    elim c.match-pair.branch [
      | owned_pairs-in-None w ↦ rw (w.key-is, w.in-None.is) refl
      | owned_pairs-in-Some+in_ok-owned_value-in-Some w ↦ rw (w.key-is, w.in-Some.is) w.in_ok-owned_value-in-Some.ensures
    ] in
    let value : view copy.value ≡ view c.pair-item.result.value =
    elim c.match-pair-2.branch [
      | owned_pairs-in-None-value w ↦ rw (w.value-is, w.in-None-value.is) refl
      | owned_pairs-in-Some-value+in_ok-owned_value-in-Some-value w ↦ rw (w.value-is, w.in-Some-value.is) w.in_ok-owned_value-in-Some-value.ensures
    ] in
    rw (c.in_ok-push.ensures.items, add-one) (pairs_copied c.deref-pair-items.result.now c.loop-pair.copies.items c.loop-pair.pair-index c.pair-item.result copy c.loop-pair-test.true c.pair-item.is key value c.loop-pair.invariant)

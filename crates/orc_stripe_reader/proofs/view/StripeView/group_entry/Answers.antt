use Rattle.std.proofs.Common.{◌≡◌, ◌∙◌, ◌<◌, Some, List, length, slice_get, refl, sym, ap, subst, arith}
use Rattle.std.proofs.lemmas.Option.{same_Some, slice_get_read}
use Rattle.orc_wire.specs.declared.row_index.RowIndexEntry.{RowIndexEntry}
use Rattle.orc_wire.specs.declared.row_index.RowIndexMsg.{RowIndexMsg}
use Rattle.orc_row_groups.specs.Groups.{group_count}
use Rattle.orc_stripe_reader.proofs.view.StripeView.group_entry.Goals as goal
use Rattle.orc_row_groups.proofs.BoundLemmas.{group_there}

pub returns-in-Err-clause-only : goal.returns-in-Err-clause-only
returns-in-Err-clause-only c = λ entry h. c.in-Err.ensures.only h.0 c.requires.indexed h.1

pub returns-then-len-groups-clause-only : goal.returns-then-len-groups-clause-only
returns-then-len-groups-clause-only c = λ entry h.
    let same : c.in-Ok.index ≡ h.0 = c.in-Ok.ensures.only h.0 c.requires.indexed h.1 in
    let whole = rw (← c.self.view_is) at h.2 in
    absurd (c.if-len-groups.true
    (omega (arith, whole, ap (λ (m : RowIndexMsg). length m.entries) same, ap length c.into_vec-entries.ensures, c.len.ensures, c.div_ceil-groups.ensures)))

pub swap_remove-requires : goal.swap_remove-requires
swap_remove-requires c =
    let v = c.self.inside in
    let some = rw (← c.self.view_is) at c.requires.indexed in
    let before = rw (← c.self.view_is) at c.requires.there in
    omega (arith, group_there v.stride v.info.number_of_rows c.args.group some before, c.len.ensures, c.div_ceil-groups.ensures, c.if-len-groups.false)

pub returns-clause-found : goal.returns-clause-found
returns-clause-found c =
    let v = c.self.inside in
    let some = rw (← c.self.view_is) at c.requires.indexed in
    let before = rw (← c.self.view_is) at c.requires.there in
    let read = rw (← c.self.view_is) at c.in-Ok.ensures.found.1 in
    let items = c.into_vec-entries.result.items in
    let whole : length c.in-Ok.index.entries ≡ group_count v.stride v.info.number_of_rows =
    omega (arith, ap length c.into_vec-entries.ensures, c.len.ensures, c.div_ceil-groups.ensures, c.if-len-groups.false) in
    let lt : c.args.group < length items = omega (arith, whole, ap length c.into_vec-entries.ensures, group_there v.stride v.info.number_of_rows c.args.group some before) in
    let at = subst (λ (es : List RowIndexEntry). slice_get es c.args.group ≡ Some c.swap_remove.result) c.into_vec-entries.ensures
    (slice_get_read items (length items) c.args.group c.swap_remove.result refl lt c.swap_remove.ensures.value) in
    rw (← c.self.view_is) (c.in-Ok.index, read, whole, at)

pub returns-clause-only : goal.returns-clause-only
returns-clause-only c = λ entry h.
    let v = c.self.inside in
    let some = rw (← c.self.view_is) at c.requires.indexed in
    let before = rw (← c.self.view_is) at c.requires.there in
    let items = c.into_vec-entries.result.items in
    let same : c.in-Ok.index ≡ h.0 = c.in-Ok.ensures.only h.0 c.requires.indexed h.1 in
    let whole : length c.in-Ok.index.entries ≡ group_count v.stride v.info.number_of_rows =
    omega (arith, ap length c.into_vec-entries.ensures, c.len.ensures, c.div_ceil-groups.ensures, c.if-len-groups.false) in
    let lt : c.args.group < length items = omega (arith, whole, ap length c.into_vec-entries.ensures, group_there v.stride v.info.number_of_rows c.args.group some before) in
    let at = slice_get_read items (length items) c.args.group c.swap_remove.result refl lt c.swap_remove.ensures.value in
    let there = ap (λ (es : List RowIndexEntry). slice_get es c.args.group) (c.into_vec-entries.ensures ∙ ap (λ (m : RowIndexMsg). m.entries) same) ∙ h.3 in
    same_Some c.swap_remove.result entry (sym at ∙ there)

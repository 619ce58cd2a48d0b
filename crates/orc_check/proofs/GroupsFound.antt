-- Where row indexes are right, each stripe starts at each of its groups.
use Rattle.std.proofs.Common.{◌≡◌, ◌∙◌, ℕ, zero, suc, ◌<◌, Bool, true, List, [], ◌∷◌, length, map, slice_get, Some, refl, subst, arith}
use Rattle.std.proofs.lemmas.List.{length-map}
use Rattle.orc_wire.specs.declared.row_index.RowIndexEntry.{RowIndexEntry}
use Rattle.orc_wire.specs.declared.row_index.RowIndexMsg.{RowIndexMsg}
use Rattle.orc_wire.specs.declared.stripe_footer.StripeFooter.{StripeFooter}
use Rattle.orc_values.specs.Cells.{Cell}
use Rattle.orc_values.specs.Columns.{cells}
use Rattle.orc_values.specs.Shapes.{width, shape_at}
use Rattle.orc_column_reader.specs.Stripe.{SpellRows, columns_of}
use Rattle.orc_row_index_check.specs.Decided.{Decides, AreDecided}
use Rattle.orc_row_groups.specs.Groups.{starts_of_groups, bounds_of}
use Rattle.orc_stripe_reader.specs.Opened.{Opened}
use Rattle.orc_stripe_reader.specs.RowIndexes.{HasIndex, HasEachGroup, ArePositionsDecided}
use Rattle.orc_stripe_reader.specs.GroupCursors.{HasGroup, HasRightEntry, StartsGroup}
use Rattle.orc_stripe_reader.proofs.OneStripe.{one_footer, by_footer}
use Rattle.orc_tail.specs.Stripes.{stripe_at, stripe_bytes}
use Rattle.orc_file_reader.specs.FileRows.{opened_stripe, cut_rows, FileIs}
use Rattle.orc_tail.specs.declared.tail.Tail.{Tail}
use Rattle.orc_check.specs.Findings.{rows_at}
use Rattle.orc_check.specs.RightIndexes.{HasAgreeingIndex, HasIndexes, StartsAtGroups}
use Rattle.orc_check.proofs.GroupBounds.{bounds_long}
use Rattle.orc_check.proofs.NoFinding.{stripe_is}
use Rattle.orc_row_groups.proofs.BoundLemmas.{group_there}

-- ---- every entry's positions are right

abbrev all_right : List RowIndexEntry → List Bool
all_right es = map (λ (e : RowIndexEntry). true) es

right_at : (es : List RowIndexEntry) (g : ℕ) → g < length es → slice_get (all_right es) g ≡ Some true
right_at [] g lt = absurd (omega (arith, lt))
right_at (e ∷ es) zero lt = refl
right_at (e ∷ es) (suc g) lt = right_at es g (omega (arith, lt))

right_alone : (es : List RowIndexEntry) (g : ℕ) (b : Bool) → slice_get (all_right es) g ≡ Some b → true ≡ b
right_alone [] g b h = cc
right_alone (e ∷ es) zero b h = let same : true ≡ b = cc in same
right_alone (e ∷ es) (suc g) b h = right_alone es g b h

-- ---- what the laws of groups say

abbrev pub StartsThere : Type 0
StartsThere =
    (view : Opened) (rows : List Cell) (group : ℕ) → SpellRows view.schema (columns_of view.footer view.bytes) view.info.number_of_rows rows → HasGroup view group
    → ((c : ℕ) → c < width view.schema → HasRightEntry view rows c group) → StartsGroup view (columns_of view.footer view.bytes) rows group

abbrev pub EntryThere : Type 0
EntryThere =
    (view : Opened) (rows : List Cell) (c group : ℕ) (message : RowIndexMsg) (right : List Bool) → length rows ≡ view.info.number_of_rows → HasGroup view group
    → HasIndex view.footer view.bytes c message → HasEachGroup view (length rows) message → ArePositionsDecided view c rows message right → slice_get right group ≡ Some true
    → HasRightEntry view rows c group

entry_found : EntryThere → (view : Opened) (rows : List Cell) (c group : ℕ) → length rows ≡ view.info.number_of_rows → HasGroup view group → HasAgreeingIndex view.stride view.schema rows view.footer view.bytes c
    → HasRightEntry view rows c group
entry_found entry view rows c group counted has right =
    let r = right.1 in
    let es : List RowIndexEntry = r.message.entries in
    let whole : HasEachGroup view (length rows) r.message = r.counted ∙ bounds_long view.schema c view.stride rows in
    let less : group < length es = (let k = group_there view.stride (length rows) group has.indexed (omega (arith, has.there, counted)) in omega (arith, k, whole)) in
    let s = shape_at view.schema c in
    let x = columns_of view.footer view.bytes c in
    let cs = cells view.schema c rows in
    let bounds = bounds_of view.schema c rows (starts_of_groups view.stride (length rows)) in
    let decided : AreDecided s x cs bounds es (all_right es) = record {
      counted = length-map es (λ (e : RowIndexEntry). true);
      each = λ g e b at told. subst (λ (t : Bool). Decides s x cs bounds g e.positions t) (right_alone es g b told) (r.positions g e at);
    } in
    entry view rows c group r.message (all_right es) counted has (right.0, r.spelled) whole decided (right_at es group less)

pub groups_found : StartsThere → EntryThere → (bytes : List ℕ) (tail : Tail) (rows : List Cell) → FileIs bytes tail rows → HasIndexes bytes tail rows → StartsAtGroups bytes tail rows
groups_found there entry bytes tail rows is indexes n lt footer has group at =
    let text : List ℕ = stripe_bytes (stripe_at tail.stripes n) bytes in
    let view : Opened = opened_stripe tail n text footer in
    let part : List Cell = rows_at (cut_rows tail.stripes rows) n in
    let spelled = by_footer tail.schema (stripe_at tail.stripes n) text footer part has (stripe_is bytes tail rows is n lt) in
    let own = indexes at.indexed n lt in
    let same : own.footer ≡ footer = one_footer tail.schema (stripe_at tail.stripes n) text own.footer footer own.has_footer has in
    there view part group spelled at
    (λ c lower. entry_found entry view part c group spelled.counted at (subst (λ (f : StripeFooter). HasAgreeingIndex tail.stride tail.schema part f text c) same (own.right c lower)))

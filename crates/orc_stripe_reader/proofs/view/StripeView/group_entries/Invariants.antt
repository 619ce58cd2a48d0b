use Rattle.std.proofs.Common.{◌≡◌, ℕ, Some, length, slice_get}
use Rattle.orc_wire.specs.declared.row_index.RowIndexEntry.{RowIndexEntry}
use Rattle.orc_stripe_reader.specs.GroupCursors.{IsGroupEntry}
use Rattle.orc_stripe_reader.proofs.view.StripeView.group_entries.Given as goal

-- the entries of the columns so far
abbrev pub invariant-loop-column : goal.invariant-loop-column
invariant-loop-column l =
    (length l.entries.items ≡ l.column) × ((c : ℕ) (entry : RowIndexEntry) → slice_get l.entries.items c ≡ Some entry → IsGroupEntry l.self c l.group entry)
    × ((c : ℕ) (found entry : RowIndexEntry) → slice_get l.entries.items c ≡ Some found → IsGroupEntry l.self c l.group entry → found ≡ entry)

-- Stripes and files that differ from others only before the offsets that a group's index entries record (ORC
-- specification, "Row Group Index").
use Rattle.std.specs.Prelude.{◌≡◌, ℕ, ◌+◌, ◌<◌, ◌==◌, ◌&&◌, not, if◌then◌else◌, List, map, drop, get_or}
use Rattle.orc_wire.specs.declared.row_index.RowIndexEntry.{RowIndexEntry}
use Rattle.orc_wire.specs.declared.stripe_footer.StripeFooter.{StripeFooter}
use Rattle.orc_wire.specs.declared.stripe_info.StripeInfo.{StripeInfo}
use Rattle.orc_wire.specs.StreamKinds.{PRESENT, DATA, LENGTH}
use Rattle.orc_values.specs.Shapes.{Shape, width, shape_at}
use Rattle.orc_directory.specs.Directory.{slice}
use Rattle.orc_column_reader.specs.Stripe.{Streams, HasFooter, has_dictionary, columns_of}
use Rattle.orc_row_index.specs.Positions.{octets_size}
use Rattle.orc_row_index.specs.RunStreams.{value_bytes}
use Rattle.orc_group_reader.specs.Entering.{AgreeFrom}
use Rattle.orc_group_reader.specs.Refusals.{present_size}
use Rattle.orc_stripe_reader.specs.Opened.{Opened}
use Rattle.orc_stripe_reader.specs.GroupCursors.{IsGroupEntry}
use Rattle.orc_tail.specs.Stripes.{stripe_at, stripe_bytes}
use Rattle.orc_file_reader.specs.FileRows.{opened_stripe}
use Rattle.orc_tail.specs.declared.tail.Tail.{Tail}

-- The offset that a column's positions record for its stream of a kind. The positions of PRESENT come first, then
-- those of DATA, and then those of LENGTH. The other kinds have none: a dictionary's streams and row indexes are read
-- from their start.
abbrev pub offset_of : Shape → Streams → List ℕ → ℕ → ℕ
offset_of s x positions kind =
    if kind == PRESENT then get_or positions 0 0
    else (if kind == DATA then get_or positions (present_size x) 0
    else (if (kind == LENGTH) && not (has_dictionary x)
    then get_or positions (present_size x + octets_size (value_bytes s x)) 0
    else 0))

-- the stripe with other bytes, and the same entry in the file's footer and the same stripe footer
abbrev pub with_bytes : Opened → List ℕ → Opened
with_bytes view bytes = record view { bytes = bytes }

-- The bytes differ from a stripe's only in streams that have positions, and there only before the offsets that the
-- group's index entries record. There are as many bytes, with the same footer, and each stream of a column has the
-- same length, and the same bytes from its offset on.
pub record DiffersOnlyBefore (view : Opened) (group : ℕ) (bytes : List ℕ) : Type 0 where
  pub footer : AgreeFrom (view.info.index_length + view.info.data_length) bytes view.bytes
  pub stream : (c kind : ℕ) (entry : RowIndexEntry) → c < width view.schema
      → IsGroupEntry view c group entry
      → AgreeFrom (offset_of (shape_at view.schema c) (columns_of view.footer view.bytes c) entry.positions kind)
      (slice c kind view.footer.streams bytes) (slice c kind view.footer.streams view.bytes)

-- Another file differs from a file in one stripe only before the offsets that the group's index entries record, and
-- in no later stripe. The stripes before it may differ in any way.
pub record FileDiffersOnlyBefore (bytes : List ℕ) (tail : Tail) (n group : ℕ) (other : List ℕ) : Type 0 where
  pub here : (footer : StripeFooter)
      → HasFooter tail.schema (stripe_at tail.stripes n) (stripe_bytes (stripe_at tail.stripes n) bytes) footer
      → DiffersOnlyBefore (opened_stripe tail n (stripe_bytes (stripe_at tail.stripes n) bytes) footer) group
      (stripe_bytes (stripe_at tail.stripes n) other)
  pub behind : map (λ (info : StripeInfo). stripe_bytes info other) (drop (n + 1) tail.stripes)
      ≡ map (λ (info : StripeInfo). stripe_bytes info bytes) (drop (n + 1) tail.stripes)

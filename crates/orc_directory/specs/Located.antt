-- Where the streams of all columns lie, four for each column (ORC specification, "Stripe Footer").
use Rattle.std.specs.Prelude.{◌≡◌, ℕ, ◌+◌, ◌*◌, ◌<◌, true, false, List, [], length, map, get_or}
use Rattle.orc_wire.specs.declared.stripe_footer.StreamMsg.{StreamMsg}
use Rattle.orc_wire.specs.StreamKinds.{CELL_KINDS}
use Rattle.orc_directory.specs.declared.located.Slice.{Slice}
use Rattle.orc_directory.specs.Directory.{slice, is_stream_of}

-- the bytes of a stream that was located
abbrev pub slice_bytes : Slice → List ℕ
slice_bytes s = s.bytes.now

-- the bytes of a column's stream of one of the kinds that store cells
abbrev pub stream_at : List Slice → ℕ → ℕ → List ℕ
stream_at slices column kind = get_or (map slice_bytes slices) (CELL_KINDS * column + kind) []

-- the slices are the streams that the directory names
pub record AreLocated (columns : ℕ) (streams : List StreamMsg) (bytes : List ℕ) (slices : List Slice) : Type 0 where
  pub len : length slices ≡ CELL_KINDS * columns
  pub are : (column kind : ℕ)
      → column < columns
      → kind < CELL_KINDS
      → stream_at slices column kind ≡ slice column kind streams bytes

-- the slices after one more stream, whose bytes are `front`: it is in its place, and the others stay
pub record LocatesNext (columns : ℕ) (s : StreamMsg) (front : List ℕ) (old new : List Slice) : Type 0 where
  pub len : length new ≡ length old
  pub this : (column kind : ℕ)
      → column < columns
      → kind < CELL_KINDS
      → is_stream_of column kind s ≡ true
      → stream_at new column kind ≡ front
  pub others : (column kind : ℕ)
      → column < columns
      → kind < CELL_KINDS
      → is_stream_of column kind s ≡ false
      → stream_at new column kind ≡ stream_at old column kind

-- A walk over the streams of a column, from group to group.
use Rattle.std.specs.Prelude.{◌≡◌, ℕ, ◌/◌, ◌≤◌, Option, Some, None, option_map, List, length}
use Rattle.std.specs.Borrow.{Bor}
use Rattle.orc_rle.specs.ByteRun.{IsByteRun}
use Rattle.orc_positions.specs.Position.{HasValues}
use Rattle.orc_positions.specs.RunStarts.{IsRunStart}
use Rattle.orc_positions.specs.declared.run_start.RunStart.{RunStart}
use Rattle.orc_values.specs.Cells.{Cell, values}
use Rattle.orc_values.specs.Shapes.{Shape}
use Rattle.orc_column_reader.specs.Numbers.{is_run}
use Rattle.orc_column_reader.specs.Stripe.{Streams, in_present}
use Rattle.orc_row_index.specs.RunStreams.{RunStream, no_stream, bit_runs, byte_runs, number_runs, present_runs, value_runs, value_bytes}
use Rattle.orc_row_groups.specs.Counts.{octets}
use Rattle.orc_row_index.specs.declared.run_bytes.RunBytes.{RunBytes}
use Rattle.orc_row_index.specs.declared.run_bytes.RunBytes.TheVariants as run_bytes
use Rattle.orc_row_index.specs.declared.walk.Walk.{Walk}
use Rattle.orc_row_index.specs.declared.placed.PlacedStreams.{PlacedStreams}

-- bytes in runs as the stream that they mean
abbrev pub runs : RunBytes → RunStream
runs run_bytes.Nothing = no_stream
runs (run_bytes.Bits b) = bit_runs b.now
runs (run_bytes.Bytes b) = byte_runs b.now
runs (run_bytes.Numbers version sign b) = number_runs version sign b.now

-- borrowed bytes, if there are any
abbrev pub lent_bytes : Option (Bor (List ℕ)) → Option (List ℕ)
lent_bytes lent = option_map (λ b. b.now) lent

-- these are the column's streams that have positions
pub record ArePlaced (s : Shape) (x : Streams) (placed : PlacedStreams) : Type 0 where
  pub present_is : runs placed.present ≡ present_runs (in_present x)
  pub content_is : lent_bytes placed.content ≡ value_bytes s x
  pub own_is : runs placed.own ≡ value_runs s x

-- the stream has at least n values; one of booleans has at least n / 8 bytes in its runs
abbrev pub HasPosition : RunStream → ℕ → Type 0
HasPosition no_stream n = Unit {0}
HasPosition (bit_runs stream) n = HasValues IsByteRun stream (n / 8)
HasPosition (byte_runs stream) n = HasValues IsByteRun stream n
HasPosition (number_runs version sign stream) n = HasValues (is_run version sign) stream n

-- a start of a run in the stream that isn't after value n
abbrev pub BeginsBefore : RunStream → RunStart → ℕ → Type 0
BeginsBefore no_stream run_start n = Unit {0}
BeginsBefore (bit_runs stream) run_start n = IsRunStart IsByteRun stream run_start × (run_start.before ≤ n / 8)
BeginsBefore (byte_runs stream) run_start n = IsRunStart IsByteRun stream run_start × (run_start.before ≤ n)
BeginsBefore (number_runs version sign stream) run_start n =
    IsRunStart (is_run version sign) stream run_start × (run_start.before ≤ n)

-- there are at least n plain bytes, if there is such a stream
abbrev pub HasOctets : Option (List ℕ) → ℕ → Type 0
HasOctets None n = Unit {0}
HasOctets (Some stream) n = n ≤ length stream

-- the streams have the values of these cells
pub record HavePositions (present : RunStream) (content : Option (List ℕ)) (own : RunStream)
    (before : List Cell) : Type 0 where
  pub in_present : HasPosition present (length before)
  pub in_content : HasOctets content (octets before)
  pub in_own : HasPosition own (length (values before))

-- the walk has come no further than these cells
pub record WalkedBefore (present own : RunStream) (walk : Walk) (before : List Cell) : Type 0 where
  pub in_present : BeginsBefore present walk.present (length before)
  pub in_own : BeginsBefore own walk.own (length (values before))

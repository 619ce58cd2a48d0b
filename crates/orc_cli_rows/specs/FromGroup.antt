-- What `rows` prints of a file from a group of one of its stripes on (ORC specification, "Row Group Index").
use Rattle.std.specs.Prelude.{◌≡◌, ◌≢◌, ℕ, ◌+◌, ◌*◌, ◌<◌, ◌≤◌, List, [], ◌∷◌, ◌++◌, length, drop, false, ◌⊎◌, Option}
use Rattle.std.specs.Io.KnownBytes.{Appends, Keeps}
use Rattle.orc_wire.specs.declared.stripe_footer.StripeFooter.{StripeFooter}
use Rattle.orc_values.specs.Cells.{Cell}
use Rattle.orc_json_rows.specs.FieldNames.{is_distinct}
use Rattle.orc_values.specs.Fits.{RowsFit}
use Rattle.orc_json_rows.specs.declared.json_fault.JsonFault.TheVariants as json
use Rattle.orc_column_reader.specs.Stripe.{Streams, HasFooter}
use Rattle.orc_directory.specs.declared.fault.StripeFault.{StripeFault}
use Rattle.orc_directory.specs.declared.fault.StripeFault.TheVariants as stripe
use Rattle.orc_stripe_reader.specs.Opened.{Opened}
use Rattle.orc_stripe_reader.specs.Opening.{StripeOpenFault}
use Rattle.orc_stripe_reader.specs.GroupCursors.{HasGroup, HasEntries, StartsGroup, SpellsFrom, MeetsFrom, GroupFault}
use Rattle.orc_tail.specs.Stripes.{stripe_at, stripe_bytes}
use Rattle.orc_file_reader.specs.FileRows.{opened_stripe}
use Rattle.orc_tail.specs.declared.tail.Tail.{Tail}
use Rattle.orc_tail.specs.declared.fault.FileFault.TheVariants.{Stripe, BadStripe}
use Rattle.orc_cli_output.specs.Numbers.{IsDecimalNumber}
use Rattle.orc_cli_output.specs.Output.{write_failed, AppendsPart, IsOfSource}
use Rattle.orc_cli_output.specs.declared.fault.CliFault.{CliFault}
use Rattle.orc_cli_output.specs.declared.fault.CliFault.TheVariants.{Json, File}
use Rattle.orc_cli_rows.specs.Rows.{row_lines, HaveJson, AreLinesOfStripes, EndsIn}

-- ---- where to start

-- the number of a stripe and that of a group in it, with a colon between them
pub record IsStartText (text : List ℕ) (stripe group : ℕ) : Type 0 where
  pub before : List ℕ
  pub behind : List ℕ
  pub parts : text ≡ before ++ 58 ∷ behind
  pub stripe_is : IsDecimalNumber before stripe
  pub group_is : IsDecimalNumber behind group

-- ---- the first stripe

-- Rows that an opened stripe is read as from a group on, which each column's index has an entry of: they are rows of the
-- schema, and what stands behind the group's positions. Where the stripe starts there in some streams, as a reader
-- enters it, they are these streams' rows from the group's first one on.
pub record AreRowsFrom (view : Opened) (group : ℕ) (rows : List Cell) : Type 0 where
  pub has_group : HasGroup view group
  pub has_entries : HasEntries view group
  pub fit : RowsFit view.schema rows
  pub spelled : SpellsFrom view group rows
  pub rows_are : (x : ℕ → Streams) (all : List Cell) → StartsGroup view x all group
      → rows ≡ drop (group * view.stride) all

-- the same of the stripe with this number, which has these bytes
pub record AreFromGroup (tail : Tail) (n : ℕ) (bytes : List ℕ) (group : ℕ) (rows : List Cell) : Type 0 where
  pub footer : StripeFooter
  pub has_footer : HasFooter tail.schema (stripe_at tail.stripes n) bytes footer
  pub are : AreRowsFrom (opened_stripe tail n bytes footer) group rows

-- the lines of such rows, which have JSON
pub record AreLinesFrom (tail : Tail) (n : ℕ) (bytes : List ℕ) (group : ℕ) (lines : List ℕ) : Type 0 where
  pub rows : List Cell
  pub are : AreFromGroup tail n bytes group rows
  pub have_json : HaveJson tail.schema rows
  pub lines_are : lines ≡ row_lines tail.schema rows

-- the group is there, with an entry in each column's index, and what stands behind its positions has this fault
pub record IsRefusedBehind (view : Opened) (group : ℕ) (why : StripeFault) : Type 0 where
  pub has_group : HasGroup view group
  pub has_entries : HasEntries view group
  pub first : why ≢ stripe.Failed
  pub meets : MeetsFrom view group why

-- Why an opened stripe isn't read from a group on: it doesn't start there, and there is no cursor at the group, or there
-- is one, and what stands behind the group's positions has this fault.
pub record StopsFrom (view : Opened) (group : ℕ) (why : StripeFault) : Type 0 where
  pub none : (x : ℕ → Streams) (all : List Cell) → StartsGroup view x all group → ⊥
  pub reason : GroupFault view group why ⊎ IsRefusedBehind view group why

-- the same of the stripe with this number, which has these bytes, or it isn't opened
pub record StopsAtGroup (tail : Tail) (n : ℕ) (bytes : List ℕ) (group : ℕ) (why : StripeFault) : Type 0 where
  pub none : (footer : StripeFooter) (x : ℕ → Streams) (all : List Cell)
      → HasFooter tail.schema (stripe_at tail.stripes n) bytes footer
      → StartsGroup (opened_stripe tail n bytes footer) x all group → ⊥
  pub reason : StripeOpenFault tail.schema (stripe_at tail.stripes n) bytes why
      ⊎ ((footer : StripeFooter) × HasFooter tail.schema (stripe_at tail.stripes n) bytes footer
      × StopsFrom (opened_stripe tail n bytes footer) group why)

-- that, as a fault of the stripe with this number
abbrev pub GroupStops : Tail → ℕ → List ℕ → ℕ → CliFault → Type 0
GroupStops tail n bytes group fault =
    (why : StripeFault) × (fault ≡ File (Stripe n why)) × ((why ≡ stripe.OutOfMemory) → ⊥)
    × StopsAtGroup tail n bytes group why

-- why nothing is out: the stripe isn't read from the group on, or its rows there have no JSON
abbrev pub NoLinesFrom : Tail → ℕ → List ℕ → ℕ → CliFault → Type 0
NoLinesFrom tail n bytes group fault =
    GroupStops tail n bytes group fault
    ⊎ ((fault ≡ Json json.DuplicateField) × (is_distinct tail.schema ≡ false)
    × (rows : List Cell) × AreFromGroup tail n bytes group rows × ((rows ≡ []) → ⊥))

-- ---- the file

-- the lines from a group of a stripe on: those of the stripe's rows there, and of all stripes behind it
pub record AreLinesFromGroup (bytes : List ℕ) (tail : Tail) (n group : ℕ) (lines : List ℕ) : Type 0 where
  pub there : n < length tail.stripes
  pub first : List ℕ
  pub rest : List ℕ
  pub of_group : AreLinesFrom tail n (stripe_bytes (stripe_at tail.stripes n) bytes) group first
  pub of_later : AreLinesOfStripes tail.schema bytes (drop (n + 1) tail.stripes) rest
  pub lines_are : lines ≡ first ++ rest

-- a part of a stripe's lines from a group on is out
pub record ArePartlyOut (tail : Tail) (n : ℕ) (bytes : List ℕ) (group : ℕ) (old new : Option (List ℕ)) : Type 0 where
  pub lines : List ℕ
  pub are : AreLinesFrom tail n bytes group lines
  pub part : AppendsPart old new lines

-- why the stripe's lines from the group on aren't out: none of them, or a part where the output failed
abbrev pub EndsAtGroup : List ℕ → Tail → ℕ → ℕ → Option (List ℕ) → Option (List ℕ) → CliFault → Type 0
EndsAtGroup bytes tail n group old new fault =
    ((NoLinesFrom tail n (stripe_bytes (stripe_at tail.stripes n) bytes) group fault ⊎ IsOfSource fault)
    × Keeps old new)
    ⊎ ((fault ≡ write_failed) × ArePartlyOut tail n (stripe_bytes (stripe_at tail.stripes n) bytes) group old new)

-- the stripe's lines from the group on are out, and behind them printing ends as it does from the next stripe on
pub record EndsBehind (bytes : List ℕ) (tail : Tail) (n group : ℕ)
    (old new : Option (List ℕ)) (fault : CliFault) : Type 0 where
  pub own : List ℕ
  pub of_group : AreLinesFrom tail n (stripe_bytes (stripe_at tail.stripes n) bytes) group own
  pub middle : Option (List ℕ)
  pub out : Appends old middle own
  pub ends : EndsIn bytes tail (n + 1) middle new fault

-- why lines from a group on aren't all out: there is no such stripe; or printing ends in it, or in a later one
abbrev pub EndsFrom : List ℕ → Tail → ℕ → ℕ → Option (List ℕ) → Option (List ℕ) → CliFault → Type 0
EndsFrom bytes tail n group old new fault =
    ((length tail.stripes ≤ n) × (fault ≡ File (BadStripe n)) × Keeps old new)
    ⊎ ((n < length tail.stripes)
    × (EndsAtGroup bytes tail n group old new fault ⊎ EndsBehind bytes tail n group old new fault))

-- Statistics that a file stores, and the rows that they are about (ORC specification, "Column Statistics", "Row Group
-- Index").
use Rattle.std.specs.Prelude.{◌≡◌, ◌⊎◌, ◌*◌, ◌<◌, ℕ, Option, Some, IfSome, List, length, take, drop, slice_get}
use Rattle.std.specs.Option.{option_map}
use Rattle.orc_wire.specs.declared.row_index.RowIndexEntry.{RowIndexEntry}
use Rattle.orc_wire.specs.declared.stripe_footer.StripeFooter.{StripeFooter}
use Rattle.orc_values.specs.Cells.{Cell}
use Rattle.orc_values.specs.Shapes.{Shape, width, shape_at}
use Rattle.orc_stats.specs.Kinds.{kind_of}
use Rattle.orc_stats.specs.Messages.{stat_read}
use Rattle.orc_stats.specs.declared.stat.Stat.{Stat}
use Rattle.orc_column_reader.specs.Stripe.{HasFooter}
use Rattle.orc_stripe_reader.specs.Opened.{Opened}
use Rattle.orc_stripe_reader.specs.GroupCursors.{HasGroup, IsGroupEntry}
use Rattle.orc_tail.specs.Stripes.{stripe_at, stripe_bytes}
use Rattle.orc_tail.specs.declared.tail.Tail.{Tail}
use Rattle.orc_file_reader.specs.FileRows.{opened_stripe, cut_rows}
use Rattle.orc_check.specs.Findings.{stripe_told, rows_at}

-- the rows of a group, among those of its stripe
abbrev pub rows_of_group : ℕ → ℕ → List Cell → List Cell
rows_of_group stride group rows = take stride (drop (group * stride) rows)

-- the statistic that an entry of a row index stores, if it stores one; the column has this type
abbrev pub stat_in_entry : Shape → RowIndexEntry → Option Stat
stat_in_entry s entry = option_map (stat_read (kind_of s)) entry.statistics

-- the group's entry in column c's row index stores this statistic
abbrev pub IsStatOfGroup : Opened → ℕ → ℕ → Stat → Type 0
IsStatOfGroup view group c x =
    (c < width view.schema)
    × ((entry : RowIndexEntry) × IsGroupEntry view c group entry
    × (stat_in_entry (shape_at view.schema c) entry ≡ Some x))

-- The rows are those of a stripe, and the tail stores these statistics of the stripe's columns. A column may be left
-- out, here and below.
pub record AreStatsOfStripe (tail : Tail) (rows : List Cell) (told : ℕ → Option Stat) (part : List Cell) : Type 0 where
  pub stripe : ℕ
  pub there : stripe < length tail.stripes
  pub rows_are : part ≡ rows_at (cut_rows tail.stripes rows) stripe
  pub stored : (c : ℕ) → IfSome (told c) (λ x. slice_get (stripe_told tail stripe) c ≡ Some x)

-- the rows are those of a group of a stripe, and the group's entries in the columns' row indexes store these statistics
pub record AreStatsOfGroup (bytes : List ℕ) (tail : Tail) (rows : List Cell) (told : ℕ → Option Stat)
    (part : List Cell) : Type 0 where
  pub stripe : ℕ
  pub group : ℕ
  pub footer : StripeFooter
  pub there : stripe < length tail.stripes
  pub has_footer : HasFooter tail.schema (stripe_at tail.stripes stripe)
      (stripe_bytes (stripe_at tail.stripes stripe) bytes) footer
  pub has_group : HasGroup
      (opened_stripe tail stripe (stripe_bytes (stripe_at tail.stripes stripe) bytes) footer) group
  pub rows_are : part ≡ rows_of_group tail.stride group (rows_at (cut_rows tail.stripes rows) stripe)
  pub stored : (c : ℕ) → IfSome (told c)
      (IsStatOfGroup (opened_stripe tail stripe (stripe_bytes (stripe_at tail.stripes stripe) bytes) footer) group c)

-- the rows are all rows of the file, and the tail stores these statistics of the file's columns
pub record AreStatsOfFile (tail : Tail) (rows : List Cell) (told : ℕ → Option Stat) (part : List Cell) : Type 0 where
  pub rows_are : part ≡ rows
  pub stored : (c : ℕ) → IfSome (told c) (λ x. slice_get tail.file_stats c ≡ Some x)

-- A file with these rows stores these statistics of columns about a part of the rows: a stripe, a group of rows, or
-- all rows.
abbrev pub AreStoredStats : List ℕ → Tail → List Cell → (ℕ → Option Stat) → List Cell → Type 0
AreStoredStats bytes tail rows told part =
    AreStatsOfStripe tail rows told part
    ⊎ (AreStatsOfGroup bytes tail rows told part ⊎ AreStatsOfFile tail rows told part)

-- The steps of checking a file (this project's).
use Rattle.std.specs.Prelude.{◌≡◌, ◌≢◌, ◌<◌, ◌≤◌, ◌⊎◌, ℕ, Some, List, [], ◌∷◌, length, slice_get}
use Rattle.std.specs.List.{AllByRecursion}
use Rattle.orc_values.specs.Shapes.{Shape, width}
use Rattle.orc_values.specs.Columns.{cells}
use Rattle.orc_values.specs.Fits.{RowsFit}
use Rattle.orc_file_reader.specs.FileRows.{IsNoStripe, FirstRefused}
use Rattle.orc_file_reader.specs.Honest.{AreWhole}
use Rattle.orc_tail.specs.Stripes.{most_stripes, stripe_at}
use Rattle.orc_tail.specs.Tails.{IsTail, TailOpenFault, IsOfTail}
use Rattle.orc_tail.specs.declared.fault.FileFault.{FileFault}
use Rattle.orc_tail.specs.declared.fault.FileFault.TheVariants.{Stripe}
use Rattle.orc_wire.specs.declared.stripe_info.StripeInfo.{StripeInfo}
use Rattle.orc_values.specs.Cells.{Cell}
use Rattle.orc_stats.specs.declared.stat.Stat.{Stat}
use Rattle.orc_stats.specs.Known.{known_as, told_body}
use Rattle.orc_column_reader.specs.Stripe.{IsStripe}
use Rattle.orc_values.specs.Limits.{cell_limit}
use Rattle.orc_directory.specs.declared.fault.StripeFault.{StripeFault}
use Rattle.orc_directory.specs.declared.fault.StripeFault.TheVariants as stripe
use Rattle.orc_stats.specs.ColumnStatistics.{column_stat}
use Rattle.orc_tail.specs.declared.tail.Tail.{Tail}
use Rattle.orc_check.specs.declared.finding.Finding.{Finding}
use Rattle.orc_check.specs.Findings.{OfStripe, AddsFindings, stripe_told}

-- the statistics of the first n columns of some rows, without the element counts that the stored ones don't have
pub record HaveKnown (s : Shape) (told : List Stat) (rows : List Cell) (n : ℕ) (stats : List Stat) : Type 0 where
  pub counted : length stats ≡ n
  pub each : (c : ℕ) → c < n → slice_get stats c ≡ Some (known_as (told_body (slice_get told c)) (column_stat s rows c))

-- the statistics of each stripe's rows, without the element counts that the stored ones don't have; a stripe without
-- stored statistics gets no element counts
abbrev pub AreKnown : Shape → List (List Stat) → List (List Cell) → List (List Stat) → Type 0
AreKnown s told [] [] = Unit {0}
AreKnown s told [] (stats ∷ own) = ⊥
AreKnown s told (rows ∷ parts) [] = ⊥
AreKnown s [] (rows ∷ parts) (stats ∷ own) = HaveKnown s [] rows (width s) stats × AreKnown s [] parts own
AreKnown s (told ∷ more) (rows ∷ parts) (stats ∷ own) =
    HaveKnown s told rows (width s) stats × AreKnown s more parts own

-- These bytes are stripe n with some rows. The stripe's findings are added after those found before, and `stats` are
-- the statistics of its columns, without the element counts that the stored ones don't have.
pub record IsChecked (tail : Tail) (n : ℕ) (bytes : List ℕ) (before after : List Finding)
    (stats : List Stat) : Type 0 where
  pub rows : List Cell
  pub stripe : IsStripe tail.schema (stripe_at tail.stripes n) bytes rows
  pub found : AddsFindings (OfStripe tail n bytes rows) before after
  pub counted : HaveKnown tail.schema (stripe_told tail n) rows (width tail.schema) stats

-- Why bytes have no list of findings, not even an empty one: they have no tail, or a stripe has no rows.
abbrev pub CheckFault : List ℕ → FileFault → Type 0
CheckFault bytes fault =
    TailOpenFault bytes fault ⊎ ((tail : Tail) × IsTail bytes tail × FirstRefused tail.schema bytes 0 tail.stripes fault)

-- There are bytes that are no stripe of any rows for this reason.
abbrev pub IsReason : StripeFault → Type 0
IsReason why = (s : Shape) × (info : StripeInfo) × (bytes : List ℕ) × IsNoStripe s info bytes why

-- the fault is that stripe n has no rows, for a reason for which some bytes are no stripe
abbrev pub IsOfStripe : ℕ → FileFault → Type 0
IsOfStripe n fault = (why : StripeFault) × (fault ≡ Stripe n why) × (why ≢ stripe.OutOfMemory) × IsReason why

-- the fault is that one of `many` stripes has no rows
abbrev pub IsOfStripes : ℕ → FileFault → Type 0
IsOfStripes many fault = (n : ℕ) × (n < many) × IsOfStripe n fault

-- A fault with which a check may end if the source hasn't failed, whether or not its bytes are known: that of a test of
-- a tail, want of memory, or that of a stripe.
abbrev pub IsOfCheck : FileFault → Type 0
IsOfCheck fault = IsOfTail fault ⊎ IsOfStripes most_stripes fault

-- the rows fit the schema, and no column has more cells than a stripe may have
pub record AreOfSchema (s : Shape) (rows : List Cell) : Type 0 where
  pub fit : RowsFit s rows
  pub few : (column : ℕ) → column < width s → length (cells s column rows) < cell_limit

-- `own` are the statistics of the rows of some stripes, without the element counts that `told` doesn't have, and there
-- are no more stripes than a file may have.
pub record AreOwnStats (s : Shape) (told : List (List Stat)) (parts : List (List Cell))
    (own : List (List Stat)) : Type 0 where
  pub fit : AllByRecursion (AreOfSchema s) parts
  pub few : length parts ≤ most_stripes
  pub known : AreKnown s told parts own

-- `own` are the statistics of the rows of some stripes, for some stored statistics
abbrev pub HaveOwn : Shape → List (List Stat) → Type 0
HaveOwn s own = (told : List (List Stat)) × (parts : List (List Cell)) × AreOwnStats s told parts own

-- `whole` are the statistics of the rows of all stripes, whose own statistics are `own`
abbrev pub IsWholeOf : Shape → List (List Stat) → List Stat → Type 0
IsWholeOf s own whole =
    (length whole ≡ width s)
    × ((told : List (List Stat)) (parts : List (List Cell)) → AreOwnStats s told parts own → AreWhole s told parts whole)

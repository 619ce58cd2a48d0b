-- The groups of a file's rows that the bold rule keeps by the statistics of one column (this project's). In a file
-- without row groups each stripe counts as one group with the number 0.
use Rattle.std.specs.Prelude.{◌≡◌, ◌⊎◌, ◌<◌, ℕ, zero, suc, if◌then◌else◌, Some, List, [], ◌∷◌, ◌++◌, length, slice_get}
use Rattle.orc_wire.specs.declared.row_index.RowIndexMsg.{RowIndexMsg}
use Rattle.orc_wire.specs.declared.stripe_footer.StripeFooter.{StripeFooter}
use Rattle.orc_values.specs.Cells.{Cell}
use Rattle.orc_values.specs.Shapes.{width, shape_at}
use Rattle.orc_stats.specs.Kinds.{kind_of}
use Rattle.orc_stats.specs.declared.stat.Stat.{Stat}
use Rattle.orc_skipping.specs.Predicates.{Predicate}
use Rattle.orc_skipping.specs.Rules.{bold}
use Rattle.orc_skipping.specs.Groups.{groups_kept}
use Rattle.orc_skipping.specs.declared.keeping_groups.GroupPlace.{GroupPlace}
use Rattle.orc_column_reader.specs.Stripe.{HasFooter}
use Rattle.orc_stripe_reader.specs.RowIndexes.{HasIndex}
use Rattle.orc_tail.specs.Stripes.{stripe_at, stripe_bytes}
use Rattle.orc_tail.specs.declared.tail.Tail.{Tail}
use Rattle.orc_file_reader.specs.FileRows.{cut_rows}
use Rattle.orc_check.specs.Findings.{stripe_told, rows_at}
use Rattle.orc_theorems.specs.Places.{IsPlace}
use Rattle.orc_theorems.specs.StoredStats.{rows_of_group}

-- the file has row groups, and these are the rows of the one with these numbers
pub record AreRowsOfGroup (tail : Tail) (rows : List Cell) (place : GroupPlace) (part : List Cell) : Type 0 where
  pub is_place : IsPlace tail place.stripe place.group
  pub rows_are : part ≡ rows_of_group tail.stride place.group (rows_at (cut_rows tail.stripes rows) place.stripe)

-- the file has no row groups, and these are the rows of the stripe with this number
pub record AreRowsOfStripe (tail : Tail) (rows : List Cell) (place : GroupPlace) (part : List Cell) : Type 0 where
  pub unindexed : tail.stride ≡ 0
  pub there : place.stripe < length tail.stripes
  pub first : place.group ≡ 0
  pub rows_are : part ≡ rows_at (cut_rows tail.stripes rows) place.stripe

-- the file has a group at this place, with these rows
abbrev pub AreRowsAt : Tail → List Cell → GroupPlace → List Cell → Type 0
AreRowsAt tail rows place part = AreRowsOfGroup tail rows place part ⊎ AreRowsOfStripe tail rows place part

-- the file has row groups, and these are the groups of stripe n that the rule keeps, by the entries of column c's row
-- index
pub record AreKeptByIndex (bytes : List ℕ) (tail : Tail) (c : ℕ) (p : Predicate) (n : ℕ)
    (places : List GroupPlace) : Type 0 where
  pub indexed : 0 < tail.stride
  pub footer : StripeFooter
  pub has_footer : HasFooter tail.schema (stripe_at tail.stripes n) (stripe_bytes (stripe_at tail.stripes n) bytes)
      footer
  pub message : RowIndexMsg
  pub has_index : HasIndex footer (stripe_bytes (stripe_at tail.stripes n) bytes) c message
  pub places_are : places ≡ groups_kept (kind_of (shape_at tail.schema c)) p n 0 message.entries

-- stripe n as one group, number 0, if the rule keeps it by this statistic
abbrev pub stripe_kept : Stat → Predicate → ℕ → List GroupPlace
stripe_kept x p n = if bold (λ _. Some x) p then record { stripe = n; group = 0 } ∷ [] else []

-- the file has no row groups, and this is stripe n if the rule keeps it by column c's statistic in the tail
pub record IsKeptByStatistic (tail : Tail) (c : ℕ) (p : Predicate) (n : ℕ) (places : List GroupPlace) : Type 0 where
  pub unindexed : tail.stride ≡ 0
  pub told : Stat
  pub stored : slice_get (stripe_told tail n) c ≡ Some told
  pub places_are : places ≡ stripe_kept told p n

-- the groups of stripe n that the rule keeps, by the statistics of column c
abbrev pub AreKeptOfStripe : List ℕ → Tail → ℕ → Predicate → ℕ → List GroupPlace → Type 0
AreKeptOfStripe bytes tail c p n places =
    (c < width tail.schema) × (AreKeptByIndex bytes tail c p n places ⊎ IsKeptByStatistic tail c p n places)

-- `after` are the places `before`, followed by the groups of stripe n that the rule keeps
abbrev pub AddsKept : List ℕ → Tail → ℕ → Predicate → ℕ → List GroupPlace → List GroupPlace → Type 0
AddsKept bytes tail c p n before after =
    (own : List GroupPlace) × AreKeptOfStripe bytes tail c p n own × (after ≡ before ++ own)

-- the groups of the first n stripes that the rule keeps, stripe by stripe
abbrev pub AreGroupsKept : List ℕ → Tail → ℕ → Predicate → ℕ → List GroupPlace → Type 0
AreGroupsKept bytes tail c p zero places = places ≡ []
AreGroupsKept bytes tail c p (suc n) places =
    (before : List GroupPlace) × AreGroupsKept bytes tail c p n before × AddsKept bytes tail c p n before places

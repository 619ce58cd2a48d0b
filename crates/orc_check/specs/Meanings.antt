-- What each finding means, whatever the order of findings (this project's; ORC specification, "Column Statistics" and
-- "Row Group Index").
use Rattle.std.specs.Prelude.{ℕ, ◌<◌, List, length}
use Rattle.orc_wire.specs.declared.stripe_footer.StripeFooter.{StripeFooter}
use Rattle.orc_values.specs.Cells.{Cell}
use Rattle.orc_values.specs.Shapes.{width}
use Rattle.orc_column_reader.specs.Stripe.{HasFooter}
use Rattle.orc_tail.specs.Stripes.{stripe_at, stripe_bytes}
use Rattle.orc_file_reader.specs.FileRows.{opened_stripe}
use Rattle.orc_tail.specs.declared.tail.Tail.{Tail}
use Rattle.orc_check.specs.declared.finding.Finding.{Finding}
use Rattle.orc_check.specs.declared.finding.Finding.TheVariants.{StripeStatistic, IndexEntries, IndexStatistic, IndexPosition, FileStatistic}
use Rattle.orc_check.specs.Findings.{IndexedColumn, IsIndexedColumn, HasRightStatistic, HasRightPositions, TellsStripe, TellsFile, stripe_told, rows_at}

-- the bytes of stripe n
abbrev pub numbered_stripe_bytes : List ℕ → Tail → ℕ → List ℕ
numbered_stripe_bytes bytes tail n = stripe_bytes (stripe_at tail.stripes n) bytes

-- the file has a stripe and a column with these numbers
pub record HasColumn (tail : Tail) (n c : ℕ) : Type 0 where
  pub stripe : n < length tail.stripes
  pub column : c < width tail.schema

-- x is column c of stripe n with its row index, which has an entry for each group of the rows; the file's stride is
-- above 0.
pub record IsColumnOf (bytes : List ℕ) (tail : Tail) (parts : List (List Cell)) (n c : ℕ)
    (x : IndexedColumn) : Type 0 where
  pub there : HasColumn tail n c
  pub stride : 0 < tail.stride
  pub footer : StripeFooter
  pub has_footer : HasFooter tail.schema (stripe_at tail.stripes n) (numbered_stripe_bytes bytes tail n) footer
  pub column : IsIndexedColumn (opened_stripe tail n (numbered_stripe_bytes bytes tail n) footer) (rows_at parts n) c x

-- A finding is true of a file with this tail, whose stripes have these rows: a stripe's statistic doesn't agree with
-- the rows; or a column has no row index with an entry for each group; or an entry's statistic doesn't agree with its
-- group; or a reader doesn't go on from its positions after the cells before the group; or a statistic of the whole
-- file doesn't agree with the rows.
abbrev pub IsSo : List ℕ → Tail → List (List Cell) → Finding → Type 0
IsSo bytes tail parts (StripeStatistic n c) =
    HasColumn tail n c × (TellsStripe tail.schema (stripe_told tail n) (rows_at parts n) c → ⊥)
IsSo bytes tail parts (IndexEntries n c) =
    HasColumn tail n c × (0 < tail.stride) × ((x : IndexedColumn) → IsColumnOf bytes tail parts n c x → ⊥)
IsSo bytes tail parts (IndexStatistic n c g) =
    (x : IndexedColumn) × IsColumnOf bytes tail parts n c x × (g < length x.entries) × (HasRightStatistic x g → ⊥)
IsSo bytes tail parts (IndexPosition n c g) =
    (x : IndexedColumn) × IsColumnOf bytes tail parts n c x × (g < length x.entries) × (HasRightPositions x g → ⊥)
IsSo bytes tail parts (FileStatistic c) =
    (c < width tail.schema) × (TellsFile tail parts c → ⊥)

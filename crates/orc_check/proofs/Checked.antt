-- What stands once some stripes are checked.
use Rattle.std.proofs.Common.{◌≡◌, ◌<◌, ℕ, List, [], length, get_or}
use Rattle.std.specs.List.{AllByRecursion}
use Rattle.orc_values.specs.Cells.{Cell}
use Rattle.orc_stats.specs.declared.stat.Stat.{Stat}
use Rattle.orc_column_reader.specs.Stripe.{IsStripe}
use Rattle.orc_tail.specs.Stripes.{stripe_at}
use Rattle.orc_tail.specs.declared.tail.Tail.{Tail}
use Rattle.orc_check.specs.declared.finding.Finding.{Finding}
use Rattle.orc_check.specs.Findings.{OfStripe, OfEach, rows_at}
use Rattle.orc_check.specs.Checking.{AreOfSchema, AreKnown}

abbrev pub text_at : List (List ℕ) → ℕ → List ℕ
text_at texts n = get_or texts n []

-- The first n stripes have these bytes and these rows, this is found of them, and these are the statistics of their columns, as far as they are told.
pub record AreChecked (tail : Tail) (n : ℕ) (texts : List (List ℕ)) (parts : List (List Cell)) (found : List Finding) (own : List (List Stat)) : Type 0 where
  pub texts_many : length texts ≡ n
  pub many : length parts ≡ n
  pub fit : AllByRecursion (AreOfSchema tail.schema) parts
  pub known : AreKnown tail.schema tail.stripe_stats parts own
  pub stripes : (k : ℕ) → k < n → IsStripe tail.schema (stripe_at tail.stripes k) (text_at texts k) (rows_at parts k)
  pub found_are : OfEach (λ k. OfStripe tail k (text_at texts k) (rows_at parts k)) n found

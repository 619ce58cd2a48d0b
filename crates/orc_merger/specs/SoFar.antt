-- What inputs have together once they are gathered (own).
use Rattle.std.specs.Prelude.{◌≡◌, ℕ, ◌+◌, List, length, sum_by}
use Rattle.std.specs.List.{AllByRecursion}
use Rattle.orc_tail.specs.Stripes.{stripes_length}
use Rattle.orc_tail.specs.Images.{IsWithinLimits}
use Rattle.orc_tail.specs.declared.tail.Tail.{Tail}
use Rattle.orc_merger.specs.declared.gathered.Gathered.{Gathered}
use Rattle.orc_merger.specs.declared.gathered.Lists.{Lists}
use Rattle.orc_merger.specs.Merging.{distinct, placed, all_stripes, all_stats, all_pairs, CanMerge}
use Rattle.orc_merger.specs.Gathering.{without_joined, pieces_of, IsOfKind}
use Rattle.orc_merger.specs.JoinedLists.{AreListsOf}
use Rattle.orc_merger.specs.Counts.{AreCounts}
use Rattle.orc_merger.specs.PairPlaces.{ArePairPlaces}

-- what the inputs with these tails have together
pub record HasGathered (first : Tail) (tails : List Tail) (g : Gathered) : Type 0 where
  pub first_is : g.first ≡ without_joined first
  pub stripes : g.stripes.items ≡ placed 3 (all_stripes tails)
  pub end : g.end ≡ 3 + stripes_length (all_stripes tails)
  pub stripe_stats : g.stripe_stats.items ≡ all_stats tails
  pub user : g.user.pairs.items ≡ distinct (all_pairs tails)
  pub user_places : ArePairPlaces g.user.pairs.items g.user.places
  pub rows : g.rows ≡ sum_by (λ (t : Tail). t.rows) tails
  pub pieces : g.pieces.items ≡ pieces_of 0 tails
  pub counts : AreCounts g.counts.items (all_stats tails)

-- The inputs with these tails are gathered. The next input has this number, this tail, which is like the first one,
-- and these lists.
pub record IsNext (first : Tail) (tails : List Tail) (tail : Tail) (number : ℕ) (lists : Lists)
    (g : Gathered) : Type 0 where
  pub number_is : number ≡ length tails
  pub gathered : HasGathered first tails g
  pub merges : CanMerge first tails
  pub first_within : IsWithinLimits first
  pub tails_within : AllByRecursion IsWithinLimits tails
  pub tail_within : IsWithinLimits tail
  pub kind : IsOfKind first tail
  pub lists_are : AreListsOf tail lists

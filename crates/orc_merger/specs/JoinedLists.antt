-- The parts of a tail that are joined (own).
use Rattle.std.specs.Prelude.{◌≡◌}
use Rattle.orc_tail.specs.declared.tail.Tail.{Tail}
use Rattle.orc_merger.specs.declared.gathered.Lists.{Lists}

-- the stripes, stripe statistics, user metadata and number of rows of a tail
pub record AreListsOf (tail : Tail) (lists : Lists) : Type 0 where
  pub stripes : lists.stripes.items ≡ tail.stripes
  pub stripe_stats : lists.stripe_stats.items ≡ tail.stripe_stats
  pub user : lists.user.items ≡ tail.user
  pub rows : lists.rows ≡ tail.rows

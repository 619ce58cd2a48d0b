use Rattle.orc_stats.proofs.Shuffled.{joined-shuffled}
use Rattle.orc_merge_laws.proofs.Ordered.{any_order, order_same}
use Rattle.orc_merge_laws.proofs.Honest.{honest_merge, sum_stands, sum_known, known_else}
use Rattle.orc_merge_laws.proofs.laws.orders.Goals as goal

pub returns-clause-joined : goal.returns-clause-joined
returns-clause-joined c = joined-shuffled

pub returns-clause-exists : goal.returns-clause-exists
returns-clause-exists c = any_order

pub returns-clause-merged : goal.returns-clause-merged
returns-clause-merged c = order_same

pub returns-clause-honest : goal.returns-clause-honest
returns-clause-honest c = λ inputs tail out parts m h. (honest_merge inputs tail out parts m h).0

pub returns-clause-whole : goal.returns-clause-whole
returns-clause-whole c = λ inputs tail out parts m h. (honest_merge inputs tail out parts m h).1

pub returns-clause-sum : goal.returns-clause-sum
returns-clause-sum c = sum_stands

pub returns-clause-known : goal.returns-clause-known
returns-clause-known c = sum_known

pub returns-clause-known_else : goal.returns-clause-known_else
returns-clause-known_else c = known_else

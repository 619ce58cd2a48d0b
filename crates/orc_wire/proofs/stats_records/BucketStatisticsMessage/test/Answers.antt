use Rattle.std.proofs.Common.{arith, ◌^◌}
use Rattle.std.proofs.lemmas.Result.{IfErr-weaker}
use Rattle.orc_wire.proofs.PutLemmas.{on_ok_any, on_ok_then}
use Rattle.orc_wire.proofs.stats_records.BucketStatisticsMessage.test.Goals as goal

pub returns-clause-ok : goal.returns-clause-ok
returns-clause-ok c = λ old is.
    on_ok_then c.test_packed.result (c.test_packed.ensures.ok (2 ^ 64) (omega arith)) (λ last. last)

pub returns-clause-keeps : goal.returns-clause-keeps
returns-clause-keeps c = λ old new is step.
    on_ok_any c.test_packed.result (Unit {0}) tt

pub returns-clause-fault : goal.returns-clause-fault
returns-clause-fault c = λ old is.
    IfErr-weaker c.test_packed.result _ _ (λ fault h. h) (c.test_packed.ensures.fault (2 ^ 64) (omega arith))

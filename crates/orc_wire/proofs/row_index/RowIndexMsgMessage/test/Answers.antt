use Rattle.std.proofs.lemmas.Result.{IfErr-weaker}
use Rattle.orc_wire.proofs.PutLemmas.{on_ok_any, on_ok_then}
use Rattle.orc_wire.proofs.row_index.RowIndexMsgMessage.test.Goals as goal

pub returns-clause-ok : goal.returns-clause-ok
returns-clause-ok c = λ old is.
    on_ok_then c.test_each.result (c.test_each.ensures.ok) (λ last. last)

pub returns-clause-keeps : goal.returns-clause-keeps
returns-clause-keeps c = λ old new is step.
    on_ok_any c.test_each.result (Unit {0}) tt

pub returns-clause-fault : goal.returns-clause-fault
returns-clause-fault c = λ old is.
    IfErr-weaker c.test_each.result _ _ (λ fault h. h) (c.test_each.ensures.fault)

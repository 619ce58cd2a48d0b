use Rattle.std.proofs.Common.{arith, inl, inr, ◌^◌}
use Rattle.std.proofs.lemmas.Result.{IfErr-weaker}
use Rattle.orc_wire.proofs.PutLemmas.{on_ok_then}
use Rattle.orc_wire.proofs.row_index.RowIndexEntryMessage.test.Goals as goal

pub returns-clause-ok : goal.returns-clause-ok
returns-clause-ok c = λ old is.
    on_ok_then c.test_only.result (c.test_only.ensures.ok old.statistics is) (λ last fault h. elim h [
      | inl x ↦ c.in_ok-test_packed.ensures.ok (2 ^ 64) (omega arith) fault x
      | inr x ↦ last fault x
    ])

pub returns-clause-keeps : goal.returns-clause-keeps
returns-clause-keeps c = λ old new is step.
    c.test_only.ensures.keeps old.statistics new.statistics is step.1

pub returns-clause-fault : goal.returns-clause-fault
returns-clause-fault c = λ old is.
    IfErr-weaker c.test_only.result _ _ (λ fault h. inr h) (c.test_only.ensures.fault old.statistics is)

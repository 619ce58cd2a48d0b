use Rattle.std.proofs.Common.{arith, inl, inr, ◌^◌}
use Rattle.std.proofs.lemmas.Result.{IfErr-weaker}
use Rattle.orc_wire.proofs.PutLemmas.{on_ok_any, on_ok_then}
use Rattle.orc_wire.proofs.post_script.PostScriptMessage.test.Goals as goal

pub returns-clause-ok : goal.returns-clause-ok
returns-clause-ok c = λ old is.
    on_ok_then c.test_small-2.result (c.test_small-2.ensures.ok) (λ last fault h. elim h [
      | inl x ↦ x
      | inr (inl x) ↦ c.in_ok-test_small.ensures.ok fault x
      | inr (inr (inl x)) ↦ c.in_ok-test_packed.ensures.ok (2 ^ 32) (omega arith) fault x
      | inr (inr (inr (inl x))) ↦ x
      | inr (inr (inr (inr (inl x)))) ↦ last fault x
      | inr (inr (inr (inr (inr x)))) ↦ x
    ])

pub returns-clause-keeps : goal.returns-clause-keeps
returns-clause-keeps c = λ old new is step.
    on_ok_any c.test_small-2.result (Unit {0}) tt

pub returns-clause-fault : goal.returns-clause-fault
returns-clause-fault c = λ old is.
    IfErr-weaker c.test_small-2.result _ _ (λ fault h. inr (inr (inr (inr (inl h))))) (c.test_small-2.ensures.fault)

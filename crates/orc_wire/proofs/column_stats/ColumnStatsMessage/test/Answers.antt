use Rattle.std.proofs.Common.{inl, inr}
use Rattle.std.proofs.lemmas.Result.{IfErr-weaker}
use Rattle.orc_wire.proofs.PutLemmas.{on_ok_then}
use Rattle.orc_wire.proofs.column_stats.ColumnStatsMessage.test.Goals as goal

pub returns-clause-ok : goal.returns-clause-ok
returns-clause-ok c = λ old is.
    on_ok_then c.test_only-6.result (c.test_only-6.ensures.ok old.collection_statistics is.collections) (λ last fault h. elim h [
      | inl x ↦ x
      | inr (inl x) ↦ c.in_ok-test_only.ensures.ok old.int_statistics is.integers fault x
      | inr (inr (inl x)) ↦ c.in_ok-test_only-2.ensures.ok old.string_statistics is.strings fault x
      | inr (inr (inr (inl x))) ↦ c.in_ok-test_only-3.ensures.ok old.bucket_statistics is.buckets fault x
      | inr (inr (inr (inr (inl x)))) ↦ c.in_ok-test_only-4.ensures.ok old.date_statistics is.dates fault x
      | inr (inr (inr (inr (inr (inl x))))) ↦ c.in_ok-test_only-5.ensures.ok old.binary_statistics is.binary fault x
      | inr (inr (inr (inr (inr (inr (inl x)))))) ↦ x
      | inr (inr (inr (inr (inr (inr (inr x)))))) ↦ last fault x
    ])

pub returns-clause-keeps : goal.returns-clause-keeps
returns-clause-keeps c = λ old new is step.
    on_ok_then c.test_only-6.result (c.test_only-6.ensures.keeps old.collection_statistics new.collection_statistics is.collections step.1.1.1.1.1.1.1) (λ last. record {
      integers = c.in_ok-test_only.ensures.keeps old.int_statistics new.int_statistics is.integers step.1.0;
      strings = c.in_ok-test_only-2.ensures.keeps old.string_statistics new.string_statistics is.strings step.1.1.0;
      buckets = c.in_ok-test_only-3.ensures.keeps old.bucket_statistics new.bucket_statistics is.buckets step.1.1.1.0;
      dates = c.in_ok-test_only-4.ensures.keeps old.date_statistics new.date_statistics is.dates step.1.1.1.1.0;
      binary = c.in_ok-test_only-5.ensures.keeps old.binary_statistics new.binary_statistics is.binary step.1.1.1.1.1.0;
      collections = last;
    })

pub returns-clause-fault : goal.returns-clause-fault
returns-clause-fault c = λ old is.
    IfErr-weaker c.test_only-6.result _ _ (λ fault h. inr (inr (inr (inr (inr (inr (inr h))))))) (c.test_only-6.ensures.fault old.collection_statistics is.collections)

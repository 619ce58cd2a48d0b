use Rattle.std.proofs.Common.{ap, arith}
use Rattle.std.proofs.lemmas.Result.{IfErr-weaker}
use Rattle.orc_wire.specs.FieldValue.{payload_of}
use Rattle.orc_wire.specs.FieldItem.{item_of}
use Rattle.orc_wire.proofs.PutLemmas.{on_ok_then}
use Rattle.orc_wire.proofs.ListLemmas.{packed_allowed, packed_fails}
use Rattle.orc_wire.proofs.lists.test_packed.Goals as goal

pub returns-in-Bytes-clause-ok : goal.returns-in-Bytes-clause-ok
returns-in-Bytes-clause-ok c = λ limit e.
    on_ok_then c.test_varints.result c.test_varints.ensures.ok (λ has. packed_allowed limit c.args.most c.args.n (item_of c.args.field.now) c.in-Bytes.bytes.now e (ap payload_of c.in-Bytes.is) has)

pub returns-in-Bytes-clause-fault : goal.returns-in-Bytes-clause-fault
returns-in-Bytes-clause-fault c = λ limit e.
    IfErr-weaker c.test_varints.result _ _ (λ fault bad. packed_fails limit c.args.most c.args.n (item_of c.args.field.now) c.in-Bytes.bytes.now fault e (omega arith) (ap payload_of c.in-Bytes.is) bad) c.test_varints.ensures.fault

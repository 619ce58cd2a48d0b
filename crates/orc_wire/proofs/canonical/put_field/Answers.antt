use Rattle.orc_wire.specs.Fields.{IsPayload, varint, sized}
use Rattle.orc_wire.specs.CanonicalText.{payload_text}
use Rattle.orc_wire.specs.CanonicalFields.{varint_holds, sized_holds}
use Rattle.orc_wire.proofs.PutLemmas.{on_ok_any, on_ok_then}
use Rattle.orc_wire.proofs.canonical.put_field.Goals as goal

pub returns-in-Varint-clause-holds : goal.returns-in-Varint-clause-holds
returns-in-Varint-clause-holds c =
    let payload = varint c.in-Varint.number in
    rw c.in-Varint.is (on_ok_any c.put_one-in-Varint.result (IsPayload payload (payload_text payload)) (varint_holds c.in-Varint.number c.put_one-in-Varint.ensures.fits))

pub returns-in-Bytes-clause-holds : goal.returns-in-Bytes-clause-holds
returns-in-Bytes-clause-holds c =
    let payload = sized c.in-Bytes.bytes.now in
    rw c.in-Bytes.is (on_ok_then c.put_sized.result c.put_sized.ensures.fits (λ fits. sized_holds c.in-Bytes.bytes.now fits))

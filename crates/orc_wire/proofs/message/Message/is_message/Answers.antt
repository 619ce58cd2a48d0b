use Rattle.orc_wire.proofs.ReadLemmas.{test_succeeds, test_fails, test_as_read}
use Rattle.orc_wire.proofs.message.Message.is_message.Goals as goal

pub returns-clause-only : goal.returns-clause-only
returns-clause-only g c = λ message is.
    let m = g.Self.Message in
    let bad = c.test_fields.ensures.fault in
    test_succeeds m.members m.REQUIRED m.canonical.single c.args.bytes.now c.test_fields.result message bad is

pub returns-clause-refused : goal.returns-clause-refused
returns-clause-refused g c = λ fault is.
    let m = g.Self.Message in
    let ok = c.test_fields.ensures.found in
    let bad = c.test_fields.ensures.fault in
    test_fails m.members m.REQUIRED m.canonical.single c.args.bytes.now c.test_fields.result fault ok bad is

pub returns-clause-as_read : goal.returns-clause-as_read
returns-clause-as_read g c = λ read is.
    let m = g.Self.Message in
    let ok = c.test_fields.ensures.found in
    let bad = c.test_fields.ensures.fault in
    test_as_read m.members m.REQUIRED m.canonical.single c.args.bytes.now c.test_fields.result read ok bad is

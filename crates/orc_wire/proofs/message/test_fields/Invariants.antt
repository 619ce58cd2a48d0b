use Rattle.orc_wire.proofs.ReadLemmas.{Tests}
use Rattle.orc_wire.proofs.message.test_fields.Given as goal

abbrev pub invariant-loop-next : goal.invariant-loop-next
invariant-loop-next g l =
    Tests (g.M.Message.members) (g.M.Message.REQUIRED) (g.M.Message.sees) l.fn.place l.fn.bytes l.next-iterator.rest.now l.next-iterator.place l.seen l.complete

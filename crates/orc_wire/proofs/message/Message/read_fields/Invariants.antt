use Rattle.orc_wire.proofs.ReadLemmas.{Reads}
use Rattle.orc_wire.proofs.message.Message.read_fields.Given as goal

abbrev pub invariant-loop-next : goal.invariant-loop-next
invariant-loop-next g l =
    Reads (g.Self.Message.members) (g.Self.Message.REQUIRED) l.fn.fields.place l.fn.fields.rest.now l.next-iterator.rest.now l.next-iterator.place l.message l.complete

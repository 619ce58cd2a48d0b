use Rattle.orc_wire.proofs.FieldLemmas.{sized_take}
use Rattle.orc_wire.proofs.payload.front_sized.Goals as goal

pub returns-clause-found : goal.returns-clause-found
returns-clause-found c =
    let size = c.in_ok-size.size in
    let len = c.in_ok-size.len in
    rw (c.split_at-2.ensures.front, c.split_at.ensures.back) (sized_take c.args.bytes.now len size (rw c.split_at.ensures.back at c.if-rest-size.false) c.in_ok-size.ensures.found)

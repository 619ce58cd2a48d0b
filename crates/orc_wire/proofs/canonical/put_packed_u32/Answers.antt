use Rattle.std.proofs.Common.{◌∙◌}
use Rattle.orc_wire.proofs.SizedLemmas.{keeps_all}
use Rattle.orc_wire.proofs.canonical.put_packed_u32.Goals as goal

pub returns-clause-front : goal.returns-clause-front
returns-clause-front c =
    let out = c.args.out.now in
    keeps_all out.items c.loop-number.out.items c.end_some.new.out.items c.len-start.result
    (λ front h. c.loop-number.invariant.front front (c.begin_sized.ensures.front front h))
    (c.len-start.ensures ∙ out.ok.0) c.end_some.ensures.front

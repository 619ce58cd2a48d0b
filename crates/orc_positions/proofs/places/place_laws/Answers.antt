use Rattle.orc_positions.proofs.PlaceLemmas.{named, begins_named}
use Rattle.orc_positions.proofs.places.place_laws.Goals as goal

pub returns-clause-named : goal.returns-clause-named
returns-clause-named g c = λ sign.
    let law = g.met.C.RunCodec in
    named (g.C.RunCodec.is_run sign) (law.one sign) (law.some sign)

pub returns-clause-begins : goal.returns-clause-begins
returns-clause-begins g c = λ sign.
    let law = g.met.C.RunCodec in
    begins_named (g.C.RunCodec.is_run sign) (law.one sign) (law.some sign)

use Rattle.std.proofs.Common.{refl}
use Rattle.orc_positions.proofs.places.RunTable.begins_bit.Goals as goal

pub returns-in-None : goal.returns-in-None
returns-in-None c = λ h. c.in-None.ensures.none refl h.0 h.1 h.2

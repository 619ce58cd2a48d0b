use Rattle.orc_bits.proofs.PackedLemmas.{AllFit-front, AllFit-back}
use Rattle.orc_bits.proofs.SpellsLemmas.{Spells-parts}
use Rattle.orc_bits.proofs.lanes.put_quarters.Goals as goal

pub put_halves-requires-clause-fit : goal.put_halves-requires-clause-fit
put_halves-requires-clause-fit c = AllFit-front _ c.halves.result.0 c.halves.result.1 c.halves.ensures.0

pub put_halves-requires-2-clause-fit : goal.put_halves-requires-2-clause-fit
put_halves-requires-2-clause-fit c = AllFit-back _ c.halves.result.0 c.halves.result.1 c.halves.ensures.0

pub returns : goal.returns
returns c = Spells-parts _ _ _ _ _ _ _ _ c.halves.ensures c.put_halves.ensures c.put_halves-2.ensures

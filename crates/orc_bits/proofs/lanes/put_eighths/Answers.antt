use Rattle.orc_bits.proofs.PackedLemmas.{AllFit-front, AllFit-back}
use Rattle.orc_bits.proofs.SpellsLemmas.{Spells-parts}
use Rattle.orc_bits.proofs.lanes.put_eighths.Goals as goal

pub put_quarters-requires-clause-fit : goal.put_quarters-requires-clause-fit
put_quarters-requires-clause-fit c = AllFit-front 4 c.halves.result.0 c.halves.result.1 c.halves.ensures.0

pub put_quarters-requires-2-clause-fit : goal.put_quarters-requires-2-clause-fit
put_quarters-requires-2-clause-fit c = AllFit-back 4 c.halves.result.0 c.halves.result.1 c.halves.ensures.0

pub returns : goal.returns
returns c = Spells-parts 8 4 1 _ _ _ _ _ c.halves.ensures c.put_quarters.ensures c.put_quarters-2.ensures

use Rattle.std.proofs.Common.{◌+◌, ◌∷◌, []}
use Rattle.orc_bits.proofs.SpellsLemmas.{Spells-parts}
use Rattle.orc_bits.proofs.byte_parts.put_quarters.Goals as goal

pub returns : goal.returns
returns c =
    let q = c.args.quarter in
    Spells-parts ((q + q) + (q + q)) (q + q) q (c.args.number ∷ []) (c.halves-front.result.0 ∷ []) (c.halves-front.result.1 ∷ []) _ _ c.halves-front.ensures.spelled c.put_halves.ensures c.put_halves-2.ensures

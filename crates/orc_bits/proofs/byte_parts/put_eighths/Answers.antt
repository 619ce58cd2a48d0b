use Rattle.std.proofs.Common.{◌∷◌, []}
use Rattle.orc_bits.proofs.SpellsLemmas.{Spells-parts}
use Rattle.orc_bits.proofs.byte_parts.put_eighths.Goals as goal

pub returns : goal.returns
returns c =
    Spells-parts 8 4 1 (c.args.byte ∷ []) (c.halves-front.result.0 ∷ []) (c.halves-front.result.1 ∷ []) _ _ c.halves-front.ensures.spelled c.put_quarters.ensures c.put_quarters-2.ensures

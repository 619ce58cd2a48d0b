use Rattle.std.proofs.Common.{◌+◌, ◌∷◌, [], subst, sym}
use Rattle.orc_bits.specs.Packed.{SpellsPacked}
use Rattle.orc_bits.proofs.SpellsLemmas.{both_set}
use Rattle.orc_bits.proofs.byte_parts.put_halves.Goals as goal

pub returns : goal.returns
returns c =
    subst (SpellsPacked (c.args.half + c.args.half) (c.args.number ∷ []) c.args.half) (sym (both_set c.args.out.now c.halves-front.result.0 c.halves-front.result.1 c.requires.len)) c.halves-front.ensures.spelled

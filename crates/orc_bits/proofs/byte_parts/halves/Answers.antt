use Rattle.std.proofs.Common.{◌+◌, ◌/◌, ◌^◌, [], ◌∷◌, subst, sym, arith}
use Rattle.std.proofs.lemmas.Nat.{shr_below}
use Rattle.orc_bits.specs.Packed.{SpellsPacked}
use Rattle.orc_bits.proofs.PackedLemmas.{masked, masked_below}
use Rattle.orc_bits.proofs.SpellsLemmas.{Spells-halves}
use Rattle.orc_bits.proofs.byte_parts.halves.Goals as goal

pub returns-clause-front : goal.returns-clause-front
returns-clause-front c = shr_below c.args.number c.args.half c.args.half c.requires.fits

pub returns-clause-back : goal.returns-clause-back
returns-clause-back c = masked_below c.args.number c.args.half 64 (omega (arith, c.requires.few))

pub returns-clause-spelled : goal.returns-clause-spelled
returns-clause-spelled c =
    subst (λ b. SpellsPacked (c.args.half + c.args.half) (c.args.number ∷ []) c.args.half (c.args.number / 2 ^ c.args.half ∷ b ∷ [])) (sym (masked c.args.number c.args.half 64 (omega (arith, c.requires.few))))
    (Spells-halves c.args.half (c.args.number ∷ []) (c.requires.fits, tt))

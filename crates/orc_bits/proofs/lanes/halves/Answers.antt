use Rattle.std.proofs.Common.{◌+◌, subst, sym}
use Rattle.orc_bits.specs.Packed.{SpellsPacked}
use Rattle.orc_bits.proofs.LaneLemmas.{interleaved}
use Rattle.orc_bits.proofs.SpellsLemmas.{Spells-halves}
use Rattle.orc_bits.proofs.lanes.halves.Goals as goal

pub returns : goal.returns
returns c =
    subst (SpellsPacked (c.args.half + c.args.half) c.args.lanes c.args.half) (sym (interleaved c.args.half c.args.lanes c.requires.few c.fits-lanes.0)) (Spells-halves c.args.half c.args.lanes c.requires.fit)

use Rattle.orc_bits.proofs.SpellsLemmas.{one_set}
use Rattle.orc_bits.proofs.byte_parts.put_whole.Goals as goal

pub returns : goal.returns
returns c = one_set c.args.out.now c.args.byte c.requires

use Rattle.orc_bits.proofs.PackedLemmas.{len_by_eights}
use Rattle.orc_bits.proofs.packed_digits.least_len.Goals as goal

pub returns : goal.returns
returns c = len_by_eights c.args.width c.args.n

use Rattle.orc_column_reader.proofs.BitsLemmas.{bits_ended}
use Rattle.orc_column_reader.proofs.MetLemmas.{bits_over}
use Rattle.orc_column_reader.proofs.bits.bits_left.Goals as goal

pub bytes_left-requires : goal.bytes_left-requires
bytes_left-requires c = record { more = λ h. c.requires.more (bits_ended c.args.bits.now c.if-bits-ge8.false h) }

pub returns-clause-met : goal.returns-clause-met
returns-clause-met c = bits_over c.args.bits.now c.bytes_left.result c.bytes_left.ensures.met

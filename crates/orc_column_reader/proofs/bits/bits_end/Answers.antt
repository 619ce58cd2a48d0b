use Rattle.orc_column_reader.proofs.BitsLemmas.{bits_ended, bits_whole, bits_bytes}
use Rattle.orc_column_reader.proofs.bits.bits_end.Goals as goal

pub returns-then-bits-ge8 : goal.returns-then-bits-ge8
returns-then-bits-ge8 c = bits_whole c.args.bits.now c.if-bits-ge8.true

pub returns-then-not-bytes_end : goal.returns-then-not-bytes_end
returns-then-not-bytes_end c = λ h. c.if-not-bytes_end.ensures (bits_bytes c.args.bits.now h)

pub returns : goal.returns
returns c = bits_ended c.args.bits.now c.if-bits-ge8.false c.if-not-bytes_end.ensures

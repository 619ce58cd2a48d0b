use Rattle.std.proofs.Common.{◌∙◌, ap, rules}
use Rattle.std.proofs.lemmas.Bool.{le-ltb}
use Rattle.orc_rle.specs.BitStream.{digit}
use Rattle.orc_column_reader.proofs.BitsLemmas.{no_higher}
use Rattle.orc_column_reader.proofs.bits.digit_at.Goals as goal

pub returns-else-lower-lt8 : goal.returns-else-lower-lt8
returns-else-lower-lt8 c = ap digit (le-ltb c.args.lower 8 c.if-lower-lt8.false) ∙ no_higher c.args.byte c.args.lower (search rules) c.if-lower-lt8.false

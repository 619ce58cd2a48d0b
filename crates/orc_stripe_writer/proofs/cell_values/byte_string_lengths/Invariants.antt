use Rattle.std.proofs.Common.{◌≡◌, take, map}
use Rattle.orc_rle.specs.declared.sign.Sign.TheVariants.{Unsigned}
use Rattle.orc_rle.specs.Values.{AllInRange}
use Rattle.orc_column_reader.specs.Spellings.{size}
use Rattle.orc_stripe_writer.specs.Dictionary.{byte_strings}
use Rattle.orc_stripe_writer.proofs.cell_values.byte_string_lengths.Given as goal

abbrev pub invariant-loop-string : goal.invariant-loop-string
invariant-loop-string l = record { lengths : l.found.items ≡ map size (byte_strings (take l.string-index l.strings)); in_range : AllInRange Unsigned l.found.items }

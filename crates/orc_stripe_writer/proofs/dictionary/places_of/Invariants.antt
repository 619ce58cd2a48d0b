use Rattle.std.proofs.Common.{take}
use Rattle.orc_rle.specs.declared.sign.Sign.TheVariants.{Unsigned}
use Rattle.orc_rle.specs.Values.{AllInRange}
use Rattle.orc_stripe_writer.specs.Dictionary.{byte_strings, AreNamed}
use Rattle.orc_stripe_writer.proofs.dictionary.places_of.Given as goal

abbrev pub invariant-loop-string : goal.invariant-loop-string
invariant-loop-string l = record { named : AreNamed (byte_strings l.entries.items) l.places.items (byte_strings (take l.string-index l.strings)); in_range : AllInRange Unsigned l.places.items }

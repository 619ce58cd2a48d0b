use Rattle.std.proofs.Common.{◌≡◌, ℕ, Bool, ◌+◌, length, map}
use Rattle.orc_rle.specs.declared.sign.Sign.TheVariants.{Unsigned}
use Rattle.orc_column_reader.specs.Fronts.{Leaves}
use Rattle.orc_column_reader.specs.Numbers.{AreNumbers, NumbersLeft}
use Rattle.orc_column_reader.specs.Octets.{OctetsLeft}
use Rattle.orc_column_reader.specs.Spellings.{Sized}
use Rattle.orc_column_reader.specs.Stripe.{Is}
use Rattle.orc_column_reader.specs.Columns.{entry_bytes}
use Rattle.orc_directory.specs.declared.fault.StreamKind.TheVariants.{DictionaryData}
use Rattle.orc_directory.specs.declared.fault.StripeFault.{StripeFault}
use Rattle.orc_column_reader.specs.Faults.{StringsFail}
use Rattle.orc_column_reader.specs.ReaderFaults.{StringsMeet}
use Rattle.orc_column_reader.proofs.dictionary.entries_of.Given as goal

abbrev pub invariant-loop-taken : goal.invariant-loop-taken
invariant-loop-taken l =
    Leaves (Sized (AreNumbers l.fn.version Unsigned l.lengths) (Is l.bytes)) (Sized (NumbersLeft l.numbers) (OctetsLeft l.octets)) (map entry_bytes l.entries.items)
    × (length l.entries.items ≡ l.taken)
    × ((all : Bool) (n : ℕ) (f : StripeFault) → StringsMeet DictionaryData l.numbers l.octets all n l.fn.column f
    → StringsFail DictionaryData (record { version = l.fn.version; sign = Unsigned; bytes = l.lengths }) all (l.taken + n) l.bytes l.fn.column f)

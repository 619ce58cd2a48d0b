use Rattle.orc_values.specs.declared.kind.Scalar.TheVariants as kind
use Rattle.std.proofs.Common.{map}
use Rattle.orc_column_reader.specs.Numbers.{NumbersLeft}
use Rattle.orc_column_reader.specs.Bits.{BitsLeft}
use Rattle.orc_column_reader.specs.Bytes.{BytesLeft}
use Rattle.orc_column_reader.specs.Octets.{OctetsLeft}
use Rattle.orc_column_reader.specs.Spellings.{Sized}
use Rattle.orc_column_reader.specs.Columns.{IsBool, IsByte, IsInt, IsDate, IsText, IsBinary, IsEntry, entry_bytes}
use Rattle.orc_column_reader.proofs.Ends.{standing_match}
use Rattle.orc_column_reader.proofs.column.scalar_end.Goals as goal

pub returns-in-Boolean : goal.returns-in-Boolean
returns-in-Boolean c = rw c.in-Boolean.is (standing_match c.bits_end.result IsBool (BitsLeft c.args.source.now.bits) c.bits_end.ensures)

pub returns-in-Byte : goal.returns-in-Byte
returns-in-Byte c = rw c.in-Byte.is (standing_match c.bytes_end.result IsByte (BytesLeft c.args.source.now.bytes) c.bytes_end.ensures)

pub returns-in-Short : goal.returns-in-Short
returns-in-Short c = rw c.in-Short.is (standing_match c.numbers_end.result (IsInt kind.Short) (NumbersLeft c.args.source.now.numbers) c.numbers_end.ensures)

pub returns-in-Int : goal.returns-in-Int
returns-in-Int c = rw c.in-Int.is (standing_match c.numbers_end-in-Int.result (IsInt kind.Int) (NumbersLeft c.args.source.now.numbers) c.numbers_end-in-Int.ensures)

pub returns-in-Long : goal.returns-in-Long
returns-in-Long c = rw c.in-Long.is (standing_match c.numbers_end-in-Long.result (IsInt kind.Long) (NumbersLeft c.args.source.now.numbers) c.numbers_end-in-Long.ensures)

pub returns-in-Date : goal.returns-in-Date
returns-in-Date c = rw c.in-Date.is (standing_match c.numbers_end-in-Date.result IsDate (NumbersLeft c.args.source.now.numbers) c.numbers_end-in-Date.ensures)

pub returns-in-Binary : goal.returns-in-Binary
returns-in-Binary c = rw c.in-Binary.is (standing_match c.strings_end.result IsBinary (Sized (NumbersLeft c.args.source.now.numbers) (OctetsLeft c.args.source.now.octets)) c.strings_end.ensures)

pub returns-in-None : goal.returns-in-None
returns-in-None c = rw (c.in-String.is, c.in-None.is) (standing_match c.strings_end-in-None.result IsText (Sized (NumbersLeft c.args.source.now.numbers) (OctetsLeft c.args.source.now.octets)) c.strings_end-in-None.ensures)

pub returns-in-Some : goal.returns-in-Some
returns-in-Some c = rw (c.in-String.is, c.in-Some.is) (standing_match c.numbers_end-in-Some.result (IsEntry (map entry_bytes c.in-Some.field-0.items)) (NumbersLeft c.args.source.now.numbers) c.numbers_end-in-Some.ensures)

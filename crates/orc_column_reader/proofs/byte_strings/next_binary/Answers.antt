use Rattle.orc_column_reader.specs.Numbers.{NumbersLeft}
use Rattle.orc_column_reader.specs.Octets.{OctetsLeft}
use Rattle.orc_column_reader.specs.Spellings.{Sized}
use Rattle.orc_column_reader.specs.Columns.{IsBinary}
use Rattle.orc_column_reader.proofs.OwnKinds.{binary_kind}
use Rattle.orc_column_reader.proofs.ReaderLemmas.{one_stands, one_binary}
use Rattle.orc_column_reader.proofs.byte_strings.next_binary.Goals as goal

pub returns-clause-found : goal.returns-clause-found
returns-clause-found c =
    one_stands IsBinary one_binary (Sized (NumbersLeft c.args.numbers.now) (OctetsLeft c.args.octets.now)) (Sized (NumbersLeft c.next_string.new.numbers) (OctetsLeft c.next_string.new.octets)) c.in_ok-bytes.bytes.now _
    c.value_of.ensures c.in_ok-bytes.ensures.found

pub returns-clause-kind : goal.returns-clause-kind
returns-clause-kind c = binary_kind c.in_ok-bytes.bytes.now _ c.value_of.ensures

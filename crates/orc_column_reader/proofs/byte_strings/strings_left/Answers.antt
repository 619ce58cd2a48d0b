use Rattle.std.proofs.Common.{inl}
use Rattle.orc_column_reader.specs.RunsMet.{NumbersMeet}
use Rattle.orc_column_reader.proofs.NeedLemmas.{always_end}
use Rattle.orc_column_reader.proofs.byte_strings.strings_left.Goals as goal

pub returns : goal.returns
returns c =
    let e = c.numbers_left.ensures in
    inl (c.numbers_left.result, c.run_fault.ensures.same e.no_memory, e.no_memory, always_end (NumbersMeet c.args.numbers.now) c.numbers_left.result e.met)

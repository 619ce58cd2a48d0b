use Rattle.std.proofs.Common.{◌≡◌, rules, w64, to_z, of_z}
use Rattle.std.proofs.lemmas.Int.{to_z-of_z}
use Rattle.orc_column_reader.specs.RunsMet.{NumbersMeet}
use Rattle.orc_column_reader.proofs.NeedLemmas.{always_now}
use Rattle.orc_column_reader.proofs.whole_numbers.next_number.Goals as goal

pub returns-in-Err-clause-fault : goal.returns-in-Err-clause-fault
returns-in-Err-clause-fault c = λ memory n. let k = c.run_fault.ensures.fails memory in (c.in-Err.fault, k.0, k.1, always_now n (NumbersMeet c.args.numbers.now) c.in-Err.fault c.in-Err.ensures.fault)

pub returns-in-Ok-clause-first : goal.returns-in-Ok-clause-first
returns-in-Ok-clause-first c =
    let z : to_z w64 (of_z w64 c.in-Ok.number) ≡ c.in-Ok.number = to_z-of_z w64 c.in-Ok.number (search rules) in
    rw z c.in-Ok.ensures.first

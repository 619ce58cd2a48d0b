use Rattle.std.proofs.Common.{drop, length, arith, ap}
use Rattle.orc_column_reader.specs.Numbers.{is_run}
use Rattle.orc_column_reader.proofs.NumbersLemmas.{laws_of}
use Rattle.orc_column_reader.proofs.RunsLemmas.{runs_ended, runs_not_used, runs_not_read}
use Rattle.orc_column_reader.proofs.numbers.numbers_end.Goals as goal

pub returns-then-numbers-values : goal.returns-then-numbers-values
returns-then-numbers-values c =
    let r = c.args.numbers.now in
    runs_not_used (is_run r.version r.sign) r.run.values r.used (drop r.at r.bytes.now) (omega (arith, c.if-numbers-values.true, ap length c.values.ensures.values))

pub returns-then-numbers : goal.returns-then-numbers
returns-then-numbers c =
    let r = c.args.numbers.now in
    runs_not_read (is_run r.version r.sign) (laws_of r.version r.sign) (drop r.used r.run.values) r.bytes.now r.at c.if-numbers.true

pub returns : goal.returns
returns c =
    let r = c.args.numbers.now in
    runs_ended (is_run r.version r.sign) r.run.values r.used r.bytes.now r.at (omega (arith, c.if-numbers-values.false, ap length c.values.ensures.values)) c.if-numbers.false

use Rattle.std.proofs.Common.{◌≤◌, drop, length, arith, ap}
use Rattle.orc_column_reader.specs.Numbers.{is_run}
use Rattle.orc_column_reader.specs.RunFaults.{no_run}
use Rattle.orc_column_reader.proofs.NumbersLemmas.{laws_of}
use Rattle.orc_column_reader.proofs.RunsLemmas.{past_end}
use Rattle.orc_column_reader.proofs.RunsMetLemmas.{met_left, met_pass, met_stop, bytes_more}
use Rattle.orc_column_reader.proofs.numbers.numbers_left.Goals as goal

pub returns-then-numbers-values-clause-met : goal.returns-then-numbers-values-clause-met
returns-then-numbers-values-clause-met c =
    let r = c.args.numbers.now in
    met_left (is_run r.version r.sign) (no_run r.version r.sign) r.run.values r.used r.bytes.now r.start r.at (length r.bytes.now) (omega (arith, c.if-numbers-values.true, ap length c.values.ensures.values))

pub split_at-requires : goal.split_at-requires
split_at-requires c =
    let r = c.args.numbers.now in
    let used : length r.run.values ≤ r.used = omega (arith, c.if-numbers-values.false, ap length c.values.ensures.values) in
    omega (arith, bytes_more (is_run r.version r.sign) r.run.values r.used r.bytes.now r.at used c.requires.more)

pub returns-in-Ok-clause-met : goal.returns-in-Ok-clause-met
returns-in-Ok-clause-met c =
    let r = c.args.numbers.now in
    let used : length r.run.values ≤ r.used = omega (arith, c.if-numbers-values.false, ap length c.values.ensures.values) in
    let found = rw c.split_at.ensures.back at c.in-Ok.ensures.found in
    met_pass (is_run r.version r.sign) (no_run r.version r.sign) (laws_of r.version r.sign) (drop r.used r.run.values) c.next_run.new.run.values r.bytes.now r.start r.at c.in-Ok.field-0 (length r.bytes.now) (past_end r.used r.run.values used) found

pub returns-clause-met : goal.returns-clause-met
returns-clause-met c =
    let r = c.args.numbers.now in
    let used : length r.run.values ≤ r.used = omega (arith, c.if-numbers-values.false, ap length c.values.ensures.values) in
    let there = bytes_more (is_run r.version r.sign) r.run.values r.used r.bytes.now r.at used c.requires.more in
    met_stop (is_run r.version r.sign) (no_run r.version r.sign) (drop r.used r.run.values) r.bytes.now r.start r.at (length r.bytes.now) 0 c.in-Err.fault c.with_place.result (past_end r.used r.run.values used) there
    (rw c.split_at.ensures.back at c.in-Err.ensures.fault) c.with_place.ensures

use Rattle.std.proofs.Common.{◌≤◌, drop, length, arith, ap}
use Rattle.orc_rle.specs.ByteRun.{IsByteRun, NoByteRun}
use Rattle.orc_column_reader.proofs.NumbersLemmas.{byte_laws}
use Rattle.orc_column_reader.proofs.RunsLemmas.{past_end}
use Rattle.orc_column_reader.proofs.RunsMetLemmas.{met_left, met_pass, met_stop, bytes_more}
use Rattle.orc_column_reader.proofs.bytes.bytes_left.Goals as goal

pub returns-then-bytes-values-clause-met : goal.returns-then-bytes-values-clause-met
returns-then-bytes-values-clause-met c =
    let r = c.args.bytes.now in
    met_left IsByteRun NoByteRun r.run.values r.used r.bytes.now r.start r.at (length r.bytes.now) (omega (arith, c.if-bytes-values.true, ap length c.values.ensures.values))

pub split_at-requires : goal.split_at-requires
split_at-requires c =
    let r = c.args.bytes.now in
    let used : length r.run.values ≤ r.used = omega (arith, c.if-bytes-values.false, ap length c.values.ensures.values) in
    omega (arith, bytes_more IsByteRun r.run.values r.used r.bytes.now r.at used c.requires.more)

pub returns-in-Ok-clause-met : goal.returns-in-Ok-clause-met
returns-in-Ok-clause-met c =
    let r = c.args.bytes.now in
    let used : length r.run.values ≤ r.used = omega (arith, c.if-bytes-values.false, ap length c.values.ensures.values) in
    let found = rw c.split_at.ensures.back at c.in-Ok.ensures.found in
    met_pass IsByteRun NoByteRun byte_laws (drop r.used r.run.values) c.next_run.new.run.values r.bytes.now r.start r.at c.in-Ok.field-0 (length r.bytes.now) (past_end r.used r.run.values used) found

pub returns-clause-met : goal.returns-clause-met
returns-clause-met c =
    let r = c.args.bytes.now in
    let used : length r.run.values ≤ r.used = omega (arith, c.if-bytes-values.false, ap length c.values.ensures.values) in
    let there = bytes_more IsByteRun r.run.values r.used r.bytes.now r.at used c.requires.more in
    met_stop IsByteRun NoByteRun (drop r.used r.run.values) r.bytes.now r.start r.at (length r.bytes.now) 0 c.in-Err.fault c.with_place.result (past_end r.used r.run.values used) there
    (rw c.split_at.ensures.back at c.in-Err.ensures.fault) c.with_place.ensures

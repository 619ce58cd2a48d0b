use Rattle.std.proofs.Common.{drop, length, arith, ap}
use Rattle.orc_rle.specs.ByteRun.{IsByteRun}
use Rattle.orc_column_reader.proofs.NumbersLemmas.{byte_laws}
use Rattle.orc_column_reader.proofs.RunsLemmas.{runs_ended, runs_not_used, runs_not_read}
use Rattle.orc_column_reader.proofs.bytes.bytes_end.Goals as goal

pub returns-then-bytes-values : goal.returns-then-bytes-values
returns-then-bytes-values c =
    let r = c.args.bytes.now in
    runs_not_used IsByteRun r.run.values r.used (drop r.at r.bytes.now) (omega (arith, c.if-bytes-values.true, ap length c.values.ensures.values))

pub returns-then-bytes : goal.returns-then-bytes
returns-then-bytes c =
    let r = c.args.bytes.now in
    runs_not_read IsByteRun byte_laws (drop r.used r.run.values) r.bytes.now r.at c.if-bytes.true

pub returns : goal.returns
returns c =
    let r = c.args.bytes.now in
    runs_ended IsByteRun r.run.values r.used r.bytes.now r.at (omega (arith, c.if-bytes-values.false, ap length c.values.ensures.values)) c.if-bytes.false

use Rattle.std.proofs.Common.{◌-◌, ◌<◌, ◌≤◌, ◌∙◌, drop, arith, rules, inl}
use Rattle.orc_rle.specs.ByteRun.{IsByteRun}
use Rattle.orc_rle.proofs.ByteLaws.{one_byte_run, byte_run_some}
use Rattle.orc_positions.proofs.PositionLemmas.{mark_end}
use Rattle.orc_positions.proofs.RunStartLemmas.{mark_holds, mark_end_begins, mark_within, run_there, run_some, mark_over, mark_unread}
use Rattle.orc_positions.proofs.run_start.byte_run_start_at.Goals as goal

pub returns-then-end-bytes-clause-place : goal.returns-then-end-bytes-clause-place
returns-then-end-bytes-clause-place c =
    let end = c.end-end.result in
    let begins = mark_end_begins IsByteRun one_byte_run byte_run_some c.args.bytes.now c.runs.run_start end.offset end.before c.runs.invariant.run_start c.end-end.ensures.offset c.end-end.ensures.before in
    let ge : c.runs.run_start.count ≤ c.args.n - c.runs.run_start.before = search rules in
    let ahead : end.before ≤ c.args.n = omega (arith, ge, c.end-end.ensures.before, c.runs.invariant.ahead) in
    mark_end IsByteRun one_byte_run byte_run_some c.args.bytes.now end.offset end.before c.args.n begins c.if-end-bytes.true ahead c.requires.there

pub returns-then-end-bytes-clause-run_start : goal.returns-then-end-bytes-clause-run_start
returns-then-end-bytes-clause-run_start c =
    let end = c.end-end.result in
    let begins = mark_end_begins IsByteRun one_byte_run byte_run_some c.args.bytes.now c.runs.run_start end.offset end.before c.runs.invariant.run_start c.end-end.ensures.offset c.end-end.ensures.before in
    mark_unread IsByteRun c.args.bytes.now end begins c.end-end.ensures.unread

pub runs-preserved : goal.runs-preserved
runs-preserved c =
    let end = c.end-end.result in
    let begins = mark_end_begins IsByteRun one_byte_run byte_run_some c.args.bytes.now c.runs.run_start end.offset end.before c.runs.invariant.run_start c.end-end.ensures.offset c.end-end.ensures.before in
    let t = run_there IsByteRun c.args.bytes.now end.offset end.before begins c.if-end-bytes.false in
    let size = c.run_size.ensures t.text t.rest t.values t.run (c.split_at.ensures.back ∙ t.parts) in
    let ge : c.runs.run_start.count ≤ c.args.n - c.runs.run_start.before = search rules in
    record {
      run_start = mark_over IsByteRun c.args.bytes.now end c.over-run_start.result begins t c.over-run_start.ensures.start (c.over-run_start.ensures.size.0 ∙ size.0) (c.over-run_start.ensures.size.1 ∙ size.1);
      ahead = omega (arith, ge, c.over-run_start.ensures.start, c.end-end.ensures.before, c.runs.invariant.ahead);
    }

pub runs-smaller : goal.runs-smaller
runs-smaller c =
    let end = c.end-end.result in
    let begins = mark_end_begins IsByteRun one_byte_run byte_run_some c.args.bytes.now c.runs.run_start end.offset end.before c.runs.invariant.run_start c.end-end.ensures.offset c.end-end.ensures.before in
    let t = run_there IsByteRun c.args.bytes.now end.offset end.before begins c.if-end-bytes.false in
    let size = c.run_size.ensures t.text t.rest t.values t.run (c.split_at.ensures.back ∙ t.parts) in
    let some = run_some IsByteRun byte_run_some (drop end.offset c.args.bytes.now) t in
    omega (arith, some, size.0, c.over-run_start.ensures.size, c.over-run_start.ensures.start, c.end-end.ensures.offset, c.if-end-bytes.false)

pub returns-clause-place : goal.returns-clause-place
returns-clause-place c =
    let lt : c.args.n - c.runs.run_start.before < c.runs.run_start.count = search rules in
    mark_holds IsByteRun one_byte_run byte_run_some c.args.bytes.now c.runs.run_start c.args.n c.runs.invariant.run_start c.runs.invariant.ahead lt

pub returns-then-end-bytes-clause-held : goal.returns-then-end-bytes-clause-held
returns-then-end-bytes-clause-held c =
    let within = mark_within IsByteRun c.args.bytes.now c.runs.run_start c.runs.invariant.run_start in
    inl (omega (arith, within, c.end-end.ensures.offset, c.if-end-bytes.true))

use Rattle.std.proofs.Common.{◌≡◌, ◌∙◌, ◌++◌, length, ap, arith, length-drop, length-append}
use Rattle.orc_rle.specs.ByteRun.{IsByteRun}
use Rattle.orc_column_reader.proofs.NumbersLemmas.{byte_laws}
use Rattle.orc_group_reader.proofs.RunStarts.{walk_begins, next_run, next_some, walk_more, walk_within, walk_ends}
use Rattle.orc_group_reader.proofs.run_starts.last_byte_start.Goals as goal

pub runs-init : goal.runs-init
runs-init c = walk_begins (IsByteRun) c.args.bytes.now c.args.offset c.args.end c.requires

pub split_at-requires : goal.split_at-requires
split_at-requires c =
    let R = IsByteRun in
    let n = next_run R c.args.bytes.now c.runs.next c.args.end c.runs.invariant.left c.runs-test.true in
    omega (arith, ap length n.parts, length-drop c.runs.next c.args.bytes.now, next_some R (byte_laws.some) c.args.bytes.now c.runs.next c.args.end n, length-append n.text (n.front ++ n.rest))

pub overflow_add-next : goal.overflow_add-next
overflow_add-next c =
    let R = IsByteRun in
    let n = next_run R c.args.bytes.now c.runs.next c.args.end c.runs.invariant.left c.runs-test.true in
    let len : c.run_size-next.result.bytes ≡ length n.text = (c.run_size-next.ensures n.text (n.front ++ n.rest) n.last n.run (c.split_at.ensures.back ∙ n.parts)).0 in
    omega (arith, len, walk_within R c.args.bytes.now c.runs.next c.args.end n, c.ranges.end)

pub runs-smaller : goal.runs-smaller
runs-smaller c =
    let R = IsByteRun in
    let n = next_run R c.args.bytes.now c.runs.next c.args.end c.runs.invariant.left c.runs-test.true in
    let len : c.run_size-next.result.bytes ≡ length n.text = (c.run_size-next.ensures n.text (n.front ++ n.rest) n.last n.run (c.split_at.ensures.back ∙ n.parts)).0 in
    omega (arith, len, next_some R (byte_laws.some) c.args.bytes.now c.runs.next c.args.end n, c.runs-test.true)

pub runs-preserved : goal.runs-preserved
runs-preserved c =
    let R = IsByteRun in
    let n = next_run R c.args.bytes.now c.runs.next c.args.end c.runs.invariant.left c.runs-test.true in
    let len : c.run_size-next.result.bytes ≡ length n.text = (c.run_size-next.ensures n.text (n.front ++ n.rest) n.last n.run (c.split_at.ensures.back ∙ n.parts)).0 in
    walk_more R c.args.bytes.now c.args.offset c.runs.start c.runs.next (c.run_size-next.result.bytes) c.args.end c.runs.invariant n len

pub returns : goal.returns
returns c = walk_ends (IsByteRun) c.args.bytes.now c.args.offset c.runs.start c.runs.next c.args.end c.runs.invariant c.runs-test.false

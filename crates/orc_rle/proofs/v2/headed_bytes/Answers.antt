use Rattle.std.proofs.Common.{arith, ◌≤◌}
use Rattle.orc_rle.proofs.SizeLemmas.{HeadOf, is_patched, is_delta}
use Rattle.orc_rle.proofs.v2.headed_bytes.Goals as goal

pub returns-in-2-clause-only : goal.returns-in-2-clause-only
returns-in-2-clause-only c = λ sign front more v p e.
    let of : HeadOf c.args.head 128 192 = (omega (arith, c.in-2.is), omega (arith, c.in-2.is)) in
    c.patched_bytes.ensures.only front more v (is_patched sign c.args.head _ front more v p of e) e

pub returns-in_default-clause-only : goal.returns-in_default-clause-only
returns-in_default-clause-only c = λ sign front more v p e.
    let ge : 192 ≤ c.args.head = omega arith in
    c.delta_bytes.ensures.only sign front more v (is_delta sign c.args.head _ front more v p ge e) e

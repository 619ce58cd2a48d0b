use Rattle.std.proofs.Common.{arith}
use Rattle.orc_rle.specs.ByteRun.{IsByteRun}
use Rattle.orc_rle.proofs.ByteLaws.{one_byte_run, byte_run_some}
use Rattle.orc_positions.proofs.PositionLemmas.{goes_on_alone, goes_on, sought, one_number, one_place}
use Rattle.orc_positions.proofs.RunStartLemmas.{mark_start}
use Rattle.orc_positions.proofs.laws.byte_seek_laws.Goals as goal

pub returns-clause-sought : goal.returns-clause-sought
returns-clause-sought c = λ bytes offset skip n all h stream.
    sought IsByteRun one_byte_run byte_run_some bytes offset skip skip n all (omega arith) (omega arith) h h.there stream

pub returns-clause-goes_on : goal.returns-clause-goes_on
returns-clause-goes_on c = λ bytes offset skip n at left all.
    goes_on IsByteRun one_byte_run byte_run_some bytes offset skip skip n at left all (omega arith) (omega arith)

pub returns-clause-one_number : goal.returns-clause-one_number
returns-clause-one_number c = one_number IsByteRun one_byte_run byte_run_some

pub returns-clause-one_place : goal.returns-clause-one_place
returns-clause-one_place c = λ bytes o p s t n h k.
    let same = one_place IsByteRun one_byte_run byte_run_some bytes o p s t n h k in
    (same.offset, same.skip)

pub returns-clause-start : goal.returns-clause-start
returns-clause-start c = mark_start IsByteRun

pub returns-clause-goes_on_alone : goal.returns-clause-goes_on_alone
returns-clause-goes_on_alone c = λ a b offset skip. goes_on_alone IsByteRun a b offset skip skip

use Rattle.std.proofs.Common.{arith}
use Rattle.orc_positions.proofs.PositionLemmas.{goes_on_alone, goes_on, sought, one_number, seek_alone, fails_alone, one_place}
use Rattle.orc_positions.proofs.RunStartLemmas.{mark_start}
use Rattle.orc_positions.proofs.laws.seek_laws.Goals as goal

pub returns-clause-sought : goal.returns-clause-sought
returns-clause-sought g c = λ sign bytes offset skip n all h stream.
    let law = g.met.C.RunCodec in
    sought (g.C.RunCodec.is_run sign) (law.one sign) (law.some sign) bytes offset skip skip n all (omega arith) (omega arith) h h.there stream

pub returns-clause-goes_on : goal.returns-clause-goes_on
returns-clause-goes_on g c = λ sign bytes offset skip n at left all.
    let law = g.met.C.RunCodec in
    goes_on (g.C.RunCodec.is_run sign) (law.one sign) (law.some sign) bytes offset skip skip n at left all (omega arith) (omega arith)

pub returns-clause-one_number : goal.returns-clause-one_number
returns-clause-one_number g c = λ sign.
    let law = g.met.C.RunCodec in
    one_number (g.C.RunCodec.is_run sign) (law.one sign) (law.some sign)

pub returns-clause-alone : goal.returns-clause-alone
returns-clause-alone g c = λ sign a b offset skip. seek_alone (g.C.RunCodec.is_run sign) a b offset skip skip

pub returns-clause-fails_alone : goal.returns-clause-fails_alone
returns-clause-fails_alone g c = λ sign. fails_alone (g.C.RunCodec.is_run sign) (g.C.RunCodec.fails sign)

pub returns-clause-one_place : goal.returns-clause-one_place
returns-clause-one_place g c = λ sign bytes o p s t n h k.
    let law = g.met.C.RunCodec in
    let same = one_place (g.C.RunCodec.is_run sign) (law.one sign) (law.some sign) bytes o p s t n h k in
    (same.offset, same.skip)

pub returns-clause-start : goal.returns-clause-start
returns-clause-start g c = λ sign. mark_start (g.C.RunCodec.is_run sign)

pub returns-clause-goes_on_alone : goal.returns-clause-goes_on_alone
returns-clause-goes_on_alone g c = λ sign a b offset skip. goes_on_alone (g.C.RunCodec.is_run sign) a b offset skip skip

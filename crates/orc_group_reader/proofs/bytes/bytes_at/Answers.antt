use Rattle.orc_group_reader.proofs.RunStarts.{runs_to}
use Rattle.std.proofs.Common.{drop, sym, subst}
use Rattle.orc_rle.specs.ByteRun.{IsByteRun}
use Rattle.orc_column_reader.specs.Bytes.{BytesLeft}
use Rattle.orc_column_reader.specs.declared.bytes.RunLengthBytes.{RunLengthBytes}
use Rattle.orc_column_reader.proofs.NumbersLemmas.{byte_laws}
use Rattle.orc_group_reader.proofs.SoughtRuns.{left_there, not_refused}
use Rattle.orc_group_reader.proofs.bytes.bytes_at.Goals as goal

pub returns-in-Ok-clause-enters : goal.returns-in-Ok-clause-enters
returns-in-Ok-clause-enters c = λ other all n b stream agree.
    subst (λ (r : RunLengthBytes). BytesLeft r (drop n all)) (sym c.behind.ensures)
    (left_there IsByteRun byte_laws.one byte_laws.some c.args.bytes.now other all c.seek.new.run.values c.args.pos.offset c.args.pos.skip n c.in-Ok.at b stream agree c.in-Ok.ensures.found)

pub returns-clause-enters : goal.returns-clause-enters
returns-clause-enters c = λ other all n b stream agree.
    not_refused IsByteRun byte_laws.one byte_laws.some c.args.bytes.now other all c.args.pos.offset c.args.pos.skip n b stream agree (λ at left s. let k = (c.in-Err.ensures.only at left s).0 in cc)

pub last_byte_start-start-requires : goal.last_byte_start-start-requires
last_byte_start-start-requires c = runs_to IsByteRun c.args.bytes.now c.args.pos.offset c.args.pos.skip c.args.pos.skip c.in-Ok.at c.seek.new.run.values c.in-Ok.ensures.found

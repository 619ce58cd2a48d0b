use Rattle.orc_group_reader.proofs.StreamsEntered.{bits_enter, bits_never}
use Rattle.orc_group_reader.proofs.entered.bits_from.Goals as goal

pub returns-in-Ok-clause-enters : goal.returns-in-Ok-clause-enters
returns-in-Ok-clause-enters c =
    bits_enter c.args.bytes.now c.args.positions.now c.in-Some.pos.offset c.in-Some.pos.skip c.in-Some.pos.bits c.in-Ok.found c.in-Some.ensures.found c.in-Ok.ensures.enters

pub returns-in-Err-clause-enters : goal.returns-in-Err-clause-enters
returns-in-Err-clause-enters c = bits_never c.args.bytes.now c.args.positions.now c.in-Some.pos.offset c.in-Some.pos.skip c.in-Some.pos.bits c.in-Some.ensures.found c.in-Err.ensures.enters

pub returns-in-Ok-clause-at : goal.returns-in-Ok-clause-at
returns-in-Ok-clause-at c = (c.in-Some.pos.offset, c.in-Some.pos.skip, c.in-Some.pos.bits, c.in-Some.ensures.found, c.in-Ok.ensures.at)

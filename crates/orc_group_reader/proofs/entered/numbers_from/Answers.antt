use Rattle.orc_group_reader.proofs.StreamsEntered.{numbers_enter, numbers_never}
use Rattle.orc_group_reader.proofs.entered.numbers_from.Goals as goal

pub returns-in-Ok-clause-enters : goal.returns-in-Ok-clause-enters
returns-in-Ok-clause-enters c =
    numbers_enter c.args.version c.args.sign c.args.bytes.now c.args.positions.now c.in-Some.pos.offset c.in-Some.pos.skip c.in-Ok.numbers c.in-Some.ensures.found c.in-Ok.ensures.enters

pub returns-in-Err-clause-enters : goal.returns-in-Err-clause-enters
returns-in-Err-clause-enters c =
    numbers_never c.args.version c.args.sign c.args.bytes.now c.args.positions.now c.in-Some.pos.offset c.in-Some.pos.skip c.in-Some.ensures.found c.in-Err.ensures.enters

pub returns-in-Ok-clause-at : goal.returns-in-Ok-clause-at
returns-in-Ok-clause-at c = (c.in-Some.pos.offset, c.in-Some.pos.skip, c.in-Some.ensures.found, c.in-Ok.ensures.at)

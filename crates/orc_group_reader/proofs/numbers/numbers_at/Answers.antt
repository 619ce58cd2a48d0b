use Rattle.orc_group_reader.proofs.RunStarts.{runs_to}
use Rattle.std.proofs.Common.{drop, sym, subst}
use Rattle.orc_column_reader.specs.Numbers.{is_run, NumbersLeft}
use Rattle.orc_column_reader.specs.declared.numbers.Numbers.{Numbers}
use Rattle.orc_column_reader.proofs.NumbersLemmas.{laws_of}
use Rattle.orc_group_reader.proofs.SoughtRuns.{left_there, not_refused}
use Rattle.orc_group_reader.proofs.numbers.numbers_at.Goals as goal

pub returns-in-Ok-clause-enters : goal.returns-in-Ok-clause-enters
returns-in-Ok-clause-enters c = λ other all n b stream agree.
    let law = laws_of c.args.version c.args.sign in
    subst (λ (r : Numbers). NumbersLeft r (drop n all)) (sym c.behind.ensures)
    (left_there (is_run c.args.version c.args.sign) law.one law.some c.args.bytes.now other all c.seek.new.run.values c.args.pos.offset c.args.pos.skip n c.in-Ok.at b stream agree c.in-Ok.ensures.found)

pub returns-clause-enters : goal.returns-clause-enters
returns-clause-enters c = λ other all n b stream agree.
    let law = laws_of c.args.version c.args.sign in
    not_refused (is_run c.args.version c.args.sign) law.one law.some c.args.bytes.now other all c.args.pos.offset c.args.pos.skip n b stream agree (λ at left s. let k = (c.in-Err.ensures.only at left s).0 in cc)

pub last_start-start-requires : goal.last_start-start-requires
last_start-start-requires c = runs_to (is_run c.args.version c.args.sign) c.args.bytes.now c.args.pos.offset c.args.pos.skip c.args.pos.skip c.in-Ok.at c.seek.new.run.values c.in-Ok.ensures.found

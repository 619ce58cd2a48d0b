use Rattle.orc_column_reader.specs.Numbers.{is_run}
use Rattle.orc_column_reader.proofs.NumbersLemmas.{err_none}
use Rattle.orc_column_reader.proofs.version.next_run.Goals as goal

pub returns-in-One-clause-none : goal.returns-in-One-clause-none
returns-in-One-clause-none c =
    err_none (is_run c.args.version c.args.sign) c.args.bytes.now c.next_run.result (λ front rest v is parts. (c.next_run.ensures.only front rest v (rw c.in-One.is at is) parts).0)

pub returns-in-Two-clause-none : goal.returns-in-Two-clause-none
returns-in-Two-clause-none c =
    err_none (is_run c.args.version c.args.sign) c.args.bytes.now c.next_run-in-Two.result (λ front rest v is parts. (c.next_run-in-Two.ensures.only front rest v (rw c.in-Two.is at is) parts).0)

use Rattle.orc_column_reader.proofs.marks.next_mark.Goals as goal

pub returns-in-Err-clause-fault : goal.returns-in-Err-clause-fault
returns-in-Err-clause-fault c = λ memory. let k = c.run_fault.ensures.fails memory in (c.in-Err.fault, k.0, k.1, rw c.in-Some.is c.in-Err.ensures.fault)

pub returns-in-Ok-clause-before : goal.returns-in-Ok-clause-before
returns-in-Ok-clause-before c = rw c.in-Some.is c.in-Ok.ensures.before

pub returns-in-Ok-clause-first : goal.returns-in-Ok-clause-first
returns-in-Ok-clause-first c = rw c.in-Some.is c.in-Ok.ensures.first

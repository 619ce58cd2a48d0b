use Rattle.orc_theorems.proofs.PlaceLemmas.{lines_from, ends_outside}
use Rattle.orc_theorems.proofs.printed_from_a_group.printing_from_the_middle.Goals as goal

pub returns-clause-lines : goal.returns-clause-lines
returns-clause-lines c = λ bytes tail rows stripe group lines is found. lines_from bytes tail rows is (c.start_laws.ensures bytes tail rows is found) stripe group lines

pub returns-clause-only : goal.returns-clause-only
returns-clause-only c = λ bytes tail rows stripe group old new fault is found. ends_outside bytes tail rows is (c.start_laws.ensures bytes tail rows is found) stripe group old new fault

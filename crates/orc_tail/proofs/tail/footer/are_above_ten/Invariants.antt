use Rattle.orc_tail.proofs.KeptLemmas.{Scanned}
use Rattle.orc_tail.proofs.tail.footer.are_above_ten.Given as goal

abbrev pub invariant-loop-next : goal.invariant-loop-next
invariant-loop-next l = Scanned l.kept l.next-iterator.rest.now l.next-iterator.place

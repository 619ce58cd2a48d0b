use Rattle.orc_tail.specs.Tails.{tail_tests}
use Rattle.orc_tail.proofs.Opened.{tail_within, tail_before}
use Rattle.orc_tail.proofs.ReadBits.{tail_bits}
use Rattle.orc_tail.proofs.TailCover.{tail_cover}
use Rattle.orc_tail.proofs.laws.tail_laws.Goals as goal

pub returns-clause-one : goal.returns-clause-one
returns-clause-one c = λ bytes. (tail_tests bytes).one

pub returns-clause-none : goal.returns-clause-none
returns-clause-none c = λ bytes. (tail_tests bytes).none

pub returns-clause-single : goal.returns-clause-single
returns-clause-single c = λ bytes. (tail_tests bytes).single

pub returns-clause-bits : goal.returns-clause-bits
returns-clause-bits c = λ bytes tail is. tail_bits bytes tail is

pub returns-clause-limits : goal.returns-clause-limits
returns-clause-limits c = tail_within

pub returns-clause-within : goal.returns-clause-within
returns-clause-within c = tail_before

pub returns-clause-cover : goal.returns-clause-cover
returns-clause-cover c = tail_cover

use Rattle.orc_bits.proofs.VarintLaws.{one_varint, no_varint, one_shortest, one_fault}
use Rattle.orc_bits.proofs.VarintLemmas.{varint_text-is}
use Rattle.orc_bits.proofs.VarintCover.{some_varint}
use Rattle.orc_bits.proofs.varint.varint_laws.Goals as goal

pub returns-clause-prefix : goal.returns-clause-prefix
returns-clause-prefix c = one_varint

pub returns-clause-written : goal.returns-clause-written
returns-clause-written c = varint_text-is

pub returns-clause-one_shortest : goal.returns-clause-one_shortest
returns-clause-one_shortest c = one_shortest

pub returns-clause-none : goal.returns-clause-none
returns-clause-none c = no_varint

pub returns-clause-one_fault : goal.returns-clause-one_fault
returns-clause-one_fault c = one_fault

pub returns-clause-cover : goal.returns-clause-cover
returns-clause-cover c = some_varint

use Rattle.orc_positions.proofs.BitPositionLemmas.{bits_alone, bit_seek_alone, bit_fails_alone, bits_sought, bits_go_on, one_bit_number, one_bit_place}
use Rattle.orc_positions.proofs.laws.bit_seek_laws.Goals as goal

pub returns-clause-sought : goal.returns-clause-sought
returns-clause-sought c = bits_sought

pub returns-clause-goes_on : goal.returns-clause-goes_on
returns-clause-goes_on c = bits_go_on

pub returns-clause-one_number : goal.returns-clause-one_number
returns-clause-one_number c = one_bit_number

pub returns-clause-one_place : goal.returns-clause-one_place
returns-clause-one_place c = λ bytes total o p s t k l n h g.
    let same = one_bit_place bytes total o p s t k l n h g in
    (same.0.offset, same.0.skip, same.1)

pub returns-clause-goes_on_alone : goal.returns-clause-goes_on_alone
returns-clause-goes_on_alone c = bits_alone

pub returns-clause-alone : goal.returns-clause-alone
returns-clause-alone c = bit_seek_alone

pub returns-clause-fails_alone : goal.returns-clause-fails_alone
returns-clause-fails_alone c = bit_fails_alone

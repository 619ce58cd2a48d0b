use Rattle.orc_bits.proofs.PackedLaws.{one_packed, one_packed_text}
use Rattle.orc_bits.proofs.packed_digits.packed_laws.Goals as goal

pub returns-clause-prefix : goal.returns-clause-prefix
returns-clause-prefix c w a b x y v u len p q e =
    let same = one_packed w a b x y v u len p q e in
    (same.front, same.values)

pub returns-clause-one_text : goal.returns-clause-one_text
returns-clause-one_text c = one_packed_text

use Rattle.orc_bits.proofs.PackedLemmas.{AllFit-take}
use Rattle.orc_column_tests.proofs.bits.packed.check_width.Goals as goal

pub check_packed-requires : goal.check_packed-requires
check_packed-requires g c = AllFit-take _ _ _ (rw c.digits.ensures.is at c.fill.ensures)

use Rattle.std.proofs.Common.{ap, inl, inr, refl, arith, length}
use Rattle.orc_wire.proofs.WholeLaws.{footer_kept}
use Rattle.orc_tail.proofs.tail.footer.footer_in.Goals as goal

pub from_types-requires : goal.from_types-requires
from_types-requires c = rw c.as_slice.ensures (footer_kept 0 c.args.text.now c.in-Ok.footer c.in-Ok.ensures.found).1

pub returns-then-as_slice-width-clause-fault : goal.returns-then-as_slice-width-clause-fault
returns-then-as_slice-width-clause-fault c =
    let listed = rw c.as_slice.ensures at c.in-Ok-from_types.ensures.found in
    inr (inr (c.in-Ok.footer, c.in-Ok.ensures.found, inr (c.if-not-are_above_ten.ensures.yes, inr (c.in-Ok-from_types.schema, listed, inl ((λ few. omega (arith, few, c.if-as_slice-width.true, c.width.ensures.same, ap length c.as_slice-2.ensures)), refl)))))

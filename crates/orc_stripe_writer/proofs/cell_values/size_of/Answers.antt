use Rattle.std.proofs.Common.{Some, sym, ap, ◌∙◌}
use Rattle.orc_values.specs.Own.{own_cell}
use Rattle.orc_values.specs.declared.own.Own.{Own}
use Rattle.orc_values.proofs.Childless.{elements_many, pairs_many}
use Rattle.orc_stripe_writer.specs.CellValues.{size_in}
use Rattle.orc_stripe_writer.proofs.cell_values.size_of.Goals as goal

pub returns-in-List : goal.returns-in-List
returns-in-List c = ap Some (sym (elements_many c.in-List.size)) ∙ sym (ap (λ (own : Own). size_in (own_cell own)) c.in-List.is)

pub returns-in-Map : goal.returns-in-Map
returns-in-Map c = ap Some (sym (pairs_many c.in-Map.size)) ∙ sym (ap (λ (own : Own). size_in (own_cell own)) c.in-Map.is)

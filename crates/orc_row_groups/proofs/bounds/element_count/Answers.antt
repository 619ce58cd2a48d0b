use Rattle.std.proofs.Common.{length, sym, ap, ◌∙◌}
use Rattle.orc_values.specs.Cells.{parts}
use Rattle.orc_values.specs.Own.{own_cell}
use Rattle.orc_values.specs.declared.own.Own.{Own}
use Rattle.orc_values.proofs.Childless.{list_size}
use Rattle.orc_row_groups.proofs.bounds.element_count.Goals as goal

pub returns-in-List : goal.returns-in-List
returns-in-List c = sym (ap (λ (own : Own). length (parts (own_cell own))) c.in-List.is ∙ list_size c.in-List.size)

use Rattle.std.proofs.Common.{length, sym, ap, ◌∙◌}
use Rattle.orc_values.specs.Cells.{pairs_in}
use Rattle.orc_values.specs.Own.{own_cell}
use Rattle.orc_values.specs.declared.own.Own.{Own}
use Rattle.orc_values.proofs.Childless.{map_size}
use Rattle.orc_row_groups.proofs.bounds.pair_count.Goals as goal

pub returns-in-Map : goal.returns-in-Map
returns-in-Map c = sym (ap (λ (own : Own). length (pairs_in (own_cell own))) c.in-Map.is ∙ map_size c.in-Map.size)

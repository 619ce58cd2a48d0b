use Rattle.std.proofs.Common.{◌≡◌, take, drop}
use Rattle.std.specs.List.{flat_map}
use Rattle.orc_values.specs.Cells.{parts}
use Rattle.orc_values.specs.Lent.{lent_cells}
use Rattle.orc_stripe_writer.proofs.below.fields_of.Given as goal

abbrev pub invariant-loop-row : goal.invariant-loop-row
invariant-loop-row l = lent_cells l.found.items ≡ flat_map (λ c. take 1 (drop l.place (parts c))) (lent_cells (take l.row-index l.structs))

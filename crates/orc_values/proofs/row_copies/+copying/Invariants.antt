use Rattle.std.proofs.Common.{◌≡◌, take, map}
use Rattle.orc_values.specs.Views.{views, paired}
use Rattle.orc_values.proofs.row_copies.+copying.Given as goal

abbrev pub invariant-owned_rows-loop-row : goal.invariant-owned_rows-loop-row
invariant-owned_rows-loop-row l = views l.copies.items ≡ views (take l.row-index l.row-items)

abbrev pub invariant-owned_pairs-loop-pair : goal.invariant-owned_pairs-loop-pair
invariant-owned_pairs-loop-pair l = map paired l.copies.items ≡ map paired (take l.pair-index l.pair-items)

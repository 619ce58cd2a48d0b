use Rattle.std.proofs.Common.{ℕ, ◌<◌, List, length}
use Rattle.orc_values.specs.Cells.{Cell}
use Rattle.orc_values.specs.Fits.{RowsFit}
use Rattle.orc_values.specs.Views.{shape}
use Rattle.orc_column_reader.specs.Stripe.{Streams}
use Rattle.orc_values.specs.Limits.{cell_limit}
use Rattle.orc_row_index_check.specs.Decided.{AreDecided}
use Rattle.orc_check.specs.Findings.{AddsFindings, IndexedColumn, OfEach, OfGroup}
use Rattle.orc_check.specs.Walking.{AreGroups}
use Rattle.orc_check.proofs.row_index.check_groups.Given as goal

-- the groups so far
abbrev pub invariant-loop-group : goal.invariant-loop-group
invariant-loop-group l =
    (streams : Streams) (cells : List Cell) (bounds : List ℕ) →
    let x : IndexedColumn = record { shape = shape l.tree; streams = streams; cells = cells; bounds = bounds; entries = l.entries } in
    RowsFit x.shape cells → length cells < cell_limit → AreGroups x.shape cells bounds l.groups → AreDecided x.shape streams cells bounds l.entries l.right
    → AddsFindings (OfEach (OfGroup x l.number l.column) l.group) l.initial.found.items l.found.items

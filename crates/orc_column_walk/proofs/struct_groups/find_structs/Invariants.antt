use Rattle.std.proofs.Common.{ℕ, List, replicate}
use Rattle.orc_values.specs.Cells.{Cell}
use Rattle.orc_values.specs.Childless.{childless_struct}
use Rattle.orc_values.specs.Shapes.{Fields, struct_of}
use Rattle.orc_column_walk.specs.Passed.{HavePassedValues, AreGroupsFound}
use Rattle.orc_column_walk.proofs.struct_groups.find_structs.Given as goal

abbrev pub invariant-loop-group : goal.invariant-loop-group
invariant-loop-group l =
    (cells : List Cell) (fields : Fields) (order : List ℕ) → HavePassedValues l.count l.bounds l.marked.before.items (replicate l.marked.values childless_struct) cells
    → AreGroupsFound (struct_of fields order) cells l.bounds l.group l.groups.items

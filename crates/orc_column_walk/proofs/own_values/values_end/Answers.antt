use Rattle.std.proofs.Common.{ap, ◌∙◌}
use Rattle.orc_values.specs.Views.{shape}
use Rattle.orc_values.proofs.Views.{shape-List, shape-Map}
use Rattle.orc_column_walk.proofs.NextLemmas.{list_end, map_end}
use Rattle.orc_column_walk.proofs.own_values.values_end.Goals as goal

pub returns-in-List : goal.returns-in-List
returns-in-List c =
    list_end (shape c.args.tree.now) (shape c.in-List.field-0.value) c.in-List.field-1.items c.args.source.now c.sizes_end.result (ap shape c.in-List.is ∙ shape-List c.in-List.field-0 c.in-List.field-1) c.sizes_end.ensures

pub returns-in-Map : goal.returns-in-Map
returns-in-Map c =
    map_end (shape c.args.tree.now) (shape c.in-Map.field-0.value) (shape c.in-Map.field-1.value) c.in-Map.field-2.items c.args.source.now c.sizes_end-in-Map.result (ap shape c.in-Map.is ∙ shape-Map c.in-Map.field-0 c.in-Map.field-1 c.in-Map.field-2) c.sizes_end-in-Map.ensures

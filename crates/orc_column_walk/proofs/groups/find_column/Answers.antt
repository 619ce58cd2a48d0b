use Rattle.std.proofs.Common.{ap, ◌∙◌}
use Rattle.orc_values.specs.Views.{shape, fields}
use Rattle.orc_values.proofs.Views.{shape-Struct}
use Rattle.orc_column_walk.proofs.StructLemmas.{struct_column}
use Rattle.orc_column_walk.proofs.groups.find_column.Goals as goal

pub returns-in-Struct-clause-found : goal.returns-in-Struct-clause-found
returns-in-Struct-clause-found c =
    struct_column (shape c.args.tree.now) (fields c.in-Struct.field-0.items) c.in-Struct.field-1.items c.args.source.now c.args.count c.args.bounds.now c.args.marked.values c.args.marked.before.items c.in_ok-find_structs.field-0
    (ap shape c.in-Struct.is ∙ shape-Struct c.in-Struct.field-0 c.in-Struct.field-1) c.in_ok-find_structs.ensures

pub returns : goal.returns
returns c =
    let e = c.find_values.ensures in
    let f = rw c.deref.ensures.value at e in
    record { found = f.found; none = f.none; fault = f.fault }

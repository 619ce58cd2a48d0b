use Rattle.std.proofs.Common.{sym, ap, ◌∙◌, subst}
use Rattle.orc_values.specs.Views.{shape, fields}
use Rattle.orc_values.proofs.Views.{shape-List, shape-Map, shape-Struct}
use Rattle.orc_column_reader.specs.ReaderFaults.{ValuesMeet}
use Rattle.orc_column_reader.proofs.Handed.{if_ok, if_err}
use Rattle.orc_column_walk.proofs.ValueLemmas.{lists_read, no_lists, maps_read, no_maps, structs_read}
use Rattle.orc_column_walk.proofs.values.read_values.Goals as goal

pub returns-in-List-clause-found : goal.returns-in-List-clause-found
returns-in-List-clause-found c =
    if_ok c.sum_sizes.result c.sum_sizes.ensures.found (λ elements given.
    lists_read (shape c.args.tree.now) (shape c.in-List.field-0.value) c.in-List.field-1.items c.args.source.now c.args.count elements (ap shape c.in-List.is ∙ shape-List c.in-List.field-0 c.in-List.field-1) given)

pub returns-in-List-clause-none : goal.returns-in-List-clause-none
returns-in-List-clause-none c =
    if_err c.sum_sizes.result c.sum_sizes.ensures.none (λ cause given memory.
    no_lists (shape c.args.tree.now) (shape c.in-List.field-0.value) c.in-List.field-1.items c.args.source.now c.args.count (ap shape c.in-List.is ∙ shape-List c.in-List.field-0 c.in-List.field-1) (given memory))

pub returns-in-List-clause-fault : goal.returns-in-List-clause-fault
returns-in-List-clause-fault c =
    if_err c.sum_sizes.result c.sum_sizes.ensures.fault (λ cause given memory.
    let h = given memory in
    (h.0, subst (λ s. ValuesMeet s c.args.source.now h.0 c.args.count cause) (sym (ap shape c.in-List.is ∙ shape-List c.in-List.field-0 c.in-List.field-1)) h.1))

pub returns-in-Map-clause-found : goal.returns-in-Map-clause-found
returns-in-Map-clause-found c =
    if_ok c.sum_sizes-in-Map.result c.sum_sizes-in-Map.ensures.found (λ pairs given.
    maps_read (shape c.args.tree.now) (shape c.in-Map.field-0.value) (shape c.in-Map.field-1.value) c.in-Map.field-2.items c.args.source.now c.args.count pairs
    (ap shape c.in-Map.is ∙ shape-Map c.in-Map.field-0 c.in-Map.field-1 c.in-Map.field-2) given)

pub returns-in-Map-clause-none : goal.returns-in-Map-clause-none
returns-in-Map-clause-none c =
    if_err c.sum_sizes-in-Map.result c.sum_sizes-in-Map.ensures.none (λ cause given memory.
    no_maps (shape c.args.tree.now) (shape c.in-Map.field-0.value) (shape c.in-Map.field-1.value) c.in-Map.field-2.items c.args.source.now c.args.count
    (ap shape c.in-Map.is ∙ shape-Map c.in-Map.field-0 c.in-Map.field-1 c.in-Map.field-2) (given memory))

pub returns-in-Map-clause-fault : goal.returns-in-Map-clause-fault
returns-in-Map-clause-fault c =
    if_err c.sum_sizes-in-Map.result c.sum_sizes-in-Map.ensures.fault (λ cause given memory.
    let h = given memory in
    (h.0, subst (λ s. ValuesMeet s c.args.source.now h.0 c.args.count cause) (sym (ap shape c.in-Map.is ∙ shape-Map c.in-Map.field-0 c.in-Map.field-1 c.in-Map.field-2)) h.1))

pub returns-in-Struct-clause-found : goal.returns-in-Struct-clause-found
returns-in-Struct-clause-found c =
    structs_read (shape c.args.tree.now) (fields c.in-Struct.field-0.items) c.in-Struct.field-1.items c.args.source.now c.args.count (ap shape c.in-Struct.is ∙ shape-Struct c.in-Struct.field-0 c.in-Struct.field-1)

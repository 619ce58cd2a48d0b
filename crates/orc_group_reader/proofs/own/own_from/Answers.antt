use Rattle.std.proofs.Common.{ℕ, List, Option, length, sym, ap, ◌∙◌, subst}
use Rattle.std.specs.declared.vec.Vec.{Vec}
use Rattle.std.specs.declared.alloc.Global.{Global}
use Rattle.orc_values.specs.Cells.{values}
use Rattle.orc_values.specs.Views.{shape}
use Rattle.orc_column_reader.specs.declared.entry.Entry.{Entry}
use Rattle.orc_row_index.specs.RunStreams.{RunStream, value_runs, kind_of_values}
use Rattle.orc_group_reader.specs.Columns.{CutsOctets, EntriesOf}
use Rattle.orc_group_reader.specs.ReadersAt.{StreamAt}
use Rattle.orc_group_reader.proofs.OwnLemmas.{at_own, own_never, entries_turned, dictionary_there}
use Rattle.orc_group_reader.proofs.OnlyMemory.{only_memory}
use Rattle.orc_group_reader.proofs.ValuesTurned.{values_turned}
use Rattle.orc_group_reader.proofs.Refused.{runs_refused}
use Rattle.orc_group_reader.proofs.own.own_from.Goals as goal

pub returns-in-Err-clause-left : goal.returns-in-Err-clause-left
returns-in-Err-clause-left c = λ x y before after last are turns e.
    let s = shape c.args.tree.now in
    let placed = c.placed_streams-placed.result in
    let at = at_own s x y placed before after c.args.positions.now c.in-Some.cut.rest.now c.in-Some.cut.positions.now last (c.placed_streams-placed.ensures y are) turns e c.in-Some.ensures.found in
    absurd (own_never s x y placed before after c.in-Some.cut.rest.now c.in-Some.cut.positions.now last turns at c.in-Err.ensures.enters)

pub returns-in-Ok-column_entries-clause-left : goal.returns-in-Ok-column_entries-clause-left
returns-in-Ok-column_entries-clause-left c = λ x y before after last are turns e.
    let s = shape c.args.tree.now in
    let placed = c.placed_streams-placed.result in
    let rest = c.in-Some.cut.rest.now in
    let at = at_own s x y placed before after c.args.positions.now rest c.in-Some.cut.positions.now last (c.placed_streams-placed.ensures y are) turns e c.in-Some.ensures.found in
    let left = c.in-Ok.ensures.enters (value_runs s x) (length (values before)) at.place at.agree in
    let has = entries_turned s x y c.in-Ok-column_entries.entries turns.encoded turns.dictionary_same (c.in-Ok-column_entries.ensures.found y are) in
    values_turned s x (values before) (values after) c.in-Ok.own c.source_from.result rest left c.source_from.ensures.source
    (subst (λ (es : Option (Vec Entry Global)). EntriesOf s x es) (sym c.source_from.ensures.entries) has) at.cut c.source_from.ensures.room turns.spelled

pub returns-clause-left : goal.returns-clause-left
returns-clause-left c = λ x y before after last are turns e.
    let s = shape c.args.tree.now in
    only_memory c.in-Err-column_entries.fault (λ other. dictionary_there s x y _ turns.encoded turns.dictionary_same turns.spelled (c.in-Err-column_entries.ensures.none other y are))

pub returns-in-Err-clause-fault : goal.returns-in-Err-clause-fault
returns-in-Err-clause-fault c = λ memory x are.
    let s = shape c.args.tree.now in
    runs_refused s x c.placed_streams-placed.result c.args.column c.args.positions.now c.in-Some.cut.rest.now c.in-Some.cut.positions.now c.values_kind-kind.result c.in-Err.fault c.entering_fault.result
    (c.placed_streams-placed.ensures x are) (c.values_kind-kind.ensures ∙ ap (kind_of_values s) are.dictionary_is) c.in-Some.ensures.found c.in-Err.ensures.fault c.entering_fault.ensures

pub returns-in-Ok-column_entries-clause-at : goal.returns-in-Ok-column_entries-clause-at
returns-in-Ok-column_entries-clause-at c = λ x are.
    let s = shape c.args.tree.now in
    let placed = c.placed_streams-placed.ensures x are in
    let cut = c.in-Some.cut in
    record {
      own = c.in-Ok.own;
      rest = cut.rest.now;
      last = cut.positions.now;
      cut = subst (λ (o : Option (List ℕ)). CutsOctets o c.args.positions.now cut.rest.now cut.positions.now) placed.content_is c.in-Some.ensures.found;
      entered = subst (λ (r : RunStream). StreamAt r cut.positions.now c.in-Ok.own) placed.own_is c.in-Ok.ensures.at;
      source_is = c.source_from.ensures.source;
      entries = subst (λ (es : Option (Vec Entry Global)). EntriesOf s x es) (sym c.source_from.ensures.entries) (c.in-Ok-column_entries.ensures.found x are);
      room = c.source_from.ensures.room;
      column = c.source_from.ensures.column;
    }

use Rattle.std.proofs.Common.{List, ℕ, map, refl, subst, sym, ap, ◌∙◌}
use Rattle.orc_values.specs.Views.{shape}
use Rattle.orc_column_reader.specs.Stripe.{columns_of}
use Rattle.orc_row_groups.specs.Bounds.{AreBounds, bound_at}
use Rattle.orc_column_walk.specs.declared.found.GroupFound.{GroupFound}
use Rattle.orc_stripe_reader.proofs.ColumnsDown.{read_by, below_grouped, counted_in, memory_in, read_leads}
use Rattle.orc_stripe_reader.proofs.groups.read_level.Goals as goal

pub read_groups-requires-clause-bounds : goal.read_groups-requires-clause-bounds
read_groups-requires-clause-bounds c = subst (λ (bs : List ℕ). AreBounds c.args.cells.now.count bs) (sym c.deref.ensures.value) c.requires.grouped.ascending

pub read_groups-requires-clause-first : goal.read_groups-requires-clause-first
read_groups-requires-clause-first c = ap (λ (bs : List ℕ). bound_at c.args.cells.now.count bs 0) c.deref.ensures.value ∙ c.requires.grouped.first

pub returns-in-Err-clause-refused : goal.returns-in-Err-clause-refused
returns-in-Err-clause-refused c =
    memory_in (columns_of c.args.footer.now c.args.located.now.bytes.now) c.args.column (shape c.args.tree.now) c.args.cells.now c.in-Err.fault c.in-Err.ensures.fault

pub returns-clause-counted : goal.returns-clause-counted
returns-clause-counted c =
    let x = columns_of c.args.footer.now c.args.located.now.bytes.now in
    let read = read_by x c.args.column (shape c.args.tree.now) c.args.cells.now c.deref.result.now c.in-Ok.read c.deref.ensures.value c.in-Ok.ensures.found in
    counted_in x c.args.column c.args.column (shape c.args.tree.now) c.args.cells.now c.in-Ok.read c.in_ok-counts.counts.items refl c.requires.grouped read (c.in_ok-counts.ensures ∙ ap (map (λ (group : GroupFound). group.before)) c.deref-2.ensures.value)

pub returns-clause-below : goal.returns-clause-below
returns-clause-below c =
    let x = columns_of c.args.footer.now c.args.located.now.bytes.now in
    read_leads x c.args.column (shape c.args.tree.now) c.args.cells.now c.in-Ok.read (read_by x c.args.column (shape c.args.tree.now) c.args.cells.now c.deref.result.now c.in-Ok.read c.deref.ensures.value c.in-Ok.ensures.found)

pub returns-clause-grouped : goal.returns-clause-grouped
returns-clause-grouped c =
    let x = columns_of c.args.footer.now c.args.located.now.bytes.now in
    below_grouped x c.args.column (shape c.args.tree.now) c.args.cells.now c.in-Ok.read c.requires.grouped (read_by x c.args.column (shape c.args.tree.now) c.args.cells.now c.deref.result.now c.in-Ok.read c.deref.ensures.value c.in-Ok.ensures.found) c.in-Ok.ensures.few

use Rattle.std.proofs.Common.{◌<◌, ◌∙◌, arith}
use Rattle.std.proofs.lemmas.Result.{err_from_is_err_and}
use Rattle.orc_values.specs.Shapes.{width}
use Rattle.orc_values.specs.Views.{shape}
use Rattle.orc_column_reader.specs.Stripe.{columns_of}
use Rattle.orc_values.proofs.Widths.{some_width}
use Rattle.orc_check.proofs.OwnCells.{own_groups}
use Rattle.orc_check.proofs.WalkLemmas.{columns_there, located_there, read_there, refused_there, below_of, below_grouped, found_here, column_more}
use Rattle.orc_check.proofs.columns.add_column.Goals as goal

pub read_groups-requires-clause-there : goal.read_groups-requires-clause-there
read_groups-requires-clause-there c = columns_there c.args.stripe.now c.footer.result.now c.args.column c.requires.laid_out c.footer.ensures.same (omega (arith, some_width (shape c.args.tree.now), c.requires.there))

pub read_groups-requires-clause-located : goal.read_groups-requires-clause-located
read_groups-requires-clause-located c = located_there c.args.stripe.now c.footer.result.now c.requires.laid_out c.footer.ensures.same

pub check_column-requires-clause-there : goal.check_column-requires-clause-there
check_column-requires-clause-there c = omega (arith, some_width (shape c.args.tree.now), c.requires.there)

pub check_column-requires-clause-own : goal.check_column-requires-clause-own
check_column-requires-clause-own c =
    let t = shape c.args.tree.now in
    let v = c.args.stripe.now.view.now in
    let b = c.group_bounds.result.now in
    own_groups t (columns_of v.footer v.bytes c.args.column) c.args.cells.now.count b c.in_ok-read.read c.group_bounds.ensures.bounds
    (read_there c.args.stripe.now c.footer.result.now c.args.column t c.args.cells.now.count b c.in_ok-read.read c.requires.laid_out c.footer.ensures.same c.in_ok-read.ensures.found)

pub returns-in_err-read-clause-fault : goal.returns-in_err-read-clause-fault
returns-in_err-read-clause-fault c =
    let p = err_from_is_err_and c.from_residual.result c.from_residual.ensures.1 in
    rw (p.1, p.2) (λ memory.
    refused_there c.args.stripe.now c.footer.result.now c.args.column (shape c.args.tree.now) c.args.cells.now.count c.in_err-read.field-0.0 c.requires.laid_out c.footer.ensures.same (c.in_err-read.ensures.fault memory))

pub returns-clause-found : goal.returns-clause-found
returns-clause-found c =
    let h = read_there c.args.stripe.now c.footer.result.now c.args.column (shape c.args.tree.now) c.args.cells.now.count c.group_bounds.result.now c.in_ok-read.read c.requires.laid_out c.footer.ensures.same c.in_ok-read.ensures.found in
    (h.0, h.1, c.in_ok-below.ensures.below.0 ∙ h.2.below_is)

pub returns-clause-grouped : goal.returns-clause-grouped
returns-clause-grouped c =
    let t = shape c.args.tree.now in
    let b = c.group_bounds.result.now in
    let h = read_there c.args.stripe.now c.footer.result.now c.args.column t c.args.cells.now.count b c.in_ok-read.read c.requires.laid_out c.footer.ensures.same c.in_ok-read.ensures.found in
    let few = c.in_ok-read.ensures.few in
    below_grouped t h.0 c.args.cells.now.count b c.in_ok-below.below c.group_bounds.ensures.bounds c.group_bounds.ensures.first h.1.counted (c.in_ok-below.ensures.below.0 ∙ h.2.below_is) (c.in_ok-below.ensures.below.1 ∙ h.2.bounds_are) (omega (arith, few, c.in_ok-below.ensures.below.0))

pub returns-clause-rows : goal.returns-clause-rows
returns-clause-rows c = λ rows here next.
    let t = shape c.args.tree.now in
    let v = c.args.stripe.now.view.now in
    let b = c.group_bounds.result.now in
    let h = read_there c.args.stripe.now c.footer.result.now c.args.column t c.args.cells.now.count b c.in_ok-read.read c.requires.laid_out c.footer.ensures.same c.in_ok-read.ensures.found in
    let there : c.args.column < width v.schema = omega (arith, some_width t, c.requires.there) in
    below_of v c.args.column t here c.args.cells.now c.in_ok-below.below b c.in_ok-read.read c.group_bounds.ensures.needed (found_here v rows c.args.column t here c.args.cells.now next h.0 b c.in_ok-read.read there h.1 h.2) c.in_ok-below.ensures.below.0 c.in_ok-below.ensures.below.1

pub returns-clause-checked : goal.returns-clause-checked
returns-clause-checked c = λ rows here before next so_far.
    let t = shape c.args.tree.now in
    let s = c.args.stripe.now in
    let b = c.group_bounds.result.now in
    let h = read_there s c.footer.result.now c.args.column t c.args.cells.now.count b c.in_ok-read.read c.requires.laid_out c.footer.ensures.same c.in_ok-read.ensures.found in
    let there : c.args.column < width s.view.now.schema = omega (arith, some_width t, c.requires.there) in
    column_more s.view.now s.told.now s.number rows c.args.column t here c.args.cells.now h.0 b c.in_ok-read.read before c.args.found.now.items c.check_column.new.found.items c.args.stats.now.items c.put_stat.new.stats.items c.requires.grouped there c.group_bounds.ensures.needed h.1 h.2
    c.in_ok-check_column.ensures c.in_ok-below.ensures.stat next so_far

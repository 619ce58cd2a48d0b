use Rattle.std.proofs.Common.{ℕ, List, sym, ap, subst, arith, length}
use Rattle.std.proofs.lemmas.Result.{err_from_is_err_and}
use Rattle.orc_values.specs.Shapes.{width}
use Rattle.orc_values.specs.Views.{shape}
use Rattle.orc_stats.specs.declared.stat.Stat.{Stat}
use Rattle.orc_check.specs.Checking.{HaveKnown}
use Rattle.orc_directory.specs.Located.{AreLocated}
use Rattle.orc_check.proofs.WalkLemmas.{all_found, all_refused, all_many}
use Rattle.orc_check.proofs.columns.check_columns.Goals as goal

pub check_tree-requires-clause-laid_out : goal.check_tree-requires-clause-laid_out
check_tree-requires-clause-laid_out c =
    let v = c.args.view.now in
    let located = c.in_ok-located.ensures in
    record {
      columns = located.columns;
      same = located.same;
      located = subst (λ (b : List ℕ). AreLocated (length v.footer.columns) v.footer.streams b c.in_ok-located.located.slices.items) (sym located.same) located.found;
      indexes = c.in_ok-texts.ensures;
    }

pub check_tree-requires-clause-there : goal.check_tree-requires-clause-there
check_tree-requires-clause-there c = let e = ap width c.tree.ensures in omega (arith, e)

pub check_tree-requires-clause-grouped : goal.check_tree-requires-clause-grouped
check_tree-requires-clause-grouped c =
    record { few = omega (arith, c.if-rows-gt-MOST_CELLS.false); ascending = c.in_ok-bounds.ensures.bounds; first = c.in_ok-bounds.ensures.first }

pub returns-clause-found : goal.returns-clause-found
returns-clause-found c =
    let v = c.args.view.now in
    let told = c.args.told.now in
    let n = c.number_of_rows-rows.result in
    let r = all_found v told c.args.number (shape c.tree.result.now) (record { count = n; bounds = c.in_ok-bounds.bounds }) c.args.found.now.items c.check_tree.new.found.items c.in_ok-stats.stats.items c.check_tree.new.stats.items c.footer.ensures.there c.tree.ensures
    c.number_of_rows-rows.ensures c.in_ok-bounds.ensures.needed c.in_ok-stats.ensures.items c.in_ok-check_tree.ensures.found c.in_ok-check_tree.ensures.checked in
    (r.0, r.1, r.2, subst (λ (xs : List Stat). HaveKnown v.schema told r.0 (width v.schema) xs) (sym c.from_vec.ensures) r.3)

pub returns-in_err-check_tree-clause-fault : goal.returns-in_err-check_tree-clause-fault
returns-in_err-check_tree-clause-fault c =
    let p = err_from_is_err_and c.from_residual-in_err-check_tree.result c.from_residual-in_err-check_tree.ensures.1 in
    rw (p.1, p.2) (λ memory.
    all_refused c.args.view.now (shape c.tree.result.now) c.number_of_rows-rows.result c.in_err-check_tree.field-0.0 c.tree.ensures c.number_of_rows-rows.ensures (c.in_err-check_tree.ensures.fault memory))

pub returns-then-rows-gt-MOST_CELLS-clause-fault : goal.returns-then-rows-gt-MOST_CELLS-clause-fault
returns-then-rows-gt-MOST_CELLS-clause-fault c = λ memory. all_many c.args.view.now c.number_of_rows-rows.result c.number_of_rows-rows.ensures (omega (arith, c.if-rows-gt-MOST_CELLS.true))

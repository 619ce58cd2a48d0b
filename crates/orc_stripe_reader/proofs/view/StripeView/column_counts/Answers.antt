use Rattle.std.proofs.Common.{◌≡◌, refl, ap, arith}
use Rattle.std.proofs.lemmas.Result.{IfOk-weaker}
use Rattle.orc_values.specs.Shapes.{width}
use Rattle.orc_values.specs.Views.{shape}
use Rattle.orc_directory.specs.declared.fault.StripeFault.TheVariants as fault
use Rattle.orc_stripe_reader.specs.ColumnGroups.{AreCountedOver}
use Rattle.orc_stripe_reader.specs.Opened.{Opened}
use Rattle.orc_stripe_reader.proofs.ColumnsDown.{rows_grouped, from_root}
use Rattle.orc_stripe_reader.proofs.IndexFaults.{err_by}
use Rattle.orc_stripe_reader.proofs.Opened.{footer_columns}
use Rattle.orc_stripe_reader.proofs.view.StripeView.column_counts.Goals as goal

pub count_column-requires-clause-there : goal.count_column-requires-clause-there
count_column-requires-clause-there c =
    let v = c.self.inside in
    omega (arith, footer_columns v.schema.now v.info v.bytes.now v.footer c.self.invariant, ap width c.tree-tree.ensures.same)

pub count_column-requires-clause-below : goal.count_column-requires-clause-below
count_column-requires-clause-below c =
    let there = rw (← c.self.view_is) at c.requires.there in
    omega (arith, there, ap width c.tree-tree.ensures.same)

pub count_column-requires-clause-located : goal.count_column-requires-clause-located
count_column-requires-clause-located c = rw (← c.self.view_is) at c.requires.located

pub count_column-requires-clause-grouped : goal.count_column-requires-clause-grouped
count_column-requires-clause-grouped c =
    let v = c.self.inside in
    let some = rw (← c.self.view_is) at c.requires.stride in
    let few = rw (← c.self.view_is) at c.requires.few in
    rows_grouped v.stride v.info.number_of_rows _ some few refl c.in_ok-bounds.ensures

pub returns-clause-found : goal.returns-clause-found
returns-clause-found c =
    let v = c.self.inside in
    let view : Opened = record { schema = v.schema.now; info = v.info; stride = v.stride; bytes = v.bytes.now; footer = v.footer } in
    let same = rw (← c.self.view_is) at c.requires.same in
    rw (← c.self.view_is) (IfOk-weaker c.count_column.result _ _ (λ counts h. from_root (AreCountedOver c.args.column counts.items) view c.args.located.now.bytes.now (shape c.tree-tree.result.now) _ same c.tree-tree.ensures.same refl c.in_ok-bounds.ensures h) c.count_column.ensures.found)

pub returns-clause-refused : goal.returns-clause-refused
returns-clause-refused c =
    let v = c.self.inside in
    let view : Opened = record { schema = v.schema.now; info = v.info; stride = v.stride; bytes = v.bytes.now; footer = v.footer } in
    let same = rw (← c.self.view_is) at c.requires.same in
    rw (← c.self.view_is) (err_by c.count_column.result (λ f h. from_root (λ s rows firsts. f ≡ fault.OutOfMemory) view c.args.located.now.bytes.now (shape c.tree-tree.result.now) _ same c.tree-tree.ensures.same refl c.in_ok-bounds.ensures h) c.count_column.ensures.refused)

use Rattle.std.proofs.Common.{List, ℕ, length, sym, ap, subst, arith}
use Rattle.orc_values.specs.Shapes.{width}
use Rattle.orc_directory.specs.Located.{AreLocated}
use Rattle.orc_stripe_reader.proofs.Opened.{footer_columns}
use Rattle.orc_stripe_reader.proofs.view.StripeView.walk.Goals as goal

pub walk_columns-requires-clause-there : goal.walk_columns-requires-clause-there
walk_columns-requires-clause-there c =
    let v = c.self.inside in
    omega (arith, footer_columns v.schema.now v.info v.bytes.now v.footer c.self.invariant, ap width c.tree-tree.ensures.same)

pub walk_columns-requires-clause-located : goal.walk_columns-requires-clause-located
walk_columns-requires-clause-located c =
    let v = c.self.inside in
    let found = rw (← c.self.view_is) at c.in_ok-located.ensures.found in
    let same = rw (← c.self.view_is) at c.in_ok-located.ensures.same in
    subst (λ (b : List ℕ). AreLocated (length v.footer.columns) v.footer.streams b c.in_ok-located.located.slices.items) (sym same) found

use Rattle.std.proofs.Common.{◌≡◌, ◌∙◌, ℕ, List, length, ap, sym, subst, arith}
use Rattle.std.proofs.lemmas.Result.{err_from_is_err_and}
use Rattle.orc_wire.specs.declared.stripe_footer.StripeFooter.{StripeFooter}
use Rattle.orc_values.specs.Shapes.{Shape, shape_at, width}
use Rattle.orc_values.specs.Views.{shape}
use Rattle.orc_directory.specs.Located.{AreLocated}
use Rattle.orc_column_reader.specs.Starting.{AreStreams}
use Rattle.orc_column_reader.specs.Stripe.{columns_of}
use Rattle.orc_row_index.specs.Walking.{ArePlaced}
use Rattle.orc_theorems.proofs.written_positions_calls.streams_placed.Goals as goal

pub returns-clause-placed : goal.returns-clause-placed
returns-clause-placed c =
    let v = c.args.view.now in
    let k = c.args.column in
    let found = c.streams_of-streams.result in
    let shapes : shape c.tree_at.result.now ≡ shape_at v.schema k = c.tree_at.ensures ∙ ap (λ (s : Shape). shape_at s k) c.tree.ensures in
    let streams : AreStreams (columns_of v.footer v.bytes k) found =
    subst (λ (f : StripeFooter). AreStreams (columns_of f v.bytes k) found) c.footer-footer.ensures.same
    (subst (λ (b : List ℕ). AreStreams (columns_of c.footer-footer.result.now b k) found) c.in_ok-located.ensures.same c.streams_of-streams.ensures) in
    subst (λ (s : Shape). ArePlaced s (columns_of v.footer v.bytes k) c.placed_streams.result) shapes (c.placed_streams.ensures (columns_of v.footer v.bytes k) streams)

pub streams_of-streams-requires-clause-there : goal.streams_of-streams-requires-clause-there
streams_of-streams-requires-clause-there c = omega (arith, c.if-column-as_slice.false, ap length c.as_slice.ensures)

pub streams_of-streams-requires-clause-located : goal.streams_of-streams-requires-clause-located
streams_of-streams-requires-clause-located c =
    let v = c.args.view.now in
    let slices = c.in_ok-located.located.slices.items in
    let whole : AreLocated (length v.footer.columns) v.footer.streams c.in_ok-located.located.bytes.now slices =
    subst (λ (b : List ℕ). AreLocated (length v.footer.columns) v.footer.streams b slices) (sym c.in_ok-located.ensures.same) c.in_ok-located.ensures.found in
    subst (λ (f : StripeFooter). AreLocated (length f.columns) f.streams c.in_ok-located.located.bytes.now slices) (sym c.footer-footer.ensures.same) whole

pub tree_at-requires-clause-there : goal.tree_at-requires-clause-there
tree_at-requires-clause-there c =
    omega (arith, c.if-column-as_slice.false, ap length c.as_slice.ensures, ap (λ (f : StripeFooter). length f.columns) c.footer-footer.ensures.same, c.in_ok-located.ensures.columns, ap width c.tree.ensures)

pub returns-in_err-located-clause-only : goal.returns-in_err-located-clause-only
returns-in_err-located-clause-only c = λ below.
    let p = err_from_is_err_and c.from_residual.result c.from_residual.ensures.1 in
    rw (p.1, p.2) c.in_err-located.ensures.refused

pub returns-then-column-as_slice-clause-only : goal.returns-then-column-as_slice-clause-only
returns-then-column-as_slice-clause-only c = λ below.
    absurd (omega (arith, below, c.if-column-as_slice.true, ap length c.as_slice.ensures, ap (λ (f : StripeFooter). length f.columns) c.footer-footer.ensures.same, c.in_ok-located.ensures.columns))

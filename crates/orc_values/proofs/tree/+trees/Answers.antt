use Rattle.std.proofs.Common.{◌≡◌, ◌-◌, ◌<◌, sym, ap, ◌∙◌, arith}
use Rattle.orc_values.specs.Shapes.{width, shape_at}
use Rattle.orc_values.specs.Views.{shape}
use Rattle.orc_values.proofs.ByColumn.{key_shape}
use Rattle.orc_values.proofs.tree.+trees.Goals as goal

pub tree_at-returns-then-column-width : goal.tree_at-returns-then-column-width
tree_at-returns-then-column-width t c =
    let w : c.width_of-width.result ≡ width (shape c.in-Map.key.value) = c.width_of-width.ensures ∙ ap (λ x. width (shape x)) c.deref-in-Map.ensures in
    let here : c.args.column - 1 < width (shape c.in-Map.key.value) = omega (arith, w, c.if-column-width.true) in
    c.tree_at-then-column-width.ensures ∙ ap (λ x. shape_at (shape x) (c.args.column - 1)) c.deref-then-column-width.ensures
    ∙ sym (key_shape c.args.tree.now c.in-Map.key c.in-Map.value c.in-Map.field-2 c.args.column c.in-Map.is c.if-column-eq0.false here)

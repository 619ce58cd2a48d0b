use Rattle.std.proofs.Common.{◌≡◌, sym, ap, ◌∙◌}
use Rattle.serde_json.specs.Data.{array}
use Rattle.serde_json.specs.View.{view as json_view, items_view}
use Rattle.serde_json.proofs.Views.{view-Array}
use Rattle.orc_json_rows.proofs.JsonFronts.{no_two, two_parts}
use Rattle.orc_json_rows.proofs.json_reading.two_of.Goals as goal

pub returns-then-items-ne2 : goal.returns-then-items-ne2
returns-then-items-ne2 c = λ x y h.
    let here : json_view c.args.json.now ≡ array (items_view c.in-Array.items.items) = ap json_view c.in-Array.is ∙ view-Array c.in-Array.items in
    no_two c.as_slice-items.result.now (λ e. c.if-items-ne2.true e) x y (ap (λ js. array (items_view js)) c.as_slice-items.ensures.value ∙ sym here ∙ h)

pub returns : goal.returns
returns c =
    let here : json_view c.args.json.now ≡ array (items_view c.in-Array.items.items) = ap json_view c.in-Array.is ∙ view-Array c.in-Array.items in
    here ∙ ap (λ js. array (items_view js)) (sym c.as_slice-items.ensures.value) ∙ two_parts c.as_slice-items.result.now c.index-items-0.result c.index-items-1.result c.if-items-ne2.false c.index-items-0.is c.index-items-1.is

use Rattle.std.proofs.Common.{◌++◌, ◌∷◌, codes, List, ℕ, ap, ◌∙◌, sym}
use Rattle.std.specs.Char.{is_control, digit_char}
use Rattle.orc_trees.specs.SchemaText.{char_text}
use Rattle.orc_trees.proofs.NameFronts.{if_none, escaped, not_escaped, no_first, no_second, no_control}
use Rattle.orc_trees.proofs.name_text.escaped_from.Goals as goal

pub returns-in-Some-clause-found : goal.returns-in-Some-clause-found
unfolding char_text
returns-in-Some-clause-found c = ap (λ (r : List ℕ). 92 ∷ r) c.in-Some.ensures

pub returns-in_err-digits-clause-none : goal.returns-in_err-digits-clause-none
returns-in_err-digits-clause-none c =
    if_none c.from_residual.result (not_escaped c.args.text.now (c.in_default.ensures) (λ d rest is h. c.in_err-digits.ensures _ h))

pub returns-in_err-high-clause-none : goal.returns-in_err-high-clause-none
returns-in_err-high-clause-none c =
    if_none c.from_residual-in_err-high.result (not_escaped c.args.text.now (c.in_default.ensures) (no_first c.args.text.now c.in_ok-digits.digits.now c.in_ok-digits.ensures (c.in_err-high.ensures.none)))

pub returns-in_err-low-clause-none : goal.returns-in_err-low-clause-none
returns-in_err-low-clause-none c =
    if_none c.from_residual-in_err-low.result (not_escaped c.args.text.now (c.in_default.ensures)
    (no_second c.args.text.now c.in_ok-high.last.now c.in_ok-high.high (c.in_ok-digits.ensures ∙ ap (λ (r : List ℕ). codes "u00" ++ r) c.in_ok-high.ensures.found) (c.in_err-low.ensures.none)))

pub returns-then-is_control-clause-found : goal.returns-then-is_control-clause-found
returns-then-is_control-clause-found c =
    let spelled = c.in_ok-digits.ensures ∙ ap (λ (r : List ℕ). codes "u00" ++ r) (c.in_ok-high.ensures.found ∙ ap (λ (r : List ℕ). digit_char c.in_ok-high.high ∷ r) c.in_ok-low.ensures.found) in
    rw c.from-c.ensures
    (escaped c.in_ok-high.high c.in_ok-low.low c.args.text.now c.in_ok-low.rest.now c.in_ok-high.ensures.below c.in_ok-low.ensures.below spelled (ap is_control (sym c.from-c.ensures) ∙ sym c.is_control.ensures ∙ c.if-is_control.true))

pub returns-else-is_control-clause-none : goal.returns-else-is_control-clause-none
returns-else-is_control-clause-none c =
    let spelled = c.in_ok-digits.ensures ∙ ap (λ (r : List ℕ). codes "u00" ++ r) (c.in_ok-high.ensures.found ∙ ap (λ (r : List ℕ). digit_char c.in_ok-high.high ∷ r) c.in_ok-low.ensures.found) in
    not_escaped c.args.text.now (c.in_default.ensures)
    (no_control c.args.text.now c.in_ok-low.rest.now c.in_ok-high.high c.in_ok-low.low c.in_ok-high.ensures.below c.in_ok-low.ensures.below spelled (ap is_control (sym c.from-c.ensures) ∙ sym c.is_control.ensures ∙ c.if-is_control.false))

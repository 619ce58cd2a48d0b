use Rattle.std.proofs.Common.{◌≡◌, ◌++◌, ◌⊎◌, inl, inr, true, false, ◌≢◌, length, List, ℕ, ap, ◌∙◌, sym}
use Rattle.std.specs.Char.{is_control, encode_utf8}
use Rattle.std.proofs.lemmas.Bool.{eq-eqb}
use Rattle.orc_trees.specs.SchemaText.{char_text}
use Rattle.orc_trees.proofs.NameFronts.{if_none, nothing, not_raw, stands_raw}
use Rattle.orc_trees.proofs.name_text.char_from.Goals as goal
use Rattle.orc_trees.proofs.name_text.char_from.Goals.{then-c-eq96, else-c-eq96}

pub returns-in-Some-clause-found : goal.returns-in-Some-clause-found
unfolding char_text
returns-in-Some-clause-found c = c.in-Some.ensures

pub returns-in_err-c-clause-none : goal.returns-in_err-c-clause-none
returns-in_err-c-clause-none c =
    if_none c.from_residual.result (nothing c.args.text.now (ap length (sym c.chars-chars.ensures.rest) ∙ c.in_err-c.ensures.steps.0.0))

pub returns-then-is_control-clause-none : goal.returns-then-is_control-clause-none
returns-then-is_control-clause-none c =
    let wrong : (c.in_ok-c.c ≡ 96) ⊎ (is_control c.in_ok-c.c ≡ true) =
    elim c.if-c-eq96.branch as (λ _. (c.in_ok-c.c ≡ 96) ⊎ (is_control c.in_ok-c.c ≡ true)) [
      | then-c-eq96 w ↦ inl w.if-c-eq96.true
      | else-c-eq96 w ↦ inr (sym w.is_control.ensures ∙ sym w.value-is ∙ c.if-is_control.true)
    ] in
    not_raw c.args.text.now c.next.new.self.rest.now c.in_ok-c.c (sym c.chars-chars.ensures.rest ∙ c.in_ok-c.ensures.steps.0) (c.in_default.ensures) (c.in_default-text_behind.ensures) wrong

pub returns-else-is_control-clause-found : goal.returns-else-is_control-clause-found
returns-else-is_control-clause-found c =
    let right : (c.in_ok-c.c ≢ 96) × (is_control c.in_ok-c.c ≡ false) =
    elim c.if-c-eq96.branch as (λ _. (c.in_ok-c.c ≢ 96) × (is_control c.in_ok-c.c ≡ false)) [
      | then-c-eq96 w ↦ (let no : true ≡ false = sym (eq-eqb c.in_ok-c.c 96 w.if-c-eq96.true) ∙ sym w.value-is ∙ c.if-is_control.false in cc)
      | else-c-eq96 w ↦ (w.if-c-eq96.false, sym w.is_control.ensures ∙ sym w.value-is ∙ c.if-is_control.false)
    ] in
    stands_raw c.args.text.now c.as_str.result.now c.in_ok-c.c (sym c.chars-chars.ensures.rest ∙ c.in_ok-c.ensures.steps.0 ∙ ap (λ (r : List ℕ). encode_utf8 c.in_ok-c.c ++ r) (sym c.as_str.ensures)) (c.in_default-text_behind.ensures) right.0 right.1

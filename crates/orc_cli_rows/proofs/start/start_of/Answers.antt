use Rattle.std.proofs.Common.{◌≡◌, ◌∙◌, ℕ, List, sym, subst, arith}
use Rattle.std.specs.Option.{IsSome}
use Rattle.orc_cli_output.specs.Numbers.{IsDecimalNumber}
use Rattle.orc_cli_rows.proofs.StartLemmas.{start_parts}
use Rattle.orc_cli_rows.proofs.start.start_of.Goals as goal

pub returns-in_err-stripe-clause-only : goal.returns-in_err-stripe-clause-only
returns-in_err-stripe-clause-only c = λ stripe group h.
    let none = c.in_err-stripe.ensures.byte (omega arith) (λ w o k. k) in
    let there = (start_parts c.args.text.now stripe group h).2 in
    absurd (omega (arith, none, there))

pub returns-in_err-number_of-clause-only : goal.returns-in_err-number_of-clause-only
returns-in_err-number_of-clause-only c = λ stripe group h.
    let cut = c.in_ok-stripe.ensures.byte (omega arith) (λ w o k. k) in
    let parts = start_parts c.args.text.now stripe group h in
    let same : c.in_ok-stripe.stripe.now ≡ h.before = cut.0 ∙ parts.0 in
    subst (λ r. IsSome r) (sym c.from_residual-in_err-number_of.ensures) (c.in_err-number_of.ensures.only stripe (subst (λ (d : List ℕ). IsDecimalNumber d stripe) (sym same) h.stripe_is))

pub returns-in_err-number_of-2-clause-only : goal.returns-in_err-number_of-2-clause-only
returns-in_err-number_of-2-clause-only c = λ stripe group h.
    let cut = c.in_ok-stripe.ensures.byte (omega arith) (λ w o k. k) in
    let parts = start_parts c.args.text.now stripe group h in
    let same : c.in_ok-stripe.group.now ≡ h.behind = cut.1 ∙ parts.1 in
    subst (λ r. IsSome r) (sym c.from_residual-in_err-number_of-2.ensures) (c.in_err-number_of-2.ensures.only group (subst (λ (d : List ℕ). IsDecimalNumber d group) (sym same) h.group_is))

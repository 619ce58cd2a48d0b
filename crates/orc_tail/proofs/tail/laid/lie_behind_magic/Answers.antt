use Rattle.std.proofs.Common.{sym, ◌∙◌}
use Rattle.orc_wire.specs.declared.stripe_info.StripeInfo.{StripeInfo}
use Rattle.orc_tail.specs.Stripes.{IsLaid}
use Rattle.orc_tail.proofs.StripeLemmas.{laid_next, laid_first, laid_rest}
use Rattle.orc_tail.proofs.tail.laid.lie_behind_magic.Goals as goal

abbrev none : StripeInfo
none = record { offset = 0; index_length = 0; data_length = 0; footer_length = 0; number_of_rows = 0 }

pub loop-stripe-preserved : goal.loop-stripe-preserved
loop-stripe-preserved c =
    let ss = c.args.stripes.now in let i = c.loop-stripe.stripe-index in let inv = c.loop-stripe.invariant in let lt = c.loop-stripe-test.true in
    let end = c.stripe_end-place.ensures in
    record {
      rest = laid_next ss i none lt c.loop-stripe.place c.stripe_end-place.result end (sym c.from.ensures ∙ c.if-from-place.false) (IsLaid 3 ss) inv.rest;
      back = λ h. laid_rest ss i none lt c.loop-stripe.place c.stripe_end-place.result end (inv.back h);
    }

pub returns-then-from-place-clause-no : goal.returns-then-from-place-clause-no
returns-then-from-place-clause-no c = λ h.
    let first = laid_first c.args.stripes.now c.loop-stripe.stripe-index none c.loop-stripe-test.true c.loop-stripe.place (c.loop-stripe.invariant.back h) in
    c.if-from-place.true (c.from.ensures ∙ first.0)

use Rattle.std.proofs.Common.{◌≡◌, ◌∙◌, Some, List, length, slice_get, refl, sym, ap}
use Rattle.std.proofs.lemmas.Option.{slice_get_read, slice_get_past}
use Rattle.orc_stats.specs.declared.stat.Stat.{Stat}
use Rattle.orc_skipping.specs.Tests.{predicate}
use Rattle.orc_check.specs.Findings.{stripe_told}
use Rattle.orc_theorems.proofs.KeptLemmas.{if_some_is, if_none_is, none_added}
use Rattle.orc_theorems.proofs.skipping_calls.keep_by_statistic.Goals as goal

pub returns-else-keeps-clause-kept : goal.returns-else-keeps-clause-kept
returns-else-keeps-clause-kept c =
    let stats = c.stats_of_stripe.result.now in
    let k = c.args.column in
    let x = c.in-Some.told.now in
    let at = c.in-Some.ensures.lookup in
    let there : slice_get (stripe_told c.args.tail.now c.args.stripe) k ≡ Some x = ap (λ (xs : List Stat). slice_get xs k) (sym c.stats_of_stripe.ensures) ∙ slice_get_read stats (length stats) k x refl at.3.0 at.1 in
    if_some_is (slice_get (stripe_told c.args.tail.now c.args.stripe) k) x _ there (none_added x (predicate c.args.test.now) c.args.stripe c.args.places.now.items (sym c.keeps.ensures ∙ c.if-keeps.false))

pub returns-in-None-clause-only : goal.returns-in-None-clause-only
returns-in-None-clause-only c =
    let stats = c.stats_of_stripe.result.now in
    let k = c.args.column in
    if_none_is (slice_get (stripe_told c.args.tail.now c.args.stripe) k) _ (ap (λ (xs : List Stat). slice_get xs k) (sym c.stats_of_stripe.ensures) ∙ slice_get_past stats k c.in-None.ensures.lookup.3)

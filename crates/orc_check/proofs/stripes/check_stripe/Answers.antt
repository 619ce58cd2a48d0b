use Rattle.std.proofs.Common.{subst, List, ℕ}
use Rattle.std.proofs.lemmas.Result.{err_from_is_err_and}
use Rattle.orc_tail.specs.Stripes.{stripe_at}
use Rattle.orc_check.proofs.CheckLemmas.{NoRows, stripe_read, stripe_named, no_view, no_columns}
use Rattle.orc_check.proofs.stripes.check_stripe.Goals as goal

pub returns-in_err-view-clause-fault : goal.returns-in_err-view-clause-fault
returns-in_err-view-clause-fault g c =
    let p = err_from_is_err_and c.from_residual-in_err-view.result c.from_residual-in_err-view.ensures.1 in
    let tail = c.args.tail.now in
    let n = c.args.number in
    let info = stripe_at tail.stripes n in
    rw (p.1, p.2) (stripe_read (g.S.Source.told c.args.source.now) tail.schema info n c.load_stripe.new.into.items c.in_err-view.field-0.0 c.in_ok-load_stripe.ensures.loaded.bytes
    (subst (λ (b : List ℕ). NoRows tail.schema info n b c.in_err-view.field-0.0) c.deref.ensures.value (no_view tail.schema info n c.deref.result.now c.in_err-view.field-0.0 c.in_err-view.ensures.only c.in_err-view.ensures.fault)))

pub returns-clause-fault : goal.returns-clause-fault
returns-clause-fault g c =
    let tail = c.args.tail.now in
    let n = c.args.number in
    let info = stripe_at tail.stripes n in
    let same = c.in_ok-view.ensures.same in
    stripe_read (g.S.Source.told c.args.source.now) tail.schema info n c.load_stripe.new.into.items c.stripe_fault.result c.in_ok-load_stripe.ensures.loaded.bytes
    (subst (λ (b : List ℕ). NoRows tail.schema info n b c.stripe_fault.result) c.deref.ensures.value
    (no_columns c.in_ok-view.view tail.schema info c.deref.result.now n c.in-Err.cause c.stripe_fault.result c.in_ok-view.ensures.found same.0 same.1 same.3 c.in-Err.ensures.fault c.stripe_fault.ensures))

pub returns-in_err-view-clause-named : goal.returns-in_err-view-clause-named
returns-in_err-view-clause-named g c =
    let p = err_from_is_err_and c.from_residual-in_err-view.result c.from_residual-in_err-view.ensures.1 in
    let tail = c.args.tail.now in
    let n = c.args.number in
    let info = stripe_at tail.stripes n in
    rw (p.1, p.2) (stripe_named tail.schema info n c.deref.result.now c.in_err-view.field-0.0 (no_view tail.schema info n c.deref.result.now c.in_err-view.field-0.0 c.in_err-view.ensures.only c.in_err-view.ensures.fault))

pub returns-clause-named : goal.returns-clause-named
returns-clause-named g c =
    let tail = c.args.tail.now in
    let n = c.args.number in
    let info = stripe_at tail.stripes n in
    let same = c.in_ok-view.ensures.same in
    stripe_named tail.schema info n c.deref.result.now c.stripe_fault.result
    (no_columns c.in_ok-view.view tail.schema info c.deref.result.now n c.in-Err.cause c.stripe_fault.result c.in_ok-view.ensures.found same.0 same.1 same.3 c.in-Err.ensures.fault c.stripe_fault.ensures)

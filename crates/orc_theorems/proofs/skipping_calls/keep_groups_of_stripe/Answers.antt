use Rattle.std.proofs.Common.{◌≡◌, ◌∙◌, ℕ, List, ap, sym, subst, inl, inr, arith}
use Rattle.std.proofs.lemmas.Result.{err_from_is_err_and}
use Rattle.orc_values.specs.Shapes.{width}
use Rattle.orc_skipping.specs.Tests.{predicate}
use Rattle.orc_stripe_reader.specs.Opened.{Opened}
use Rattle.orc_tail.specs.Stripes.{stripe_at, stripe_bytes}
use Rattle.orc_tail.specs.declared.tail.Tail.{Tail}
use Rattle.orc_directory.specs.declared.fault.StripeFault.TheVariants as cause_of
use Rattle.orc_file_reader.specs.FileRows.{opened_stripe}
use Rattle.orc_io.proofs.Told.{at_told}
use Rattle.orc_theorems.proofs.KeptLemmas.{view_is, footer_is, ViewKept, ViewOnly}
use Rattle.orc_theorems.proofs.skipping_calls.keep_groups_of_stripe.Goals as goal

pub returns-in_err-load-clause-only : goal.returns-in_err-load-clause-only
returns-in_err-load-clause-only g c =
    let p = err_from_is_err_and c.from_residual.result c.from_residual.ensures.1 in
    rw (p.1, p.2) (λ bytes footer message told some has index. c.in_err-load.ensures.uncapped c.requires.uncapped)

pub returns-in_err-view-clause-only : goal.returns-in_err-view-clause-only
returns-in_err-view-clause-only g c =
    let p = err_from_is_err_and c.from_residual-in_err-view.result c.from_residual-in_err-view.ensures.1 in
    rw (p.1, p.2) (λ bytes footer message told some has index.
    let tail = c.args.file.now.tail in
    let n = c.args.stripe in
    let own : c.load.new.into.items ≡ stripe_bytes (stripe_at tail.stripes n) bytes =
    at_told _ bytes (λ (b : List ℕ). c.load.new.into.items ≡ stripe_bytes (stripe_at tail.stripes n) b) told c.in_ok-load.ensures.loaded.bytes in
    let opened = c.load.new.self.tail in
    let lasts : opened ≡ tail = c.in_ok-load.ensures.tail in
    let place = c.deref.ensures.value ∙ own ∙ ap (λ (t : Tail). stripe_bytes (stripe_at t.stripes n) bytes) (sym lasts) in
    inl (c.in_err-view.ensures.only footer (footer_is bytes c.deref.result.now tail opened n footer lasts place has)))

pub returns-in-Ok-clause-kept : goal.returns-in-Ok-clause-kept
returns-in-Ok-clause-kept g c = λ bytes footer message told some has index few.
    let tail = c.args.file.now.tail in
    let n = c.args.stripe in
    let own : c.load.new.into.items ≡ stripe_bytes (stripe_at tail.stripes n) bytes =
    at_told _ bytes (λ (b : List ℕ). c.load.new.into.items ≡ stripe_bytes (stripe_at tail.stripes n) b) told c.in_ok-load.ensures.loaded.bytes in
    let opened = c.load.new.self.tail in
    let lasts : opened ≡ tail = c.in_ok-load.ensures.tail in
    let place = c.deref.ensures.value ∙ own ∙ ap (λ (t : Tail). stripe_bytes (stripe_at t.stripes n) bytes) (sym lasts) in
    let view = c.in_ok-view.view in
    let is : view ≡ opened_stripe tail n (stripe_bytes (stripe_at tail.stripes n) bytes) footer = view_is bytes c.deref.result.now tail opened n view footer lasts place c.in_ok-view.ensures.found c.in_ok-view.ensures.same has in
    subst (λ (v : Opened). ViewKept v c.args.column (predicate c.args.test.now) n c.args.places.now.items c.keep_by_index.new.places.items) is c.in-Ok.ensures.kept message some index few

pub returns-clause-only : goal.returns-clause-only
returns-clause-only g c = λ bytes footer message told some has index.
    let tail = c.args.file.now.tail in
    let n = c.args.stripe in
    let own : c.load.new.into.items ≡ stripe_bytes (stripe_at tail.stripes n) bytes =
    at_told _ bytes (λ (b : List ℕ). c.load.new.into.items ≡ stripe_bytes (stripe_at tail.stripes n) b) told c.in_ok-load.ensures.loaded.bytes in
    let opened = c.load.new.self.tail in
    let lasts : opened ≡ tail = c.in_ok-load.ensures.tail in
    let place = c.deref.ensures.value ∙ own ∙ ap (λ (t : Tail). stripe_bytes (stripe_at t.stripes n) bytes) (sym lasts) in
    let view = c.in_ok-view.view in
    let is : view ≡ opened_stripe tail n (stripe_bytes (stripe_at tail.stripes n) bytes) footer = view_is bytes c.deref.result.now tail opened n view footer lasts place c.in_ok-view.ensures.found c.in_ok-view.ensures.same has in
    let out : c.in-Err.cause ≡ cause_of.OutOfMemory = subst (λ (v : Opened). ViewOnly v c.args.column c.in-Err.cause) is c.in-Err.ensures.only message some index in
    elim c.stripe_fault.ensures [ inl h ↦ inl h.1 | inr h ↦ absurd (h.0 out) ]

pub keep_by_index-requires-clause-few : goal.keep_by_index-requires-clause-few
keep_by_index-requires-clause-few g c = omega (arith, c.requires.few, ap width c.in_ok-view.ensures.same.0, ap (λ (t : Tail). width t.schema) c.in_ok-load.ensures.tail)

pub keep_by_index-requires-clause-there : goal.keep_by_index-requires-clause-there
keep_by_index-requires-clause-there g c = omega (arith, c.requires.column, ap width c.in_ok-view.ensures.same.0, ap (λ (t : Tail). width t.schema) c.in_ok-load.ensures.tail)

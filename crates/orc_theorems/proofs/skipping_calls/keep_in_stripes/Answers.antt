use Rattle.std.proofs.Common.{◌≡◌, ◌∙◌, ℕ, [], length, sym, ap, subst, arith}
use Rattle.std.proofs.lemmas.Result.{err_from_is_err_and}
use Rattle.orc_skipping.specs.Tests.{predicate}
use Rattle.orc_tail.specs.declared.tail.Tail.{Tail}
use Rattle.orc_file_reader.specs.FileRows.{FileIs}
use Rattle.orc_check.specs.Findings.{Findings}
use Rattle.orc_theorems.specs.KeptGroups.{AreGroupsKept, AddsKept}
use Rattle.orc_theorems.proofs.KeptLemmas.{more_kept}
use Rattle.orc_theorems.proofs.skipping_calls.keep_in_stripes.Goals as goal

pub loop-stripe-preserved : goal.loop-stripe-preserved
loop-stripe-preserved g c =
    let inv = c.loop-stripe.invariant in
    let e = c.keep_in_stripe.ensures in
    let p = predicate c.args.test.now in
    record {
      tail = e.tail ∙ inv.tail;
      cap = e.cap ∙ inv.cap;
      told = e.told ∙ inv.told;
      kept = λ bytes rows told is found.
          let tail = c.args.file.now.tail in
          let added = c.in_ok-keep_in_stripe.ensures.kept bytes rows (inv.told ∙ told) (subst (λ (t : Tail). FileIs bytes t rows) (sym inv.tail) is) (subst (λ (t : Tail). Findings bytes t rows []) (sym inv.tail) found) in
          more_kept bytes tail c.args.column p c.loop-stripe.stripe c.loop-stripe.places.items c.keep_in_stripe.new.places.items (inv.kept bytes rows told is found)
          (subst (λ (t : Tail). AddsKept bytes t c.args.column p c.loop-stripe.stripe c.loop-stripe.places.items c.keep_in_stripe.new.places.items) inv.tail added);
    }

pub returns-in_err-keep_in_stripe-clause-only : goal.returns-in_err-keep_in_stripe-clause-only
returns-in_err-keep_in_stripe-clause-only g c =
    let q = err_from_is_err_and c.from_residual.result c.from_residual.ensures.1 in
    let inv = c.loop-stripe.invariant in
    rw (q.1, q.2) (λ bytes rows told is found below.
    c.in_err-keep_in_stripe.ensures.only bytes rows (inv.told ∙ told) (subst (λ (t : Tail). FileIs bytes t rows) (sym inv.tail) is) (subst (λ (t : Tail). Findings bytes t rows []) (sym inv.tail) found)
    (rw (← inv.tail) at below))

pub returns-clause-kept : goal.returns-clause-kept
returns-clause-kept g c = λ bytes rows told is found.
    let tail = c.args.file.now.tail in
    let long : length c.as_slice-stripe-end.result.now ≡ length tail.stripes = ap length (c.as_slice-stripe-end.ensures ∙ ap (λ (t : Tail). t.stripes) c.tail.ensures) in
    let end : c.loop-stripe.stripe ≡ length tail.stripes = omega (arith, c.loop-stripe-test.false, c.loop-stripe.auto.stripe-end, long) in
    subst (λ (n : ℕ). AreGroupsKept bytes tail c.args.column (predicate c.args.test.now) n c.loop-stripe.places.items) end (c.loop-stripe.invariant.kept bytes rows told is found)

use Rattle.std.proofs.Common.{◌≡◌, ◌∙◌, ◌+◌, ◌<◌, List, [], ◌∷◌, ◌++◌, length, sym, ap, subst, refl, arith}
use Rattle.std.proofs.lemmas.Result.{err_from_is_err_and}
use Rattle.orc_stats.specs.declared.stat.Stat.{Stat}
use Rattle.orc_check.specs.declared.finding.Finding.{Finding}
use Rattle.orc_file_reader.specs.Honest.{AreWhole}
use Rattle.orc_check.specs.Checking.{AreOwnStats}
use Rattle.orc_check.proofs.Checked.{AreChecked}
use Rattle.orc_check.proofs.CheckLemmas.{none_checked, none_told, more_checked, more_told, stripe_refused, stripes_named, file_found, are_own}
use Rattle.orc_check.proofs.checking.check_tail.Goals as goal

pub loop-number-init : goal.loop-number-init
loop-number-init g c = record {
  told = refl;
  size = refl;
  kept = refl;
  checked = (
    [],
    [],
    subst (λ (fs : List Finding). AreChecked c.args.tail.now 0 [] [] fs c.new-own.result.items) (sym c.new-found.ensures.items)
        (subst (λ (xs : List (List Stat)). AreChecked c.args.tail.now 0 [] [] [] xs) (sym c.new-own.ensures.items) (none_checked c.args.tail.now)),
    none_told (g.S.Source.told c.args.source.now) c.args.tail.now,
  );
}

pub loop-number-preserved : goal.loop-number-preserved
loop-number-preserved g c =
    let told = g.S.Source.told c.args.source.now in
    let tail = c.args.tail.now in
    let n = c.loop-number.number in
    let inv = c.loop-number.invariant in
    let e = c.check_stripe.ensures in
    let found = c.in_ok-stats.ensures.found in
    let bytes = c.check_stripe.new.bytes.items in
    let d = inv.checked in
    record {
      told = e.source.told ∙ inv.told;
      size = e.source.size ∙ inv.size;
      kept = c.in_ok-stats.ensures.source.kept ∙ inv.kept;
      checked = (
        d.0 ++ bytes ∷ [],
        d.1 ++ found.rows ∷ [],
        subst (λ (xs : List (List Stat)). AreChecked tail (n + 1) (d.0 ++ bytes ∷ []) (d.1 ++ found.rows ∷ []) c.check_stripe.new.found.items xs) (sym c.in_ok-push.ensures.items)
            (more_checked tail n d.0 d.1 c.loop-number.found.items c.check_stripe.new.found.items c.loop-number.own.items bytes c.in_ok-stats.stats d.2 found),
        more_told told tail n d.0 bytes d.2.texts_many d.3 (rw inv.told at c.in_ok-stats.ensures.bytes),
      );
    }

pub returns-in_err-stats-clause-fault : goal.returns-in_err-stats-clause-fault
returns-in_err-stats-clause-fault g c =
    let p = err_from_is_err_and c.from_residual.result c.from_residual.ensures.1 in
    let told = g.S.Source.told c.args.source.now in
    let tail = c.args.tail.now in
    let n = c.loop-number.number in
    let inv = c.loop-number.invariant in
    let d = inv.checked in
    let lt : n < length tail.stripes = omega (arith, c.loop-number-test.true, ap (λ (xs : List _). length xs) c.as_slice-number-end.ensures) in
    let fails = c.in_err-stats.ensures.fault in
    rw (p.1, p.2) (stripe_refused told tail n d.0 d.1 c.loop-number.found.items c.loop-number.own.items c.in_err-stats.field-0.0 lt d.2 d.3 (rw inv.told at fails))

pub returns-clause-found : goal.returns-clause-found
returns-clause-found g c =
    let told = g.S.Source.told c.args.source.now in
    let tail = c.args.tail.now in
    let n = c.loop-number.number in
    let d = c.loop-number.invariant.checked in
    let end : n ≡ length tail.stripes = omega (arith, c.loop-number-test.false, c.loop-number.auto.number-end, ap (λ (xs : List _). length xs) c.as_slice-number-end.ensures) in
    let limits = c.requires.limits in
    let few = limits.stripes in
    let own = are_own tail n d.0 d.1 c.loop-number.found.items c.loop-number.own.items (omega (arith, few, end)) d.2 in
    let told_of = tail.stripe_stats in
    let whole : AreWhole tail.schema told_of d.1 c.in_ok-whole.whole.items = c.in_ok-whole.ensures.1 told_of d.1 (subst (λ (xs : List (List Stat)). AreOwnStats tail.schema told_of d.1 xs) (sym c.deref.ensures.value) own) in
    file_found told tail n d.0 d.1 c.loop-number.found.items c.check_file.new.found.items c.loop-number.own.items end d.2 d.3
    (c.in_ok-check_file.ensures d.1 (subst (λ (xs : List Stat). AreWhole tail.schema told_of d.1 xs) (sym c.deref-2.ensures.value) whole))

pub returns-in_err-stats-clause-named : goal.returns-in_err-stats-clause-named
returns-in_err-stats-clause-named g c =
    let p = err_from_is_err_and c.from_residual.result c.from_residual.ensures.1 in
    let tail = c.args.tail.now in
    let n = c.loop-number.number in
    let lt : n < length tail.stripes = omega (arith, c.loop-number-test.true, ap (λ (xs : List _). length xs) c.as_slice-number-end.ensures) in
    rw (p.1, p.2) (stripes_named (length tail.stripes) n c.in_err-stats.field-0.0 lt c.in_err-stats.ensures.named)

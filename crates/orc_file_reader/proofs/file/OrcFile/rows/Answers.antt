use Rattle.std.proofs.Common.{◌≡◌, ◌∙◌, sym, ap, Err, arith}
use Rattle.std.proofs.lemmas.Result.{err_from_is_err_and}
use Rattle.orc_values.specs.Views.{views}
use Rattle.orc_file_reader.proofs.RowFronts.{front_next, front_found, front_only, front_fault, fault_only, within_next, within_all}
use Rattle.orc_file_reader.proofs.StripeCapLemmas.{within_at, none_above}
use Rattle.orc_tail.specs.declared.fault.FileFault.TheVariants.{Limit}
use Rattle.orc_file_reader.proofs.file.OrcFile.rows.Goals as goal

pub returns-in_err-read_stripe-clause-fault : goal.returns-in_err-read_stripe-clause-fault
returns-in_err-read_stripe-clause-fault g c =
    let p = err_from_is_err_and c.from_residual.result c.from_residual.ensures.1 in
    let told = g.S.Source.told c.args.self.now.source in
    let inv = c.loop-number.invariant in
    let end = c.as_slice-number-end.ensures in
    let lt = c.loop-number-test.true in
    let fails = c.in_err-read_stripe.ensures.fault in
    rw (p.1, p.2) (front_fault told c.args.self.now.cap c.args.self.now.tail c.loop-number.number (views c.loop-number.rows.items) c.in_err-read_stripe.field-0.0 (rw end at lt) inv.front (rw (inv.told, inv.tail, inv.cap) at fails))

pub returns-in_err-read_stripe-clause-only : goal.returns-in_err-read_stripe-clause-only
returns-in_err-read_stripe-clause-only g c =
    let p = err_from_is_err_and c.from_residual.result c.from_residual.ensures.1 in
    let told = g.S.Source.told c.args.self.now.source in
    let inv = c.loop-number.invariant in
    let end = c.as_slice-number-end.ensures in
    let lt = c.loop-number-test.true in
    let fails = c.in_err-read_stripe.ensures.fault in
    λ all. rw (p.1, p.2) (fault_only told c.args.self.now.cap c.args.self.now.tail c.in_err-read_stripe.field-0.0
    (front_fault told c.args.self.now.cap c.args.self.now.tail c.loop-number.number (views c.loop-number.rows.items) c.in_err-read_stripe.field-0.0 (rw end at lt) inv.front (rw (inv.told, inv.tail, inv.cap) at fails)) all)

pub loop-number-preserved : goal.loop-number-preserved
loop-number-preserved g c =
    let told = g.S.Source.told c.args.self.now.source in
    let inv = c.loop-number.invariant in
    let end = c.as_slice-number-end.ensures in
    let lt = c.loop-number-test.true in
    let found = c.in_ok-read_stripe.ensures.found in
    let e = c.read_stripe.ensures in
    let within = rw (inv.tail, inv.cap) at c.in_ok-read_stripe.ensures.within in
    record {
      tail = e.tail ∙ inv.tail;
      cap = e.cap ∙ inv.cap;
      within = within_next c.args.self.now.cap c.args.self.now.tail.stripes c.loop-number.number (rw end at lt) within inv.within;
      told = e.source.told ∙ inv.told;
      size = e.source.size ∙ inv.size;
      kept = c.in_ok-read_stripe.ensures.source.kept ∙ inv.kept;
      front = front_next told c.args.self.now.cap c.args.self.now.tail.schema c.args.self.now.tail.stripes c.loop-number.number (views c.loop-number.rows.items) (views c.read_stripe.new.rows.items) (rw end at lt) within inv.front (rw (inv.told, inv.tail) at found);
    }

pub returns-clause-found : goal.returns-clause-found
returns-clause-found g c =
    let told = g.S.Source.told c.args.self.now.source in
    let end = c.as_slice-number-end.ensures in
    let past = rw end at c.loop-number-test.false in
    let most = rw end at c.loop-number.auto.number-end in
    front_found told c.args.self.now.cap c.args.self.now.tail c.loop-number.number (views c.loop-number.rows.items) (omega (arith, past, most)) c.loop-number.invariant.front

pub returns-clause-only : goal.returns-clause-only
returns-clause-only g c =
    let told = g.S.Source.told c.args.self.now.source in
    let end = c.as_slice-number-end.ensures in
    let past = rw end at c.loop-number-test.false in
    let most = rw end at c.loop-number.auto.number-end in
    λ all. front_only told c.args.self.now.cap c.args.self.now.tail c.loop-number.number (views c.loop-number.rows.items) (omega (arith, past, most)) c.loop-number.invariant.front

pub returns-clause-within : goal.returns-clause-within
returns-clause-within g c =
    let end = c.as_slice-number-end.ensures in
    let past = rw end at c.loop-number-test.false in
    let most = rw end at c.loop-number.auto.number-end in
    within_all c.args.self.now.cap c.args.self.now.tail.stripes c.loop-number.number (omega (arith, past, most)) c.loop-number.invariant.within

pub returns-in_err-read_stripe-clause-limit : goal.returns-in_err-read_stripe-clause-limit
returns-in_err-read_stripe-clause-limit g c = λ is all.
    let p = err_from_is_err_and c.from_residual.result c.from_residual.ensures.1 in
    let same = sym p.1 ∙ is in
    let why : p.0 ≡ Limit = cc in
    let inv = c.loop-number.invariant in
    let end = c.as_slice-number-end.ensures in
    let lt = c.loop-number-test.true in
    let above = rw (inv.tail, inv.cap) at (c.in_err-read_stripe.ensures.limit (ap Err (sym p.2 ∙ why))) in
    omega (arith, above, within_at c.args.self.now.cap c.args.self.now.tail.stripes c.loop-number.number (rw end at lt) all)

pub returns-clause-uncapped : goal.returns-clause-uncapped
returns-clause-uncapped g c = λ none. none_above c.args.self.now.cap c.args.self.now.tail.stripes none c.args.self.now.bytes

pub returns-in_err-read_stripe-clause-uncapped : goal.returns-in_err-read_stripe-clause-uncapped
returns-in_err-read_stripe-clause-uncapped g c = λ none. none_above c.args.self.now.cap c.args.self.now.tail.stripes none c.args.self.now.bytes

pub returns-in_err-read_stripe-clause-named : goal.returns-in_err-read_stripe-clause-named
returns-in_err-read_stripe-clause-named g c =
    let p = err_from_is_err_and c.from_residual.result c.from_residual.ensures.1 in
    let inv = c.loop-number.invariant in
    let e = rw (inv.tail, inv.cap) at c.in_err-read_stripe.ensures.named in
    rw (p.1, p.2) e

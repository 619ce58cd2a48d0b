use Rattle.std.proofs.Common.{◌≤◌, arith, get_or}
use Rattle.orc_wire.specs.declared.stripe_info.StripeInfo.{StripeInfo}
use Rattle.orc_tail.specs.declared.fault.FileFault.{FileFault}
use Rattle.orc_tail.specs.Stripes.{stripe_tests}
use Rattle.orc_tail.proofs.StripeLemmas.{pass_next, fail_next, rows_next, bytes_next}
use Rattle.orc_tail.proofs.tail.limits.stripes_in.Goals as goal

pub loop-i-preserved : goal.loop-i-preserved
loop-i-preserved c =
    let ss = c.args.stripes.now in let i = c.loop-i.i in let before = c.args.before in let inv = c.loop-i.invariant in
    let d : StripeInfo = record { offset = 0; index_length = 0; data_length = 0; footer_length = 0; number_of_rows = 0 } in
    let s = get_or ss i d in
    let lt = c.loop-i-test.true in
    let high : c.stripe_end-end.result ≤ before = omega (arith, c.if-end-from.false, c.from.ensures) in
    let bytes = bytes_next ss i d lt c.loop-i.bytes _ inv.bytes_are in
    let end = c.stripe_end-end.ensures in
    record {
      pass = pass_next ss i d lt c.loop-i.from c.stripe_end-end.result before end c.if-stripe-from.false high c.if-stripe-gt-MOST_STRIPE_ROWS.false ((stripe_tests 0 3 before ss).finds tt) inv.pass;
      fail = fail_next ss i d lt c.loop-i.from c.stripe_end-end.result before end c.if-stripe-from.false high c.if-stripe-gt-MOST_STRIPE_ROWS.false (λ (f : FileFault). (stripe_tests 0 3 before ss).fails f) inv.fail;
      rows_are = rows_next ss i d lt c.loop-i.rows _ inv.rows_are;
      bytes_are = omega (arith, bytes, end);
      few_rows = omega (arith, inv.few_rows, c.if-stripe-gt-MOST_STRIPE_ROWS.false);
      few_bytes = omega (arith, inv.few_bytes, c.if-stripe-from.false, end);
    }

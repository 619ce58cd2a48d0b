use Rattle.std.proofs.Common.{◌^◌, ◌<◌, ◌≤◌, length, ◌∙◌, arith}
use Rattle.std.proofs.Math.Nat.{pow-le-pow_right}
use Rattle.orc_bits.proofs.PackedLemmas.{pull, pull_below, top_below, cut_at}
use Rattle.orc_bits.proofs.packed_digits.Reader.next.Goals as goal

pub loop-have-preserved : goal.loop-have-preserved
loop-have-preserved c =
    let there = rw c.loop-have.invariant.same at c.loop-have.invariant.there in
    let e = rw c.loop-have.invariant.same at c.from.ensures in
    let small : c.from.result < 256 = omega arith in
    let lt : c.loop-have.self.at < length c.args.self.now.bytes.now = omega (arith, there) in
    record {
      same = c.loop-have.invariant.same;
      below = pull_below _ _ _ c.loop-have.invariant.below small;
      few = omega arith;
      there = omega (arith, c.loop-have.invariant.there);
      used = omega arith;
      rest = c.loop-have.invariant.rest ∙ (rw e (pull _ _ _ _ lt (rw e at small)));
    }

pub overflow_cast-number-2 : goal.overflow_cast-number-2
overflow_cast-number-2 c =
    let top = top_below c.loop-have.held c.loop-have.have c.args.width c.loop-have.invariant.below c.loop-have-test.false in
    let most : 2 ^ c.args.width ≤ 2 ^ 64 = pow-le-pow_right (omega arith) c.requires.most in
    record { fits = omega (arith, top, most) }

pub returns-clause-digits : goal.returns-clause-digits
returns-clause-digits c =
    c.loop-have.invariant.rest ∙ cut_at c.loop-have.held c.loop-have.have c.args.width _ c.loop-have-test.false (omega arith)

pub returns-clause-fits : goal.returns-clause-fits
returns-clause-fits c = top_below c.loop-have.held c.loop-have.have c.args.width c.loop-have.invariant.below c.loop-have-test.false

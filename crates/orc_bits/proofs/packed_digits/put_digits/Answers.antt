use Rattle.std.proofs.Common.{◌<◌, ◌-◌, arith, refl, length, length-set, append_assoc}
use Rattle.std.proofs.lemmas.Nat.{shl_whole}
use Rattle.orc_bits.proofs.PackedLemmas.{join_below, emit, byte_below, masked_below, bits-append, fit_more}
use Rattle.orc_bits.proofs.packed_digits.put_digits.Goals as goal

pub loop-left-init : goal.loop-left-init
loop-left-init c =
    let p = shl_whole c.args.held c.args.have c.args.width 128 c.requires.below (omega arith) in
    record {
      few = omega arith;
      below = rw (c.from.ensures, c.from-2.ensures, p) (join_below c.args.held c.args.have c.args.number c.args.width c.requires.below c.requires.fits);
      room = omega (arith, c.requires.room);
      used = omega arith;
      small = λ h. h;
      so_far = rw (c.from.ensures, c.from-2.ensures, p, bits-append c.args.held c.args.number c.args.have c.args.width c.requires.fits, ← append_assoc) refl;
    }

pub overflow_cast-out-in-loop-left : goal.overflow_cast-out-in-loop-left
overflow_cast-out-in-loop-left c = record { fits = byte_below c.loop-left.rest c.loop-left.left c.loop-left.invariant.below c.loop-left-test.true }

pub loop-left-preserved : goal.loop-left-preserved
loop-left-preserved c =
    let lt : c.loop-left.at < length c.loop-left.out = omega (arith, c.loop-left.invariant.room) in
    record {
      few = omega (arith, c.loop-left.invariant.few);
      below = masked_below c.loop-left.rest (c.loop-left.left - 8) 128 (omega (arith, c.loop-left.invariant.few));
      room = simp length-set (omega (arith, c.loop-left.invariant.room));
      used = omega (arith, c.loop-left.invariant.used);
      small = λ h. fit_more 8 c.loop-left.at _ c.loop-left.out lt (c.loop-left.invariant.small h) (byte_below c.loop-left.rest c.loop-left.left c.loop-left.invariant.below c.loop-left-test.true);
      so_far = emit c.loop-left.out c.loop-left.at c.loop-left.rest c.loop-left.left _ lt c.loop-left-test.true (omega (arith, c.loop-left.invariant.few)) c.loop-left.invariant.so_far;
    }

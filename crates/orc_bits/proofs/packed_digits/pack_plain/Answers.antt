use Rattle.std.proofs.Common.{◌-◌, arith, refl}
use Rattle.orc_bits.specs.Packed.{bits, digits}
use Rattle.std.proofs.lemmas.Nat.{shl_whole}
use Rattle.orc_bits.proofs.PackedLemmas.{pack_more, packed_even, packed_odd}
use Rattle.orc_bits.proofs.packed_digits.pack_plain.Goals as goal

pub loop-value-preserved : goal.loop-value-preserved
loop-value-preserved c = record {
  few = c.put_digits-place.ensures.few;
  below = c.put_digits-place.ensures.below;
  used = omega (arith, c.put_digits-place.ensures.used, c.loop-value.invariant.used);
  small = c.put_digits-place.ensures.small c.loop-value.invariant.small;
  so_far = pack_more c.args.width c.loop-value.value-index c.args.values.now _ _ c.loop-value-test.true c.loop-value.invariant.so_far c.put_digits-place.ensures.digits;
}

pub loop-value-init : goal.loop-value-init
unfolding bits digits
loop-value-init c = record { few = omega arith; below = omega arith; used = omega arith; small = tt; so_far = refl }

pub returns-then-have-gt0 : goal.returns-then-have-gt0
returns-then-have-gt0 c =
    rw (shl_whole c.loop-value.held c.loop-value.have (8 - c.loop-value.have) 8 c.loop-value.invariant.below (omega (arith, c.loop-value.invariant.few))) (packed_odd c.args.width c.loop-value.value-index c.loop-value.at c.loop-value.held c.loop-value.have c.args.values.now c.loop-value.out c.loop-value.invariant.small c.requires.fit (omega (arith, c.requires.len)) (omega arith) (omega arith)
    c.loop-value.invariant.used c.if-have-gt0.true c.loop-value.invariant.few c.loop-value.invariant.below c.loop-value.invariant.so_far)

pub returns-else-have-gt0 : goal.returns-else-have-gt0
returns-else-have-gt0 c =
    packed_even c.args.width c.loop-value.value-index c.loop-value.at c.loop-value.held c.loop-value.have c.args.values.now c.loop-value.out c.loop-value.invariant.small c.requires.fit (omega (arith, c.requires.len)) (omega arith) (omega arith)
    c.loop-value.invariant.used (omega arith) c.loop-value.invariant.so_far

use Rattle.std.proofs.Common.{◌≡◌, ℕ, List, ◌+◌, ◌<◌, ◌≤◌, arith, refl, sym, subst, take, take_all, get_or}
use Rattle.std.specs.List.{AllByRecursion}
use Rattle.orc_bits.specs.declared.fault.BitFault.TheVariants.{Short, TooLong}
use Rattle.orc_bits.specs.Varint.{GoesOn}
use Rattle.orc_bits.proofs.VarintLemmas.{ends, last_fits, tenth_fits, scale_small}
use Rattle.orc_bits.proofs.VarintLaws.{found_only, fault_only}
use Rattle.orc_bits.proofs.varint.read_varint.Goals as goal

pub returns-then-byte-lt128-clause-found : goal.returns-then-byte-lt128-clause-found
returns-then-byte-lt128-clause-found c =
    let lt : c.loop-i.i ≤ 8 = omega arith in
    let fits = last_fits c.loop-i.value c.loop-i.scale _ c.loop-i.i c.loop-i.invariant.below c.loop-i.invariant.scale_is lt c.if-byte-lt128.true in
    rw c.from-then-byte-lt128.ensures (ends c.args.bytes.now c.loop-i.i _ c.loop-i.value c.loop-i.scale (omega arith) refl (omega arith) c.if-byte-lt128.true fits c.loop-i.invariant.goes_on c.loop-i.invariant.so_far)

pub overflow_mul-scale : goal.overflow_mul-scale
overflow_mul-scale c =
    let small = scale_small c.loop-i.i (omega arith) in omega (arith, small)

pub returns-then-byte-gt1-clause-only : goal.returns-then-byte-gt1-clause-only
returns-then-byte-gt1-clause-only c =
    let bytes = c.args.bytes.now in
    let nine = c.if-i.true in
    let goes_on = subst (λ (k : ℕ). AllByRecursion GoesOn (take k bytes)) nine c.loop-i.invariant.goes_on in
    let above = subst (λ (k : ℕ). 1 < get_or bytes k 0) nine c.if-byte-gt1.true in
    fault_only bytes TooLong (goes_on, omega arith, above)

pub returns-then-i-clause-only : goal.returns-then-i-clause-only
returns-then-i-clause-only c =
    let fits = tenth_fits c.loop-i.value c.loop-i.scale c.from.result c.loop-i.i c.loop-i.invariant.below c.loop-i.invariant.scale_is c.if-i.true (omega arith) in
    found_only c.args.bytes.now (c.loop-i.i + 1) _ (omega arith) (ends c.args.bytes.now c.loop-i.i c.from.result c.loop-i.value c.loop-i.scale c.loop-i-test.true (sym c.from.ensures) (omega arith) (omega arith) fits c.loop-i.invariant.goes_on c.loop-i.invariant.so_far)

pub returns-then-byte-lt128-clause-only : goal.returns-then-byte-lt128-clause-only
returns-then-byte-lt128-clause-only c =
    let lt : c.loop-i.i ≤ 8 = omega arith in
    let byte = c.from-then-byte-lt128.result in
    let small : byte < 128 = omega arith in
    let fits = last_fits c.loop-i.value c.loop-i.scale byte c.loop-i.i c.loop-i.invariant.below c.loop-i.invariant.scale_is lt small in
    found_only c.args.bytes.now (c.loop-i.i + 1) _ (omega arith) (ends c.args.bytes.now c.loop-i.i byte c.loop-i.value c.loop-i.scale c.loop-i-test.true (sym c.from-then-byte-lt128.ensures) (omega arith) small fits c.loop-i.invariant.goes_on c.loop-i.invariant.so_far)

pub returns-clause-only : goal.returns-clause-only
returns-clause-only c =
    let bytes = c.args.bytes.now in
    let whole : take c.loop-i.i bytes ≡ bytes = take_all c.loop-i.i bytes c.loop-i-test.false in
    fault_only bytes Short (omega arith, subst (λ (t : List ℕ). AllByRecursion GoesOn t) whole c.loop-i.invariant.goes_on)

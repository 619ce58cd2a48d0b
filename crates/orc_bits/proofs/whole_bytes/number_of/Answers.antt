use Rattle.std.proofs.Common.{◌≡◌, ◌+◌, ◌*◌, ◌^◌, ◌<◌, ◌≤◌, ◌++◌, take, get_or, refl, sym, ap, ◌∙◌, arith}
use Rattle.std.proofs.Math.Nat.{pow-le-pow_right}
use Rattle.std.proofs.lemmas.List.{take_more}
use Rattle.orc_bits.specs.Packed.{bits, digits}
use Rattle.orc_bits.proofs.PackedLemmas.{pull_below, bits-append, digits-push}
use Rattle.orc_bits.proofs.whole_bytes.number_of.Goals as goal

pub loop-byte-init : goal.loop-byte-init
unfolding bits digits
loop-byte-init c = record { fits = omega arith; digits = refl }

pub overflow_mul-number : goal.overflow_mul-number
overflow_mul-number c =
    let i = c.loop-byte.byte-index in
    let most : 2 ^ (8 * i) ≤ 2 ^ 56 = (let w : 8 * i ≤ 56 = omega (arith, c.loop-byte-test.true, c.requires) in pow-le-pow_right (omega arith) w) in
    record { fits = omega (arith, c.loop-byte.invariant.fits, most) }

pub overflow_add-number : goal.overflow_add-number
overflow_add-number c =
    let i = c.loop-byte.byte-index in
    let most : 2 ^ (8 * i) ≤ 2 ^ 56 = (let w : 8 * i ≤ 56 = omega (arith, c.loop-byte-test.true, c.requires) in pow-le-pow_right (omega arith) w) in
    let small : c.from.result < 256 = omega (arith, c.from.ensures, (c.type_inv.bytes i).fits) in
    record { fits = omega (arith, c.loop-byte.invariant.fits, most, small) }

pub loop-byte-preserved : goal.loop-byte-preserved
loop-byte-preserved c =
    let i = c.loop-byte.byte-index in
    let bytes = c.args.bytes.now in
    let e : 8 * (i + 1) ≡ 8 * i + 8 = omega arith in
    let small : c.from.result < 256 = omega (arith, c.from.ensures, (c.type_inv.bytes i).fits) in
    record {
      fits = rw e (pull_below c.loop-byte.number (8 * i) c.from.result c.loop-byte.invariant.fits small);
      digits = rw e (bits-append c.loop-byte.number c.from.result (8 * i) 8 small
          ∙ ap (λ t. t ++ bits c.from.result 8) c.loop-byte.invariant.digits
          ∙ ap (λ b. digits 8 (take i bytes) ++ bits b 8) c.from.ensures
          ∙ sym (ap (digits 8) (take_more bytes i 0 c.loop-byte-test.true) ∙ digits-push 8 (take i bytes) (get_or bytes i 0)));
    }

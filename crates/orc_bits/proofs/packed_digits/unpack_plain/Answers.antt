use Rattle.std.proofs.Common.{◌≡◌, ◌<◌, ◌≤◌, arith, refl, length, ap, ◌∙◌}
use Rattle.orc_bits.specs.Packed.{bits, digits, packed_len}
use Rattle.orc_bits.proofs.PackedLemmas.{room, so_far_more, fit_more, all_read, AllFit-bytes}
use Rattle.orc_bits.proofs.packed_digits.unpack_plain.Goals as goal

pub next-requires-clause-there : goal.next-requires-clause-there
next-requires-clause-there c =
    let le : packed_len c.args.width (length c.args.out.now) ≤ length c.loop-place.reader.bytes.now = rw c.loop-place.invariant.same c.requires.there in
    let lt : c.loop-place.place-index < length c.args.out.now = omega arith in
    room c.args.width (length c.args.out.now) c.loop-place.place-index c.loop-place.reader.at c.loop-place.reader.have _ (length c.loop-place.reader.bytes.now) lt refl le c.loop-place.invariant.used

pub loop-place-preserved : goal.loop-place-preserved
loop-place-preserved c =
    let lt : c.loop-place.place-index < length c.loop-place.out = omega arith in
    let step = rw c.loop-place.invariant.same at c.next.ensures.digits in
    record {
      same = ap (λ b. b.now) c.next.ensures.same ∙ c.loop-place.invariant.same;
      used = omega (arith, c.next.ensures.used, c.loop-place.invariant.used);
      fit = fit_more _ _ _ _ lt c.loop-place.invariant.fit c.next.ensures.fits;
      so_far = so_far_more _ _ _ _ _ _ _ _ _ _ _ lt c.loop-place.invariant.so_far step;
    }

pub loop-place-init : goal.loop-place-init
unfolding bits digits
loop-place-init c = record { same = refl; used = omega arith; fit = tt; so_far = refl }

pub returns : goal.returns
returns c =
    let same : length c.args.out.now ≡ length c.loop-place.out = omega arith in
    all_read c.args.width _ c.loop-place.reader.at c.loop-place.reader.held c.loop-place.reader.have c.loop-place.place-index c.loop-place.out c.args.bytes.now
    (AllFit-bytes c.args.bytes.now (λ i. (c.type_inv.bytes i).fits)) (omega arith) c.loop-place.invariant.fit (ap (packed_len c.args.width) same) c.requires.there c.loop-place.invariant.used c.loop-place.reader.few (omega arith) c.loop-place.invariant.so_far

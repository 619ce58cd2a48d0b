use Rattle.std.proofs.Common.{◌≡◌, ◌-◌, ◌*◌, ◌/◌, ◌%◌, ◌^◌, ◌<◌, ◌≤◌, length, length-set, take, refl, sym, ap, ◌∙◌, subst, arith}
use Rattle.std.proofs.lemmas.List.{take_all, append-nil}
use Rattle.orc_bits.specs.Packed.{bits, digits, AllFit}
use Rattle.orc_bits.proofs.PackedLemmas.{fit_more}
use Rattle.orc_bits.proofs.WholeLemmas.{byte_more}
use Rattle.orc_bits.proofs.whole_bytes.put_number.Goals as goal

pub loop-place-init : goal.loop-place-init
unfolding bits digits
loop-place-init c = record { left = omega arith; small = tt; so_far = refl }

pub loop-place-preserved : goal.loop-place-preserved
loop-place-preserved c =
    let inv = c.loop-place.invariant in
    let out = c.loop-place.out in
    let i = c.loop-place.place-index in
    let lt : i < length out = omega arith in
    let least : 8 ≤ c.loop-place.left = omega (arith, inv.left, lt) in
    record {
      left = omega (arith, inv.left, least, length-set out i (c.args.number / 2 ^ (c.loop-place.left - 8) % 256));
      small = fit_more 8 i _ out lt inv.small (omega arith);
      so_far = byte_more c.args.number c.loop-place.left i out lt least inv.so_far;
    }

pub returns : goal.returns
unfolding digits
returns c =
    let inv = c.loop-place.invariant in
    let out = c.loop-place.out in
    let all : take c.loop-place.place-index out ≡ out = take_all c.loop-place.place-index out (omega arith) in
    let same : c.loop-place.place-index ≡ length c.args.out.now = omega arith in
    let none : c.loop-place.left ≡ 0 = omega (arith, inv.left, same) in
    let one : c.args.number / 1 ≡ c.args.number = omega arith in (
      subst (AllFit 8) all inv.small,
      ap (digits 8) (sym all) ∙ inv.so_far ∙ (rw (none, same, one, append-nil (bits c.args.number (8 * length c.args.out.now))) refl),
    )

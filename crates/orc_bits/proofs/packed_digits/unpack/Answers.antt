use Rattle.std.proofs.Common.{◌≡◌, ◌∙◌, sym, arith, length, drop}
use Rattle.std.proofs.lemmas.List.{take-append-drop}
use Rattle.orc_bits.specs.Width.{width_at}
use Rattle.orc_bits.specs.Packed.{IsPacked}
use Rattle.orc_bits.proofs.PackedLaws.{one_packed}
use Rattle.orc_bits.proofs.packed_digits.unpack.Goals as goal

pub returns-clause-only : goal.returns-clause-only
returns-clause-only c front rest values is count e =
    let found : IsPacked _ (width_at c.args.width.code) c.unpack_there.new.out = rw c.digits-digits.ensures.is at c.unpack_there.ensures in
    let many : length c.unpack_there.new.out ≡ length values = omega (arith, c.requires, count) in
    let same = one_packed _ _ front (drop _ c.args.bytes.now) rest c.unpack_there.new.out values many found is (take-append-drop _ c.args.bytes.now ∙ e) in
    let len : c.least_len-len.result ≡ length front = c.least_len-len.ensures ∙ (rw (c.digits-digits.ensures.is, ← count) (sym is.len)) in
    (cc, same.values)

use Rattle.std.proofs.Common.{◌≡◌, ◌*◌, ◌<◌, length, refl, ◌∙◌, ap, arith}
use Rattle.orc_bits.specs.Packed.{digits}
use Rattle.orc_bits.proofs.PackedLemmas.{fit_more}
use Rattle.orc_bits.proofs.WholeLemmas.{whole_fits, whole_more}
use Rattle.orc_bits.proofs.whole_bytes.unpack_whole.Goals as goal

pub loop-i-init : goal.loop-i-init
unfolding digits
loop-i-init c = let e : c.args.size * 0 ≡ 0 = omega arith in record { fit = tt; so_far = rw e refl }

pub loop-i-preserved : goal.loop-i-preserved
loop-i-preserved c =
    let i = c.loop-i.i in
    let lt : i < length c.loop-i.out = omega (arith, c.loop-i-test.true, c.loop-i.auto.out) in
    let there : c.args.size * length c.loop-i.out ≡ length c.args.bytes.now = ap (λ n. c.args.size * n) c.loop-i.auto.out ∙ c.requires.there in
    record {
      fit = fit_more _ i c.number_of.result c.loop-i.out lt c.loop-i.invariant.fit (whole_fits c.args.size i (length c.loop-i.out) c.number_of.result c.args.bytes.now lt there c.number_of.ensures.fits);
      so_far = whole_more c.args.size i c.number_of.result c.loop-i.out c.args.bytes.now lt there c.number_of.ensures.digits c.loop-i.invariant.so_far;
    }

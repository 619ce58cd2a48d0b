use Rattle.std.proofs.Common.{◌≡◌, ◌*◌, length, take, subst, arith, ◌∙◌, sym, ap}
use Rattle.orc_bits.proofs.PackedLemmas.{AllFit-bytes}
use Rattle.orc_bits.proofs.WholeLemmas.{whole_packed}
use Rattle.orc_bits.specs.Packed.{IsPacked, packed_len}
use Rattle.orc_bits.proofs.whole_bytes.unpack_sized.Goals as goal

pub returns : goal.returns
returns c =
    let out = c.unpack_whole.new.out in
    let same : length out ≡ length c.args.out.now = omega arith in
    subst (λ n. IsPacked (take (packed_len (8 * c.args.size) n) c.args.bytes.now) (8 * c.args.size) out) same (whole_packed c.args.size c.args.bytes.now c.split_at.result.0.now c.split_at.result.1.now out
    (AllFit-bytes c.args.bytes.now (λ i. (c.type_inv.bytes i).fits)) c.split_at.ensures.by_index.0 (c.split_at.ensures.front_len ∙ ap (λ n. c.args.size * n) (sym same)) c.unpack_whole.ensures)

use Rattle.std.proofs.Common.{◌≡◌, ◌+◌, ◌++◌, length, length-append, arith}
use Rattle.orc_bits.specs.Packed.{AllFit}
use Rattle.orc_bits.proofs.PackedLemmas.{AllFit-bytes, AllFit-back}
use Rattle.orc_bits.proofs.SpellsLemmas.{join}
use Rattle.orc_bits.proofs.packed_digits.unpack_there.Goals as goal

pub returns : goal.returns
returns c =
    let w = c.args.width in
    let behind = c.split_at.result.1.now in
    let first = c.unpack_by_chunks.new.out in
    let second = c.unpack_by_bytes.new.out in
    let last = c.unpack_plain-2.new.out in
    let left = length c.split_at_mut-first.result.1.now in
    let small = AllFit-bytes c.args.bytes.now (λ i. (c.type_inv.bytes i).fits) in
    let small_behind : AllFit 8 behind = AllFit-back 8 c.split_at.result.0.now behind (rw c.split_at.ensures.by_index.0 at small) in
    let both : length second + length last ≡ left = omega arith in
    let same : left ≡ length (second ++ last) = omega (arith, both, length-append second last) in
    let total : length first + length (second ++ last) ≡ length c.args.out.now = omega (arith, same) in
    let last_len : length c.split_at_mut-second.result.1.now ≡ length last = omega arith in
    join w _ left c.args.bytes.now c.split_at.result.0.now behind first (second ++ last) small c.split_at.ensures.by_index.0 total same c.unpack_by_chunks.ensures
    (join w left (length c.split_at_mut-second.result.1.now) behind c.split_at-2.result.0.now c.split_at-2.result.1.now second last small_behind c.split_at-2.ensures.by_index.0 both last_len c.unpack_by_bytes.ensures c.unpack_plain-2.ensures)

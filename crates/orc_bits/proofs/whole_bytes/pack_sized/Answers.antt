use Rattle.std.proofs.Common.{◌≡◌, ◌+◌, ◌*◌, ◌≤◌, ◌∷◌, [], length, take, arith, get_or}
use Rattle.std.proofs.lemmas.Nat.{mul-le}
use Rattle.std.proofs.lemmas.List.{take_more, take_all}
use Rattle.orc_bits.specs.Packed.{SpellsPacked}
use Rattle.orc_bits.proofs.SpellsLemmas.{Spells-more, Spells-none}
use Rattle.orc_bits.proofs.WholeLemmas.{whole_len, spells_text}
use Rattle.orc_bits.proofs.whole_bytes.pack_sized.Goals as goal

pub loop-i-init : goal.loop-i-init
loop-i-init c = Spells-none (8 * c.args.size) 8 c.args.size c.args.out.now

pub loop-i-preserved : goal.loop-i-preserved
loop-i-preserved c =
    let i = c.loop-i.i in
    let size = c.args.size in
    let text = c.put_number.new.out in
    let most : size * (i + 1) ≤ size * length c.args.values.now = mul-le size (i + 1) size (length c.args.values.now) (omega arith) (omega arith) in
    let there : size * i ≤ length c.loop-i.out = omega (arith, most, c.requires.len) in
    let all : size * length c.args.values.now ≡ length c.loop-i.out = omega (arith, c.requires.len) in
    let len : length text ≡ size = omega (arith, most, c.requires.len) in
    let one : SpellsPacked (8 * size) (get_or c.args.values.now i 0 ∷ []) 8 text = rw (whole_len size i (length c.args.values.now) c.loop-i.out c.loop-i-test.true all) at c.put_number.ensures in
    Spells-more (8 * size) 8 (size * i) _ (size * (i + 1)) _ _ _ c.loop-i.out text there (omega (arith, len)) (take_more c.args.values.now i 0 c.loop-i-test.true) c.loop-i.invariant one

pub returns : goal.returns
returns c =
    let n = length c.args.values.now in
    let values : take c.loop-i.i c.args.values.now ≡ c.args.values.now = take_all c.loop-i.i c.args.values.now (omega arith) in
    let same : c.loop-i.i ≡ n = omega arith in
    let out : take (c.args.size * c.loop-i.i) c.loop-i.out ≡ c.loop-i.out = take_all (c.args.size * c.loop-i.i) c.loop-i.out (rw same (omega (arith, c.requires.len))) in
    spells_text (8 * c.args.size) c.args.values.now c.loop-i.out c.requires.fit (omega (arith, c.requires.len)) (rw (values, out) at c.loop-i.invariant)

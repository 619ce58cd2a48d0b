use Rattle.std.proofs.Common.{◌≡◌, ◌+◌, ◌*◌, ◌≤◌, ◌++◌, ℕ, length, take, ap, ◌∙◌, arith}
use Rattle.std.proofs.lemmas.Nat.{mul-le}
use Rattle.std.proofs.Math.Seq.{take-add}
use lib.Lanes.{chunk}
use Rattle.orc_bits.proofs.PackedLemmas.{AllFit-bytes, AllFit-drop, AllFit-take}
use Rattle.orc_bits.proofs.SpellsLemmas.{Spells-more, Spells-none}
use Rattle.orc_bits.proofs.lanes.unpack_by_chunks.Goals as goal

pub loop-i-init : goal.loop-i-init
loop-i-init c = Spells-none 8 c.args.width c.args.count c.args.out.now

pub put_numbers-requires-clause-fit : goal.put_numbers-requires-clause-fit
put_numbers-requires-clause-fit c =
    AllFit-take 8 8 _ (AllFit-drop 8 _ c.args.bytes.now (AllFit-bytes c.args.bytes.now (λ i. (c.type_inv.bytes i).fits)))

pub loop-i-preserved : goal.loop-i-preserved
loop-i-preserved c =
    let i = c.loop-i.i in
    let le : c.args.count * (i + 1) ≤ c.args.count * c.args.chunks = mul-le c.args.count (i + 1) c.args.count c.args.chunks (omega arith) (omega arith) in
    let there : c.args.count * i ≤ length c.loop-i.out = omega (arith, le) in
    let end : c.args.count * (i + 1) ≡ c.args.count * i + length c.put_numbers.new.out = omega arith in
    let more : take (8 * (i + 1)) c.args.bytes.now ≡ take (8 * i) c.args.bytes.now ++ chunk (8 * i) 8 c.args.bytes.now = ap (λ (n : ℕ). take n c.args.bytes.now) (omega arith) ∙ take-add (8 * i) 8 c.args.bytes.now in
    Spells-more 8 c.args.width (c.args.count * i) _ _ _ _ _ c.loop-i.out c.put_numbers.new.out there end more c.loop-i.invariant c.put_numbers.ensures

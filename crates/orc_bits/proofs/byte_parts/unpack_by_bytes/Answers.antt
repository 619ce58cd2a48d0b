use Rattle.std.proofs.Common.{◌≡◌, ◌+◌, ◌*◌, ◌≤◌, length, arith}
use Rattle.std.proofs.lemmas.Nat.{mul-le}
use Rattle.std.proofs.lemmas.List.{take_more}
use Rattle.orc_bits.proofs.SpellsLemmas.{Spells-more, Spells-none}
use Rattle.orc_bits.proofs.byte_parts.unpack_by_bytes.Goals as goal

pub loop-i-init : goal.loop-i-init
loop-i-init c = Spells-none 8 c.args.width c.args.count c.args.out.now

pub loop-i-preserved : goal.loop-i-preserved
loop-i-preserved c =
    let le : c.args.count * (c.loop-i.i + 1) ≤ c.args.count * length c.args.bytes.now = mul-le c.args.count (c.loop-i.i + 1) c.args.count (length c.args.bytes.now) (omega arith) (omega arith) in
    let there : c.args.count * c.loop-i.i ≤ length c.loop-i.out = omega (arith, le) in
    let end : c.args.count * (c.loop-i.i + 1) ≡ c.args.count * c.loop-i.i + length c.put_numbers.new.out = omega arith in
    Spells-more 8 c.args.width (c.args.count * c.loop-i.i) _ _ _ _ _ c.loop-i.out c.put_numbers.new.out there end (take_more c.args.bytes.now c.loop-i.i 0 (omega arith)) c.loop-i.invariant (rw c.from.ensures at c.put_numbers.ensures)

use Rattle.std.proofs.Common.{refl, get_or}
use Rattle.orc_json_printer.proofs.Escapes.{plain_both, plain_end}
use Rattle.orc_json_printer.proofs.quoted.is_plain.Goals as goal

pub loop-byte-preserved : goal.loop-byte-preserved
loop-byte-preserved c =
    let i = c.loop-byte.byte-index in
    plain_both c.loop-byte.plain c.is_plain_byte-plain.result c.args.bytes.now i (get_or c.args.bytes.now i 0) c.loop-byte-test.true refl c.loop-byte.invariant c.is_plain_byte-plain.ensures

pub returns : goal.returns
returns c = plain_end c.loop-byte.plain c.args.bytes.now c.loop-byte.byte-index c.loop-byte-test.false c.loop-byte.invariant

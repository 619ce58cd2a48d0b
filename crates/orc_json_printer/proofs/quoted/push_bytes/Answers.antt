use Rattle.std.proofs.Common.{◌+◌, drop, get_or, refl}
use Rattle.json.specs.Print.{escape, escape_byte}
use Rattle.orc_json_printer.proofs.Escapes.{escape_next}
use Rattle.orc_json_printer.proofs.Outputs.{up_to_is, up_to_next}
use Rattle.orc_json_printer.proofs.quoted.push_bytes.Goals as goal

pub loop-byte-preserved : goal.loop-byte-preserved
loop-byte-preserved g c =
    let bytes = c.args.bytes.now in
    let i = c.loop-byte.byte-index in
    let rest = escape (drop (i + 1) bytes) in
    up_to_next g.T.TextOutput.holds c.args.out.now c.loop-byte.out c.push_byte.new.out (escape_byte (get_or bytes i 0)) rest (escape bytes) c.in_ok-push_byte.ensures.found
    (up_to_is g.T.TextOutput.holds c.args.out.now c.loop-byte.out _ _ (escape bytes) (escape_next bytes i (get_or bytes i 0) c.loop-byte-test.true refl) c.loop-byte.invariant)

use Rattle.std.proofs.Common.{◌+◌, ◌-◌, take, drop, arith, length-drop}
use Rattle.orc_wire.specs.Fields.{sized}
use Rattle.orc_wire.specs.CanonicalText.{payload_text}
use Rattle.orc_wire.proofs.PutLemmas.{keeps_more}
use Rattle.orc_wire.proofs.SizedLemmas.{set-size}
use Rattle.orc_wire.proofs.canonical.end_sized.Goals as goal

pub returns-then-len-lt-TWO_BYTES-clause-text : goal.returns-then-len-lt-TWO_BYTES-clause-text
returns-then-len-lt-TWO_BYTES-clause-text c =
    let old = c.args.out.now.items in
    let place = c.args.place in
    set-size old place (c.len.result - place - 1) c.requires (omega (arith, length-drop (place + 1) old)) (omega arith)

pub returns-then-len-lt-TWO_BYTES-clause-front : goal.returns-then-len-lt-TWO_BYTES-clause-front
returns-then-len-lt-TWO_BYTES-clause-front c =
    let old = c.args.out.now.items in
    let place = c.args.place in
    keeps_more (take place old) _ (payload_text (sized (drop (place + 1) old)))
    (set-size old place (c.len.result - place - 1) c.requires (omega (arith, length-drop (place + 1) old)) (omega arith))

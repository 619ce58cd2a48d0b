use Rattle.std.proofs.Common.{refl}
use Rattle.hex.proofs.HexLemmas.{decode_of-ok}
use Rattle.orc_values.proofs.Bytes.{all_bytes}
use Rattle.orc_values.proofs.Views.{view-Bytes}
use Rattle.orc_json_rows.proofs.json_leaf.from_hex.Goals as goal

pub returns-in-Ok-clause-found : goal.returns-in-Ok-clause-found
returns-in-Ok-clause-found c =
    let decoded = decode_of-ok c.args.text.now c.in-Ok.bytes.items c.in-Ok.ensures.ok in
    rw view-Bytes ((c.args.text.now, refl, c.in-Ok.ensures.ok), all_bytes c.in-Ok.bytes.items decoded.3)

use Rattle.std.proofs.Common.{refl}
use Rattle.orc_values.proofs.Bytes.{all_bytes}
use Rattle.orc_values.proofs.fitting.bytes_fit.Goals as goal

pub returns-in-Binary : goal.returns-in-Binary
returns-in-Binary c =
    rw (c.in-Binary.is, all_bytes c.args.octets.now (λ i. (c.type_inv.octets i).fits)) refl

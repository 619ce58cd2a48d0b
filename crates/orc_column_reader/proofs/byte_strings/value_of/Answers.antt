use Rattle.std.proofs.Common.{refl}
use Rattle.orc_values.proofs.Bytes.{all_bytes}
use Rattle.orc_column_reader.proofs.byte_strings.value_of.Goals as goal

pub returns : goal.returns
returns c = (all_bytes c.args.bytes.now (λ i. (c.type_inv.bytes i).fits), refl)

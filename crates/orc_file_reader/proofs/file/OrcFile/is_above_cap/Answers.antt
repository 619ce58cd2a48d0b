use Rattle.orc_file_reader.proofs.RowLemmas.{stripe_short}
use Rattle.orc_file_reader.proofs.file.OrcFile.is_above_cap.Goals as goal

pub stripe_length-len-requires : goal.stripe_length-len-requires
stripe_length-len-requires g c = rw c.as_slice.ensures (stripe_short c.args.self.now.tail.stripes c.args.number c.requires c.args.self.now.bytes)

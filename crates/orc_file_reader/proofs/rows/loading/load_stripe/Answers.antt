use Rattle.orc_file_reader.proofs.RowLemmas.{stripe_short}
use Rattle.orc_file_reader.proofs.rows.loading.load_stripe.Goals as goal

pub stripe_length-len-requires : goal.stripe_length-len-requires
stripe_length-len-requires g c = rw c.as_slice.ensures (stripe_short c.args.tail.now.stripes c.args.number c.requires.there c.requires.most)

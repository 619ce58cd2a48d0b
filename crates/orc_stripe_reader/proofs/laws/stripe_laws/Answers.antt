use Rattle.orc_stripe_reader.proofs.OneStripe.{one_footer, one_stripe}
use Rattle.orc_stripe_reader.proofs.laws.stripe_laws.Goals as goal

pub returns-clause-one_footer : goal.returns-clause-one_footer
returns-clause-one_footer c = one_footer

pub returns-clause-one_list : goal.returns-clause-one_list
returns-clause-one_list c = one_stripe

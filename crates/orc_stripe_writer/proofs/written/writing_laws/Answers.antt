use Rattle.orc_stripe_writer.proofs.StripeReads.{stripe_read}
use Rattle.orc_stripe_writer.proofs.StripeLaws.{one_stripe, indexes_right}
use Rattle.orc_stripe_writer.proofs.written.writing_laws.Goals as goal

pub returns-clause-read : goal.returns-clause-read
returns-clause-read c = stripe_read

pub returns-clause-one_text : goal.returns-clause-one_text
returns-clause-one_text c = one_stripe

pub returns-clause-right : goal.returns-clause-right
returns-clause-right c = indexes_right

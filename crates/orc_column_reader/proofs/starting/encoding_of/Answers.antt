use Rattle.std.proofs.Common.{get_or, sym, ap, ◌∙◌}
use Rattle.orc_column_reader.specs.Stripe.{plain}
use Rattle.orc_column_reader.proofs.StartFaults.{encoding_there}
use Rattle.orc_column_reader.proofs.starting.encoding_of.Goals as goal

pub returns : goal.returns
returns c = sym (encoding_there c.args.footer.now.columns c.args.column plain c.requires.there ∙ ap (λ es. get_or es c.args.column plain) (sym c.as_slice.ensures))

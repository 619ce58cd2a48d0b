use Rattle.std.proofs.Common.{◌∙◌}
use Rattle.orc_stripe_writer.specs.Dictionary.{byte_strings}
use Rattle.orc_stripe_writer.proofs.AddingLemmas.{groups_added}
use Rattle.orc_stripe_writer.proofs.put_column.put_strings.Goals as goal

pub returns : goal.returns
returns c =
    groups_added c.args.rle c.args.column c.args.body.now c.put_byte_strings.new.self c.put_ints.new.self c.direct.result c.deref.result.now (byte_strings c.args.strings.now) c.direct.ensures
    (c.deref.ensures.value ∙ c.in_ok-lengths.ensures.lengths) c.in_ok-put_byte_strings.ensures c.in_ok-put_ints.ensures

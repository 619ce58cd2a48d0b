use Rattle.orc_stripe_writer.specs.declared.byte_string.ByteString.{ByteString}
use Rattle.orc_stripe_writer.proofs.DictionaryLemmas.{distinct_are}
use Rattle.orc_stripe_writer.proofs.dictionary.distinct.Goals as goal

pub returns : goal.returns
returns c =
    distinct_are (λ (t : ByteString). t.0.now) c.args.texts.items c.sort_unstable.new.self.items c.dedup.new.self.items c.sort_unstable.ensures.permutation c.sort_unstable.ensures.sorted c.dedup.ensures.filtered

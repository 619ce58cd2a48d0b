use Rattle.std.proofs.Common.{ap, ◌∙◌, arith}
use Rattle.orc_wire.specs.declared.encoding.Encoding.{Encoding}
use Rattle.orc_wire.specs.EncodingKinds.{is_dictionary}
use Rattle.orc_column_reader.specs.Stripe.{version_at}
use Rattle.orc_column_reader.proofs.starting.streams_of.Goals as goal

pub returns : goal.returns
returns c =
    let e = c.encoding_of-encoding.ensures in
    let column = c.args.column in
    let there = c.requires.there in
    record {
      version_is = c.version_of.ensures ∙ ap (λ (k : Encoding). version_at k.kind) e;
      dictionary_is = c.is_dictionary.ensures ∙ ap (λ (k : Encoding). is_dictionary k.kind) e;
      size_is = ap (λ (k : Encoding). k.dictionary_size) e;
      present_is = c.stream.ensures ∙ c.requires.located.are column 0 there (omega arith);
      data_is = c.stream-2.ensures ∙ c.requires.located.are column 1 there (omega arith);
      lengths_are = c.stream-3.ensures ∙ c.requires.located.are column 2 there (omega arith);
      dictionary_data_is = c.stream-4.ensures ∙ c.requires.located.are column 3 there (omega arith);
    }

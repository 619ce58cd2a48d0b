use Rattle.std.proofs.Common.{ap, ◌∙◌}
use Rattle.orc_wire.specs.declared.encoding.Encoding.{Encoding}
use Rattle.orc_wire.specs.EncodingKinds.{is_dictionary}
use Rattle.orc_column_reader.specs.Stripe.{version_at}
use Rattle.orc_stripe_writer.proofs.LastColumn.{column_alone}
use Rattle.orc_stripe_writer.proofs.column_streams.column_streams.Goals as goal

pub returns : goal.returns
returns c = λ w e joined listed.
    let f = column_alone c.args.column w c.args.lines.now c.args.bytes.now listed joined in
    record {
      version_is = c.version_of.ensures ∙ ap (λ (k : Encoding). version_at k.kind) e;
      dictionary_is = c.is_dictionary.ensures ∙ ap (λ (k : Encoding). is_dictionary k.kind) e;
      size_is = ap (λ (k : Encoding). k.dictionary_size) e;
      present_is = c.stream_bytes.ensures ∙ f.marks;
      data_is = c.stream_bytes-2.ensures ∙ f.content;
      lengths_are = c.stream_bytes-3.ensures ∙ f.lengths;
      dictionary_data_is = c.stream_bytes-4.ensures ∙ f.dictionary_data;
    }

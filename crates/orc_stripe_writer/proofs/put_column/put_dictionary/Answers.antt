use Rattle.std.proofs.Common.{◌≡◌, List, length, map, sym, ap, ◌∙◌, subst, rules}
use Rattle.std.proofs.lemmas.List.{length-map}
use Rattle.orc_stripe_writer.specs.declared.byte_string.ByteString.{ByteString}
use Rattle.orc_column_reader.specs.Spellings.{size, concatenated}
use Rattle.orc_stripe_writer.specs.Dictionary.{byte_strings}
use Rattle.orc_stripe_writer.specs.WrittenColumn.{dictionary}
use Rattle.orc_stripe_writer.specs.Adding.{AddsStream}
use Rattle.orc_stripe_writer.proofs.AddingLemmas.{words_added}
use Rattle.orc_stripe_writer.proofs.put_column.put_dictionary.Goals as goal

pub returns : goal.returns
returns c = λ texts named.
    let items = c.args.found.now.entries.items in
    let many : c.in-Ok.entries ≡ length items = search rules in
    let sized : c.in-Ok.entries ≡ length (byte_strings items) = many ∙ sym (length-map items (λ (p : ByteString). p.0.now)) in
    words_added c.args.rle c.args.column c.args.body.now c.put_ints.new.self c.put_ints-2.new.self c.put_byte_strings.new.self c.dictionary.result c.args.found.now.places.items c.deref-2.result.now c.deref-3.result.now (byte_strings items) texts
    (c.dictionary.ensures ∙ ap (dictionary c.args.rle) sized) c.deref-2.ensures.value (c.deref-3.ensures.value ∙ c.in_ok-lengths.ensures.lengths ∙ ap (λ (ps : List ByteString). map size (byte_strings ps)) c.deref.ensures.value) named
    c.in_ok-put_ints.ensures c.in_ok-put_ints-2.ensures (subst (λ (ps : List ByteString). AddsStream (λ text. text ≡ concatenated (byte_strings ps)) c.args.column 3 c.put_ints-2.new.self c.put_byte_strings.new.self) c.deref-4.ensures.value c.in_ok-put_byte_strings.ensures)

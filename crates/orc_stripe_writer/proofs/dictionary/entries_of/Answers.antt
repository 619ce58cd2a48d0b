use Rattle.std.proofs.Common.{rules, ◌≡◌, length, List, sym, ◌∙◌}
use Rattle.std.proofs.lemmas.List.{length-map}
use Rattle.orc_stripe_writer.specs.declared.byte_string.ByteString.{ByteString}
use Rattle.orc_stripe_writer.specs.Dictionary.{byte_strings, is_worth}
use Rattle.orc_stripe_writer.specs.DictionaryChoice.{AreEachOnce, HasTooMany}
use Rattle.orc_stripe_writer.proofs.EntriesLemmas.{alike, all_distinct, all_many}
use Rattle.orc_stripe_writer.proofs.dictionary.entries_of.Goals as goal

count : (strings : List ByteString) → length (byte_strings strings) ≡ length strings
count strings = length-map strings _

pub returns-in_default : goal.returns-in_default
returns-in_default c =
    let many : HasTooMany alike c.args.strings.now = search rules in
    all_many c.args.strings.now many

pub returns-then-is_worth : goal.returns-then-is_worth
returns-then-is_worth c =
    let all = c.args.strings.now in
    let few = c.in-Some.texts.items in
    let entries = c.distinct-entries.result.items in
    let found : AreEachOnce alike all few = search rules in
    let size : length (byte_strings entries) ≡ c.len.result = count entries ∙ (let v : length entries ≡ c.len.result = search rules in v) in
    record {
      distinct = all_distinct all few (byte_strings entries) found c.distinct-entries.ensures;
      worth = (λ i. is_worth (size i) (count all i)) ∙ sym c.is_worth.ensures ∙ c.if-is_worth.true;
    }

pub returns : goal.returns
returns c =
    let all = c.args.strings.now in
    let few = c.in-Some.texts.items in
    let entries = c.distinct-entries.result.items in
    let found : AreEachOnce alike all few = search rules in
    let size : length (byte_strings entries) ≡ c.len.result = count entries ∙ (let v : length entries ≡ c.len.result = search rules in v) in
    record {
      entries = byte_strings entries;
      distinct = all_distinct all few (byte_strings entries) found c.distinct-entries.ensures;
      not_worth = (λ i. is_worth (size i) (count all i)) ∙ sym c.is_worth.ensures ∙ c.if-is_worth.false;
    }

use Rattle.std.proofs.Common.{◌≡◌, List, ℕ, true, false, length, ◌∙◌, sym, subst, rules}
use Rattle.std.proofs.lemmas.Result.{IfOk-weaker}
use Rattle.orc_stripe_writer.specs.Dictionary.{byte_strings, is_worth, AreDistinct}
use Rattle.orc_stripe_writer.specs.DictionaryChoice.{AreWorthy, HaveManyEntries}
use Rattle.orc_stripe_writer.proofs.AddingLemmas.{texts_added}
use Rattle.orc_stripe_writer.proofs.put_column.put_texts.Goals as goal

pub returns-in_ok-found-in-Some : goal.returns-in_ok-found-in-Some
returns-in_ok-found-in-Some c =
    let texts = byte_strings c.args.strings.now in
    let entries = byte_strings c.in-Some.entries.items in
    let named = byte_strings c.in_ok-found-in-Some.found.entries.items in
    let same : named ≡ entries = c.in_ok-found-in-Some.ensures.entries in
    let found : AreWorthy texts entries = search rules in
    let worth : is_worth (length named) (length texts) ≡ true = (λ i. is_worth (length (same i)) (length texts)) ∙ found.worth in
    IfOk-weaker c.put_dictionary.result _ _ (λ e h. texts_added true c.args.rle c.args.column c.args.body.now c.put_dictionary.new.body e named texts worth
    (subst (λ (es : List (List ℕ)). AreDistinct texts es) (sym same) found.distinct) (h texts c.in_ok-found-in-Some.ensures.named)) c.put_dictionary.ensures

pub returns-in-None : goal.returns-in-None
returns-in-None c =
    let texts = byte_strings c.args.strings.now in
    let many : HaveManyEntries texts = search rules in
    IfOk-weaker c.put_strings.result _ _ (λ e h. texts_added false c.args.rle c.args.column c.args.body.now c.put_strings.new.body e many.entries texts many.not_worth many.distinct h) c.put_strings.ensures

use Rattle.std.proofs.Common.{◌≡◌, true, sym, ◌∙◌, ap}
use Rattle.std.specs.Prelude.{not}
use Rattle.std.specs.List.{list_all}
use Rattle.std.proofs.lemmas.List.{take_all}
use Rattle.orc_trees.specs.SchemaText.{is_word, is_plain_name}
use Rattle.orc_trees.proofs.NameFronts.{not_plain, plain_is}
use Rattle.orc_trees.proofs.name_text.is_plain.Goals as goal

pub returns-then-not-is_word : goal.returns-then-not-is_word
returns-then-not-is_word c =
    not_plain c.as_bytes-byte-items.result.now c.loop-byte.byte-index c.loop-byte-test.true (sym c.is_word.ensures ∙ c.if-not-is_word.true) ∙ ap is_plain_name c.as_bytes-byte-items.ensures.value

pub returns : goal.returns
returns c =
    let passed : list_all is_word c.args.name.now ≡ true =
    ap (list_all is_word) (sym c.as_bytes-byte-items.ensures.value ∙ sym (take_all c.loop-byte.byte-index c.as_bytes-byte-items.result.now c.loop-byte-test.false)) ∙ c.loop-byte.invariant in
    ap not c.is_empty.ensures ∙ plain_is c.args.name.now passed

use Rattle.std.proofs.Common.{◌≡◌, true, false, sym, ◌∙◌, ap, arith}
use Rattle.std.proofs.lemmas.Str.Pattern.{split_after}
use Rattle.orc_trees.specs.SchemaText.{is_plain_name}
use Rattle.orc_trees.proofs.NameFronts.{no_colon, if_none}
use Rattle.orc_trees.proofs.name_text.plain_name_from.Goals as goal

pub returns-in_err-name-clause-none : goal.returns-in_err-name-clause-none
returns-in_err-name-clause-none c =
    if_none c.from_residual.result (λ name rest plain e.
    let split = split_after 58 c.args.text.now name rest c.split_once.result c.split_once.ensures.cases (omega arith) e (no_colon name plain) in
    rw c.in_err-name.was at split)

pub returns-else-is_plain-clause-none : goal.returns-else-is_plain-clause-none
returns-else-is_plain-clause-none c = λ name rest plain e.
    let split = split_after 58 c.args.text.now name rest c.split_once.result c.split_once.ensures.cases (omega arith) e (no_colon name plain) in
    let same = rw c.in_ok-name.was at split in
    let wrong : true ≡ false = sym plain ∙ ap is_plain_name (sym same.0) ∙ sym c.is_plain.ensures ∙ c.if-is_plain.false in
    cc

use Rattle.std.proofs.Common.{◌∙◌, sym}
use Rattle.orc_trees.proofs.NameFronts.{if_none, no_digit}
use Rattle.orc_trees.proofs.name_text.digit_from.Goals as goal

pub returns-in_err-digit-clause-none : goal.returns-in_err-digit-clause-none
returns-in_err-digit-clause-none c =
    if_none c.from_residual-in_err-digit.result (no_digit c.args.text.now c.next.new.self.rest.now c.in_ok-c.c (sym c.chars-chars.ensures.rest ∙ c.in_ok-c.ensures.steps.0) (λ below. let wrong = c.in_err-digit.ensures.succeeds below in cc))

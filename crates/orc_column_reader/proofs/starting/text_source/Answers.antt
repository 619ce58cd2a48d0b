use Rattle.std.proofs.Common.{sym, subst}
use Rattle.orc_column_reader.specs.Starting.{LacksEntries}
use Rattle.orc_column_reader.proofs.Handed.{if_err}
use Rattle.orc_column_reader.proofs.starting.text_source.Goals as goal

pub returns-then-streams-clause-none : goal.returns-then-streams-clause-none
returns-then-streams-clause-none c =
    if_err c.dictionary_source.result c.dictionary_source.ensures.none
    (λ cause none memory x are. subst (λ b. LacksEntries b x) (sym c.if-streams.true) (none memory x are))

use Rattle.std.proofs.Common.{sym, ◌∙◌}
use Rattle.orc_trees.proofs.OneText.{one_whole}
use Rattle.orc_types.proofs.TextSchemas.{no_text_schema}
use Rattle.orc_types.proofs.Bare.{bare_text}
use Rattle.orc_types.proofs.OneLine.{text_shown}
use Rattle.orc_types.proofs.laws.schema_text_laws.Goals as goal

pub returns-clause-one_schema : goal.returns-clause-one_schema
returns-clause-one_schema c = λ bytes s t h k. one_whole s t h.plain k.plain (sym h.spelled ∙ k.spelled)

pub returns-clause-none : goal.returns-clause-none
returns-clause-none c = no_text_schema

pub returns-clause-kinds_and_names : goal.returns-clause-kinds_and_names
returns-clause-kinds_and_names c = bare_text

pub returns-clause-one_line : goal.returns-clause-one_line
returns-clause-one_line c = text_shown

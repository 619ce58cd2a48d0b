use Rattle.std.proofs.Common.{◌≡◌, true}
use Rattle.orc_skipping.proofs.Rows.{none_of, none_matches, none_matches_boldly}
use Rattle.orc_skipping.proofs.Bolder.{bolder}
use Rattle.orc_skipping.proofs.OwnCells.{alike_admits, alike_full, null_counted}
use Rattle.orc_skipping.proofs.Alike.{agrees_alike}
use Rattle.orc_stats.specs.Statistics.{stat}
use Rattle.orc_skipping.proofs.OneColumn.{of_one_column}
use Rattle.orc_skipping.proofs.Why.{why}
use Rattle.orc_skipping.proofs.laws.skipping_laws.Goals as goal

pub returns-clause-any : goal.returns-clause-any
returns-clause-any c = λ s rows told test h none. none_of (λ at. test at ≡ true) s rows told h none

pub returns-clause-cautious : goal.returns-clause-cautious
returns-clause-cautious c = none_matches

pub returns-clause-bold : goal.returns-clause-bold
returns-clause-bold c = none_matches_boldly

pub returns-clause-bolder : goal.returns-clause-bolder
returns-clause-bolder c = λ told p e. bolder told p true e

pub returns-clause-one_column : goal.returns-clause-one_column
returns-clause-one_column c = of_one_column

pub returns-clause-right : goal.returns-clause-right
returns-clause-right c = λ k cells s e. alike_admits k cells s (agrees_alike s (stat k cells) e)

pub returns-clause-full : goal.returns-clause-full
returns-clause-full c = λ k cells s h e. alike_full k cells s h (agrees_alike s (stat k cells) e)

pub returns-clause-null_by_count : goal.returns-clause-null_by_count
returns-clause-null_by_count c = λ k cells. null_counted cells

pub returns-clause-why : goal.returns-clause-why
returns-clause-why c = why

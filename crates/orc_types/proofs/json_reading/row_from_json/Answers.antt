use Rattle.std.proofs.Common.{subst}
use Rattle.std.proofs.lemmas.Result.{IfOk-weaker, IfErr-weaker, MatchResult-weaker, MatchResult-from_both}
use Rattle.serde_json.specs.View.{view as json_view}
use Rattle.orc_values.specs.Views.{view, shape}
use Rattle.orc_json_rows.specs.JsonRows.{JsonSpells}
use Rattle.orc_json_rows.specs.JsonFaults.{FaultAt, Somewhere}
use Rattle.orc_json_rows.specs.declared.json_fault.JsonFault.TheVariants as fault
use Rattle.orc_json_rows.proofs.JsonLaws.{one_row, row_fits, only_memory, nowhere, no_duplicate}
use Rattle.orc_types.proofs.json_reading.row_from_json.Goals as goal

pub returns-clause-only : goal.returns-clause-only
returns-clause-only c = λ row distinct spelled.
    let here : JsonSpells (shape c.tree.result.now) (json_view c.args.json.now) row = rw c.tree.ensures.same spelled in
    MatchResult-weaker c.row_of.result (MatchResult-from_both c.row_of.result _ _ c.row_of.ensures.found c.row_of.ensures.fault) (λ found h. one_row (shape c.tree.result.now) (json_view c.args.json.now) (view found) row h here) (λ e stands. only_memory (shape c.tree.result.now) (json_view c.args.json.now) row e here stands)

pub returns-clause-fits : goal.returns-clause-fits
returns-clause-fits c =
    IfOk-weaker c.row_of.result _ _ (λ row found. row_fits c.args.schema.now (json_view c.args.json.now) (view row) (subst (λ s. JsonSpells s (json_view c.args.json.now) (view row)) c.tree.ensures.same found)) c.row_of.ensures.found

pub returns-clause-duplicate : goal.returns-clause-duplicate
returns-clause-duplicate c =
    IfErr-weaker c.row_of.result _ _ (λ e stands is. absurd (nowhere (FaultAt fault.DuplicateField) no_duplicate (shape c.tree.result.now) (json_view c.args.json.now) (subst (λ x. Somewhere (FaultAt x) (shape c.tree.result.now) (json_view c.args.json.now)) is (stands (λ q. cc))))) c.row_of.ensures.fault

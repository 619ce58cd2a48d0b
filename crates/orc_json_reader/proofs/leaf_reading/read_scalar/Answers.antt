use Rattle.std.proofs.Common.{◌≡◌, ◌∷◌}
use Rattle.std.proofs.lemmas.Result.{IfOk-weaker}
use Rattle.json.specs.Reads.{token_of}
use Rattle.orc_json_rows.specs.JsonLeaves.{ScalarSpells}
use Rattle.orc_values.specs.Views.{view}
use Rattle.orc_json_reader.proofs.RowLemmas.{leaf_front}
use Rattle.orc_json_reader.proofs.leaf_reading.read_scalar.Goals as goal

pub returns-in-Some-clause-found : goal.returns-in-Some-clause-found
returns-in-Some-clause-found c =
    let first : c.args.reader.now ≡ token_of c.in-Some.token ∷ c.next.new.self = c.in-Some.ensures.value in
    IfOk-weaker c.read_leaf.result _ _
    (λ done h. leaf_front (λ d. ScalarSpells c.args.kind d (view c.read_leaf.new.cell)) (token_of c.in-Some.token) c.args.reader.now c.next.new.self first h) c.read_leaf.ensures

use Rattle.std.proofs.Common.{ap}
use Rattle.std.proofs.lemmas.Result.{on_ok_weaker}
use Rattle.json.specs.Reads.{token_of}
use Rattle.serde_json.specs.Data.{boolean, string}
use Rattle.orc_json_reader.specs.Fronts.{token_data}
use Rattle.orc_json_reader.proofs.leaf_reading.read_leaf.Goals as goal

pub returns-in-Bool : goal.returns-in-Bool
returns-in-Bool c = on_ok_weaker c.put_bool.result (λ h. (boolean c.in-Bool.truth, ap (λ t. token_data (token_of t)) c.in-Bool.is, h)) c.put_bool.ensures

pub returns-in-String : goal.returns-in-String
returns-in-String c = on_ok_weaker c.put_string.result (λ h. (string c.in-String.text.now, ap (λ t. token_data (token_of t)) c.in-String.is, h)) c.put_string.ensures

use Rattle.std.proofs.Common.{ap, rules, FitsSigned, w64}
use Rattle.std.proofs.lemmas.Int.{to_z-of_z}
use Rattle.std.proofs.lemmas.Result.{on_ok_weaker}
use Rattle.std.specs.Prelude.{option_map}
use Rattle.serde_json.specs.Data.{number}
use Rattle.serde_json.specs.Read.{number_of}
use Rattle.orc_json_reader.proofs.RowLemmas.{integer_is}
use Rattle.orc_json_reader.proofs.leaf_reading.put_number.Goals as goal

pub returns-in-Some : goal.returns-in-Some
returns-in-Some c =
    let n = integer_is (number_of c.args.text.now) c.in-Some.integer c.in-Some.ensures in
    let fits : FitsSigned w64 c.in-Some.integer = search rules in
    let leaf = simp to_z-of_z at c.put_integer.ensures in
    on_ok_weaker c.put_integer.result (λ spells. (number n.0, ap (option_map number) n.1, spells (number n.0) n.2)) leaf

use Rattle.std.proofs.Common.{◌≡◌, ℕ, List, [], ◌∷◌, length, sym, ap, ◌∙◌, arith}
use Rattle.std.proofs.lemmas.Bool.{eqb-true}
use Rattle.std.proofs.lemmas.List.{drop_all}
use Rattle.hex.specs.Hex.{encode_lower}
use Rattle.json.specs.Print.{escape}
use Rattle.orc_json_printer.proofs.Escapes.{escape-encode_lower, escape-encode_lower-none}
use Rattle.orc_json_printer.proofs.Outputs.{puts_then, puts_last, up_to_is, up_to_next, up_to_end}
use Rattle.orc_json_printer.proofs.leaf_text.push_hex.Goals as goal

pub loop-rest-preserved : goal.loop-rest-preserved
loop-rest-preserved g c =
    let chunk = c.split_at.result.0.now in
    let behind = c.split_at.result.1.now in
    let all = escape (encode_lower c.args.octets.now) in
    up_to_next g.T.TextOutput.holds c.put_byte.new.self c.loop-rest.out c.push_digits.new.out (escape (encode_lower chunk)) (escape (encode_lower behind)) all c.in_ok-push_digits.ensures.found
    (up_to_is g.T.TextOutput.holds c.put_byte.new.self c.loop-rest.out _ _ all (ap (λ (t : List ℕ). escape (encode_lower t)) c.split_at.ensures.by_index.0 ∙ escape-encode_lower chunk behind) c.loop-rest.invariant)

pub returns-clause-found : goal.returns-clause-found
returns-clause-found g c =
    let all = escape (encode_lower c.args.octets.now) in
    let rest = c.loop-rest.rest.now in
    let empty : length rest ≡ 0 = eqb-true (length rest) 0 (sym c.is_empty.ensures ∙ c.loop-rest-test.false) in
    let none : rest ≡ [] = drop_all 0 rest (omega arith) in
    let digits = up_to_end g.T.TextOutput.holds c.put_byte.new.self c.loop-rest.out all
    (up_to_is g.T.TextOutput.holds c.put_byte.new.self c.loop-rest.out _ _ all (ap (λ (t : List ℕ). escape (encode_lower t)) none ∙ escape-encode_lower-none) c.loop-rest.invariant) in
    puts_last g.T.TextOutput.holds c.put_byte-2.result c.args.out.now c.loop-rest.out c.put_byte-2.new.self (34 ∷ all) (34 ∷ [])
    (puts_then g.T.TextOutput.holds c.args.out.now c.put_byte.new.self c.loop-rest.out (34 ∷ []) all c.in_ok-put_byte.ensures.found digits) c.put_byte-2.ensures.found

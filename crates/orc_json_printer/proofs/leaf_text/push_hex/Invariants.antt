use Rattle.std.proofs.Common.{length}
use Rattle.hex.specs.Hex.{encode_lower}
use Rattle.json.specs.Print.{escape}
use Rattle.orc_json_printer.proofs.Outputs.{PutsUpTo}
use Rattle.orc_json_printer.proofs.leaf_text.push_hex.Given as goal

abbrev pub invariant-loop-rest : goal.invariant-loop-rest
invariant-loop-rest g l = PutsUpTo g.T.TextOutput.holds l.initial.out l.out (escape (encode_lower l.rest)) (escape (encode_lower l.octets))

abbrev pub decreases-loop-rest : goal.decreases-loop-rest
decreases-loop-rest g l = length l.rest

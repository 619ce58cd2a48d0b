use Rattle.std.proofs.Common.{drop}
use Rattle.json.specs.Print.{escape}
use Rattle.orc_json_printer.proofs.Outputs.{PutsUpTo}
use Rattle.orc_json_printer.proofs.quoted.push_bytes.Given as goal

abbrev pub invariant-loop-byte : goal.invariant-loop-byte
invariant-loop-byte g l = PutsUpTo g.T.TextOutput.holds l.initial.out l.out (escape (drop l.byte-index l.bytes)) (escape l.bytes)

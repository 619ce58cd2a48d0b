use Rattle.std.specs.Bool.{OnTrue}
use Rattle.orc_json_printer.proofs.Escapes.{PlainTo}
use Rattle.orc_json_printer.proofs.quoted.is_plain.Given as goal

abbrev pub invariant-loop-byte : goal.invariant-loop-byte
invariant-loop-byte l = OnTrue l.plain (PlainTo l.bytes l.byte-index)

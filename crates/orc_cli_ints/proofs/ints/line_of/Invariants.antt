use Rattle.std.proofs.Common.{◌≡◌, take}
use Rattle.std.specs.Prelude.{string_bytes}
use Rattle.orc_cli_ints.specs.Ints.{numbers}
use Rattle.orc_cli_ints.proofs.ints.line_of.Given as goal

abbrev pub invariant-loop-i : goal.invariant-loop-i
invariant-loop-i l = string_bytes l.line ≡ numbers (take l.i l.values)

use Rattle.std.proofs.Common.{◌≡◌, ◌++◌, drop}
use Rattle.std.specs.Prelude.{string_bytes}
use Rattle.orc_cli_check.specs.Lines.{finding_lines}
use Rattle.orc_cli_check.proofs.findings.lines_of.Given as goal

-- with the lines of those that are left it is all lines
abbrev pub invariant-loop-finding : goal.invariant-loop-finding
invariant-loop-finding l = string_bytes l.lines ++ finding_lines (drop l.finding-index l.found) ≡ finding_lines l.found

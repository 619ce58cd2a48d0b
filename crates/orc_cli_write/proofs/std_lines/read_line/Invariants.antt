use Rattle.std.specs.Prelude.{IfSome}
use Rattle.orc_cli_write.specs.Pieces.{BeginsLine}
use Rattle.orc_cli_write.proofs.std_lines.read_line.Given as goal

abbrev pub invariant-loop : goal.invariant-loop
invariant-loop g l = IfSome (g.I.Read.remaining l.initial.input) (λ bytes. BeginsLine bytes l.line.items (g.I.Read.remaining l.input))

use Rattle.std.specs.Io.KnownBytes.{Keeps}
use Rattle.orc_cli_output.proofs.repeated.write_again.Given as goal

-- the writes that were interrupted took nothing
abbrev pub invariant-loop : goal.invariant-loop
invariant-loop g l = Keeps (g.W.Write.contents l.initial.out) (g.W.Write.contents l.out)

use Rattle.std.proofs.Common.{◌≡◌, ◌++◌, drop}
use Rattle.std.specs.Prelude.{string_bytes}
use Rattle.orc_cli_show.specs.Show.{numbered, stripe_line}
use Rattle.orc_cli_show.proofs.show.put_stripes.Given as goal

-- with the lines of those that are left it is all lines
abbrev pub invariant-loop-number : goal.invariant-loop-number
invariant-loop-number l = string_bytes l.lines ++ numbered stripe_line l.number (drop l.number l.stripes) ≡ string_bytes l.initial.lines ++ numbered stripe_line 0 l.stripes

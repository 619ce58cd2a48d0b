use Rattle.std.proofs.Common.{◌≡◌, ◌++◌, drop}
use Rattle.std.specs.Prelude.{string_bytes}
use Rattle.std.specs.List.{flat_map}
use Rattle.orc_cli_show.specs.Show.{pair_line}
use Rattle.orc_cli_show.proofs.show.put_pairs.Given as goal

-- with the lines of those that are left it is all lines
abbrev pub invariant-loop-pair : goal.invariant-loop-pair
invariant-loop-pair l = string_bytes l.lines ++ flat_map pair_line (drop l.pair-index l.pairs) ≡ string_bytes l.initial.lines ++ flat_map pair_line l.pairs

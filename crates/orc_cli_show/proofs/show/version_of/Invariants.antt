use Rattle.std.proofs.Common.{◌≡◌, take, map}
use Rattle.std.specs.Prelude.{string_bytes, decimal}
use Rattle.std.specs.List.{join_with_byte}
use Rattle.orc_cli_show.proofs.show.version_of.Given as goal

abbrev pub invariant-loop-i : goal.invariant-loop-i
invariant-loop-i l = string_bytes l.text ≡ join_with_byte 46 (map decimal (take l.i l.version))

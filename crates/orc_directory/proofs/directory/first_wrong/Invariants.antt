use Rattle.std.proofs.Common.{◌≡◌, drop}
use Rattle.orc_directory.specs.Directory as spec
use Rattle.orc_directory.proofs.directory.first_wrong.Given as goal

-- those that are left decide
abbrev pub invariant-loop-i : goal.invariant-loop-i
invariant-loop-i l = spec.first_wrong l.i (drop l.i l.types) (drop l.i l.encodings) ≡ spec.first_wrong 0 l.types l.encodings

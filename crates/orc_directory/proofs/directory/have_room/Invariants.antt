use Rattle.std.proofs.Common.{◌≡◌, drop}
use Rattle.orc_directory.specs.Directory as spec
use Rattle.orc_directory.proofs.directory.have_room.Given as goal

-- what is left decides
abbrev pub invariant-loop-stream : goal.invariant-loop-stream
invariant-loop-stream l = spec.have_room l.left (drop l.stream-index l.streams) ≡ spec.have_room l.fn.room l.streams

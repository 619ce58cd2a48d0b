use Rattle.std.proofs.Common.{◌≡◌, ℕ, take, true}
use Rattle.std.specs.BTreeSet.{contains}
use Rattle.orc_directory.specs.Directory as spec
use Rattle.orc_directory.proofs.DirectoryLemmas.{pair_cmp}
use Rattle.orc_directory.proofs.directory.names_once.Given as goal

-- the set has the columns and kinds of the streams so far, none of them twice
abbrev pub invariant-loop-stream : goal.invariant-loop-stream
invariant-loop-stream l =
    (spec.names_once (take l.stream-index l.streams) ≡ true)
    × ((column kind : ℕ) → contains pair_cmp l.named (column, kind) ≡ spec.has_stream column kind (take l.stream-index l.streams))

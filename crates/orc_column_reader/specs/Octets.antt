-- Streams of plain bytes, which are not in runs.
use Rattle.std.specs.Prelude.{◌≡◌, ℕ, List}
use Rattle.orc_column_reader.specs.declared.octets.Octets.{Octets}

-- the bytes that a reader still has to give
abbrev pub OctetsLeft : Octets → List ℕ → Type 0
OctetsLeft r all = all ≡ r.rest.now

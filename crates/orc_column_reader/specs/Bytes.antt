-- Streams of bytes in runs (ORC specification, "Byte Run Length Encoding").
use Rattle.std.specs.Prelude.{ℕ, List, drop}
use Rattle.orc_rle.specs.ByteRun.{IsByteRun}
use Rattle.orc_rle.specs.Stream.{IsStream, RunsLeft}
use Rattle.orc_column_reader.specs.declared.bytes.RunLengthBytes.{RunLengthBytes}
use Rattle.orc_column_reader.specs.Runs.{RunsFirst}

-- the bytes that the runs of a stream store
abbrev pub AreBytes : List ℕ → List ℕ → Type 0
AreBytes bytes values = IsStream IsByteRun bytes values

-- the bytes that a reader still has to give
abbrev pub BytesLeft : RunLengthBytes → List ℕ → Type 0
BytesLeft r all = RunsLeft IsByteRun (drop r.used r.run.values) (drop r.at r.bytes.now) all

-- the bytes that a reader gives first, whatever follows
abbrev pub BytesFirst : RunLengthBytes → List ℕ → Type 0
BytesFirst r all = RunsFirst IsByteRun (drop r.used r.run.values) (drop r.at r.bytes.now) all

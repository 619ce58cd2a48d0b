-- Bytes that were copied from sources to a sink (own).
use Rattle.std.specs.Prelude.{◌≡◌, ◌≢◌, ℕ, ◌+◌, ◌<◌, ◌≤◌, List, [], take, Option, slice_get, slice_index_or}
use Rattle.std.specs.List.{flat_map}
use Rattle.std.specs.Option.{IfSome}
use Rattle.orc_io.specs.Devices.{appended, bytes_at}
use Rattle.orc_merger.specs.declared.copying.Piece.{Piece}
use Rattle.orc_merger.specs.declared.fault.MergeFault.{MergeFault}
use Rattle.orc_merger.specs.declared.fault.MergeFault.TheVariants.{SourceFailed, WriteFailed}

-- if the source's bytes are known, n of them, from an offset on, were appended to the sink's bytes
abbrev pub Copied : Option (List ℕ) → ℕ → ℕ → Option (List ℕ) → Option (List ℕ) → Type 0
Copied told at n old new = IfSome told (λ bytes. new ≡ appended old (bytes_at at n bytes))

-- if the source's bytes are known, at most n of them, from an offset on, were appended to the sink's bytes
abbrev pub CopiedSome : Option (List ℕ) → ℕ → ℕ → Option (List ℕ) → Option (List ℕ) → Type 0
CopiedSome told at n old new = IfSome told (λ bytes. (k : ℕ) × (k ≤ n) × (new ≡ appended old (bytes_at at k bytes)))

-- a prefix of the bytes was appended to the sink's bytes
abbrev pub WroteSome : Option (List ℕ) → Option (List ℕ) → List ℕ → Type 0
WroteSome old new bytes = (k : ℕ) × (new ≡ appended old (take k bytes))

-- the bytes of a piece of one of the files
abbrev pub piece_bytes : List (List ℕ) → Piece → List ℕ
piece_bytes files p = bytes_at p.offset p.len (slice_index_or files p.input [])

-- the bytes of all pieces, in order
abbrev pub pieces_bytes : List (List ℕ) → List Piece → List ℕ
pieces_bytes files = flat_map (piece_bytes files)

-- the piece with that number; if there is none, one without bytes
abbrev pub piece_at : List Piece → ℕ → Piece
piece_at pieces i = slice_index_or pieces i (record { input = 0; offset = 0; len = 0 })

-- no piece follows the piece with that number, or one of another input
abbrev pub IsLastOfInput : List Piece → ℕ → Type 0
IsLastOfInput pieces i = IfSome (slice_get pieces (i + 1)) (λ next. next.input ≢ (piece_at pieces i).input)

-- a fault that copying from `inputs` inputs may have: that one of them failed, or that the output did
abbrev pub IsOfCopy : ℕ → MergeFault → Type 0
IsOfCopy inputs (SourceFailed i) = i < inputs
IsOfCopy inputs WriteFailed = Unit {0}
IsOfCopy inputs _ = ⊥

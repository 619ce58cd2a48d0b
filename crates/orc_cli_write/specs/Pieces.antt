-- A line that is taken from a reader piece by piece, as the reader has its bytes in its buffer.
use Rattle.std.specs.Prelude.{◌≡◌, ℕ, List, [], ◌∷◌, ◌++◌, Option, Some}
use Rattle.orc_cli_write.specs.Lines.{IsLine}
use Rattle.orc_cli_write.specs.declared.std_lines.Piece.{Piece}
use Rattle.orc_cli_write.specs.declared.std_lines.Piece.TheVariants.{Ended, Open, Nothing}

-- the bytes begin with `line`, in which no line ends, and the bytes after it are left
abbrev pub BeginsLine : List ℕ → List ℕ → Option (List ℕ) → Type 0
BeginsLine bytes line left = (rest : List ℕ) × (left ≡ Some rest) × IsLine line × (bytes ≡ line ++ rest)

-- What was taken of a line: the bytes before its end, and the end; or bytes after which the line goes on, perhaps
-- none; or nothing, because no byte is left.
abbrev pub TakesPiece : Piece → List ℕ → List ℕ → Option (List ℕ) → Type 0
TakesPiece Ended bytes piece left =
    (rest : List ℕ) × (left ≡ Some rest) × IsLine piece × (bytes ≡ piece ++ 10 ∷ rest)
TakesPiece Open bytes piece left = BeginsLine bytes piece left
TakesPiece Nothing bytes piece left = (bytes ≡ []) × (piece ≡ []) × (left ≡ Some [])

-- The parts of a file (ORC specification, "File Tail"): `ORC`, the stripes, the metadata, the footer, the postscript,
-- and a last byte with the postscript's length. Their places are computed from the end.
use Rattle.std.specs.Prelude.{ℕ, ◌-◌, List, [], ◌∷◌, length, slice_index}
use Rattle.orc_io.specs.Devices.{bytes_at}
use Rattle.orc_wire.specs.declared.post_script.PostScript.{PostScript}

-- `ORC`
abbrev pub magic : List ℕ
magic = 79 ∷ 82 ∷ 67 ∷ []

-- the length of the postscript, which is the last byte
abbrev pub postscript_length : List ℕ → ℕ
postscript_length bytes = slice_index bytes (length bytes - 1)

-- where the postscript begins
abbrev pub postscript_place : List ℕ → ℕ
postscript_place bytes = length bytes - 1 - postscript_length bytes

-- the bytes of the postscript
abbrev pub postscript_bytes : List ℕ → List ℕ
postscript_bytes bytes = bytes_at (postscript_place bytes) (postscript_length bytes) bytes

-- where the footer begins, which ends at the postscript
abbrev pub footer_place : List ℕ → PostScript → ℕ
footer_place bytes postscript = postscript_place bytes - postscript.footer_length

-- the bytes of the footer
abbrev pub footer_bytes : List ℕ → PostScript → List ℕ
footer_bytes bytes postscript = bytes_at (footer_place bytes postscript) postscript.footer_length bytes

-- where the metadata begins, which ends at the footer
abbrev pub metadata_place : List ℕ → PostScript → ℕ
metadata_place bytes postscript = footer_place bytes postscript - postscript.metadata_length

-- the bytes of the metadata
abbrev pub metadata_bytes : List ℕ → PostScript → List ℕ
metadata_bytes bytes postscript = bytes_at (metadata_place bytes postscript) postscript.metadata_length bytes

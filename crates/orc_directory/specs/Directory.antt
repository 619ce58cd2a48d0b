-- The directory of a stripe (ORC specification, "Stripe Footer").
use Rattle.std.specs.Prelude.{ℕ, ◌+◌, ◌-◌, Bool, true, false, ◌&&◌, ◌||◌, ◌==◌, not, nat_lt, nat_le, if◌then◌else◌, Option, Some, None, List, [], ◌∷◌, take, drop}
use Rattle.orc_values.specs.Kinds.{number}
use Rattle.orc_values.specs.declared.kind.Scalar.TheVariants as kind
use Rattle.orc_wire.specs.declared.encoding.Encoding.{Encoding}
use Rattle.orc_wire.specs.declared.stripe_footer.StreamMsg.{StreamMsg}
use Rattle.orc_wire.specs.declared.type_msg.TypeMsg.{TypeMsg}
use Rattle.orc_wire.specs.StreamKinds.{CELL_KINDS, ROW_INDEX}
use Rattle.orc_wire.specs.EncodingKinds.{DIRECT, DIRECT_V2, is_dictionary}

-- whether a stream is this column's and of this kind
abbrev pub is_stream_of : ℕ → ℕ → StreamMsg → Bool
is_stream_of column kind stream = (stream.column == column) && (stream.kind == kind)

-- whether the directory names a stream of this kind for this column
abbrev pub has_stream : ℕ → ℕ → List StreamMsg → Bool
has_stream column kind [] = false
has_stream column kind (s ∷ ss) = is_stream_of column kind s || has_stream column kind ss

-- The bytes of a column's stream of this kind. The streams lie one after the other, in the directory's order. A
-- stream that is missing is empty.
abbrev pub slice : ℕ → ℕ → List StreamMsg → List ℕ → List ℕ
slice column kind [] bytes = []
slice column kind (s ∷ ss) bytes =
    if is_stream_of column kind s then take s.length bytes else slice column kind ss (drop s.length bytes)

-- whether the streams fit into `room` bytes
abbrev pub have_room : ℕ → List StreamMsg → Bool
have_room room [] = true
have_room room (s ∷ ss) = nat_le s.length room && have_room (room - s.length) ss

-- whether no column has two streams of one kind
abbrev pub names_once : List StreamMsg → Bool
names_once [] = true
names_once (s ∷ ss) = not (has_stream s.column s.kind ss) && names_once ss

-- whether streams of this kind need a column that exists: PRESENT, DATA, LENGTH, DICTIONARY_DATA and ROW_INDEX do
abbrev pub needs_column : ℕ → Bool
needs_column kind = nat_lt kind CELL_KINDS || (kind == ROW_INDEX)

-- whether each stream of a kind that needs a column has a column number below `width`
abbrev pub have_columns : ℕ → List StreamMsg → Bool
have_columns width [] = true
have_columns width (s ∷ ss) = (not (needs_column s.kind) || nat_lt s.column width) && have_columns width ss

-- whether the streams fit into the stripe, none is named twice, and each has the column that its kind needs
abbrev pub is_directory : ℕ → ℕ → List StreamMsg → Bool
is_directory width room streams = have_room room streams && (names_once streams && have_columns width streams)

-- whether a column of this kind may have the encoding: DIRECT and DIRECT_V2 for every column, DICTIONARY and
-- DICTIONARY_V2 for texts
abbrev pub takes_encoding : ℕ → ℕ → Bool
takes_encoding type encoding =
    (encoding == DIRECT)
    || ((encoding == DIRECT_V2) || ((type == number kind.String) && is_dictionary encoding))

-- the first column from n on that has no encoding, or one that its type can't have, or an encoding that has no column
abbrev pub first_wrong : ℕ → List TypeMsg → List Encoding → Option ℕ
first_wrong n [] [] = None
first_wrong n [] (e ∷ es) = Some n
first_wrong n (t ∷ ts) [] = Some n
first_wrong n (t ∷ ts) (e ∷ es) = if takes_encoding t.kind e.kind then first_wrong (n + 1) ts es else Some n

-- The streams in which a column's values have positions (ORC specification, "Column Encodings", "Row Group Index").
use Rattle.std.specs.Prelude.{ℕ, Bool, true, false, Option, Some, None, List, [], ◌∷◌}
use Rattle.orc_rle.specs.declared.sign.Sign.{Sign}
use Rattle.orc_rle.specs.declared.sign.Sign.TheVariants.{Signed, Unsigned}
use Rattle.orc_values.specs.Shapes.{Shape, scalar, list_of, map_of, struct_of}
use Rattle.orc_values.specs.declared.kind.Scalar.{Scalar}
use Rattle.orc_values.specs.declared.kind.Scalar.TheVariants as kind
use Rattle.orc_rle.specs.declared.sign.Rle.{Rle}
use Rattle.orc_column_reader.specs.Stripe.{Streams, version, has_dictionary, in_data, in_length}
use Rattle.orc_directory.specs.declared.fault.StreamKind.{StreamKind}
use Rattle.orc_directory.specs.declared.fault.StreamKind.TheVariants as stream

-- a stream of runs, by the kind of its values; a column may lack it
pub data RunStream : Type 0 where
  no_stream : RunStream
  bit_runs : List ℕ → RunStream
  byte_runs : List ℕ → RunStream
  number_runs : Rle → Sign → List ℕ → RunStream

-- PRESENT has positions if it has bytes
abbrev pub present_runs : List ℕ → RunStream
present_runs [] = no_stream
present_runs (b ∷ bs) = bit_runs (b ∷ bs)

-- For texts, DATA has their indexes in the dictionary, or LENGTH has their lengths. The streams of the dictionary
-- have no positions.
abbrev pub text_runs : Bool → Streams → RunStream
text_runs true x = number_runs (version x) Unsigned (in_data x)
text_runs false x = number_runs (version x) Unsigned (in_length x)

-- the stream of runs besides PRESENT of a column whose kind contains no other type
abbrev pub scalar_runs : Scalar → Streams → RunStream
scalar_runs kind.Boolean x = bit_runs (in_data x)
scalar_runs kind.Byte x = byte_runs (in_data x)
scalar_runs kind.Short x = number_runs (version x) Signed (in_data x)
scalar_runs kind.Int x = number_runs (version x) Signed (in_data x)
scalar_runs kind.Long x = number_runs (version x) Signed (in_data x)
scalar_runs kind.Date x = number_runs (version x) Signed (in_data x)
scalar_runs kind.Binary x = number_runs (version x) Unsigned (in_length x)
scalar_runs kind.String x = text_runs (has_dictionary x) x

-- the stream of runs that a column has besides PRESENT: DATA or LENGTH; a struct has none
abbrev pub value_runs : Shape → Streams → RunStream
value_runs (scalar k o) x = scalar_runs k x
value_runs (list_of s o) x = number_runs (version x) Unsigned (in_length x)
value_runs (map_of k v o) x = number_runs (version x) Unsigned (in_length x)
value_runs (struct_of fs o) x = no_stream

-- which stream of a column of texts has runs: DATA with a dictionary, else LENGTH
abbrev pub kind_of_texts : Bool → StreamKind
kind_of_texts true = stream.Data
kind_of_texts false = stream.Length

-- which stream has runs for a column whose kind contains no other type
abbrev pub run_stream_kind : Scalar → Bool → StreamKind
run_stream_kind kind.Boolean d = stream.Data
run_stream_kind kind.Byte d = stream.Data
run_stream_kind kind.Short d = stream.Data
run_stream_kind kind.Int d = stream.Data
run_stream_kind kind.Long d = stream.Data
run_stream_kind kind.Date d = stream.Data
run_stream_kind kind.Binary d = stream.Length
run_stream_kind kind.String d = kind_of_texts d

-- which stream has the runs besides PRESENT
abbrev pub kind_of_values : Shape → Bool → StreamKind
kind_of_values (scalar k o) d = run_stream_kind k d
kind_of_values (list_of s o) d = stream.Length
kind_of_values (map_of k v o) d = stream.Length
kind_of_values (struct_of fs o) d = stream.Data

-- the plain bytes of texts that aren't in a dictionary
abbrev pub text_octets : Bool → Streams → Option (List ℕ)
text_octets true x = None
text_octets false x = Some (in_data x)

-- the plain bytes of a column's values, if its kind has such a stream
abbrev pub scalar_octets : Scalar → Streams → Option (List ℕ)
scalar_octets kind.Binary x = Some (in_data x)
scalar_octets kind.String x = text_octets (has_dictionary x) x
scalar_octets _ x = None

-- DATA, if it has the plain bytes of the values, one after the other
abbrev pub value_bytes : Shape → Streams → Option (List ℕ)
value_bytes (scalar k o) x = scalar_octets k x
value_bytes _ x = None

-- What the writer makes of a column's cells (ORC specification, "Column Encodings"). The specification leaves the
-- encoding to the writer. This one writes a dictionary if there are at least twice as many texts as distinct ones, and
-- leaves out streams without bytes.
use Rattle.std.specs.Prelude.{◌≡◌, ℕ, ℤ, Bool, true, false, List, [], length, map}
use Rattle.orc_rle.specs.declared.sign.Rle.{Rle}
use Rattle.orc_rle.specs.declared.sign.Rle.TheVariants.{One, Two}
use Rattle.orc_rle.specs.declared.sign.Sign.TheVariants.{Signed, Unsigned}
use Rattle.orc_rle.specs.Cut.{IsWritten}
use Rattle.orc_rle.specs.ByteRun.{byte_rule}
use Rattle.orc_rle.specs.BitStream.{IsBitText}
use Rattle.orc_wire.specs.declared.encoding.Encoding.{Encoding}
use Rattle.orc_wire.specs.EncodingKinds.{DIRECT, DICTIONARY, DIRECT_V2, DICTIONARY_V2}
use Rattle.orc_values.specs.declared.kind.Scalar.{Scalar}
use Rattle.orc_values.specs.declared.kind.Scalar.TheVariants as kind
use Rattle.orc_values.specs.Shapes.{Shape, scalar, list_of, map_of, struct_of}
use Rattle.orc_values.specs.Cells.{Cell, is_value, parts, pairs_in, values}
use Rattle.orc_column_reader.specs.Spellings.{Standing, size, concatenated}
use Rattle.orc_column_reader.specs.Columns.{IsBool, IsByte, IsInt, IsDate, IsText, IsBinary}
use Rattle.orc_column_reader.specs.Stripe.{plain}
use Rattle.orc_stripe_writer.specs.Dictionary.{AreDistinct, AreNamed, is_worth}
use Rattle.orc_stripe_writer.specs.WrittenStreams.{AreWrittenInts, AreWrittenMarks}

-- a column as it is written: its encoding, and the bytes of PRESENT, DATA, LENGTH and DICTIONARY_DATA; a stream that
-- the column doesn't have has no bytes
pub record Written : Type 0 where
  pub encoding : Encoding
  pub marks : List ℕ
  pub content : List ℕ
  pub lengths : List ℕ
  pub dictionary_data : List ℕ

-- DIRECT, or DIRECT_V2
abbrev pub direct : Rle → Encoding
direct One = record { kind = DIRECT; dictionary_size = 0 }
direct Two = record { kind = DIRECT_V2; dictionary_size = 0 }

-- DICTIONARY, or DICTIONARY_V2
abbrev pub dictionary : Rle → ℕ → Encoding
dictionary One entries = record { kind = DICTIONARY; dictionary_size = entries }
dictionary Two entries = record { kind = DICTIONARY_V2; dictionary_size = entries }

-- DATA has booleans; a column without streams of integers is DIRECT in either version
pub record WritesBooleans (w : Written) (bits : List Bool) : Type 0 where
  pub content_is : IsBitText bits w.content
  pub others : w ≡ record { encoding = plain; marks = w.marks; content = w.content; lengths = []; dictionary_data = [] }

-- DATA has bytes in runs
pub record HasBytes (w : Written) (bytes : List ℕ) : Type 0 where
  pub content_is : IsWritten byte_rule bytes w.content
  pub others : w ≡ record { encoding = plain; marks = w.marks; content = w.content; lengths = []; dictionary_data = [] }

-- DATA has numbers
pub record HasNumbers (rle : Rle) (w : Written) (numbers : List ℤ) : Type 0 where
  pub content_is : AreWrittenInts rle Signed numbers w.content
  pub others : w
      ≡ record { encoding = direct rle; marks = w.marks; content = w.content; lengths = []; dictionary_data = [] }

-- DATA has the byte strings one after the other, LENGTH their lengths
pub record HasStrings (rle : Rle) (w : Written) (strings : List (List ℕ)) : Type 0 where
  pub content_is : w.content ≡ concatenated strings
  pub lengths_are : AreWrittenInts rle Unsigned (map size strings) w.lengths
  pub others : w ≡ record {
    encoding = direct rle;
    marks = w.marks;
    content = w.content;
    lengths = w.lengths;
    dictionary_data = [];
  }

-- DATA has the place of each text among the entries, DICTIONARY_DATA and LENGTH have the entries
pub record HasDictionary (rle : Rle) (w : Written) (entries texts : List (List ℕ)) : Type 0 where
  pub places : List ℤ
  pub named : AreNamed entries places texts
  pub content_is : AreWrittenInts rle Unsigned places w.content
  pub lengths_are : AreWrittenInts rle Unsigned (map size entries) w.lengths
  pub dictionary_data_is : w.dictionary_data ≡ concatenated entries
  pub encoded : w.encoding ≡ dictionary rle (length entries)

-- strings with a dictionary, or without one
abbrev pub HasTextsIf : Bool → Rle → Written → List (List ℕ) → List (List ℕ) → Type 0
HasTextsIf true rle w entries texts = HasDictionary rle w entries texts
HasTextsIf false rle w entries texts = HasStrings rle w texts

-- a dictionary of the distinct texts if there are at least twice as many texts, else the texts one after the other
pub record HasTexts (rle : Rle) (w : Written) (texts : List (List ℕ)) : Type 0 where
  pub entries : List (List ℕ)
  pub distinct : AreDistinct texts entries
  pub written : HasTextsIf (is_worth (length entries) (length texts)) rle w entries texts

-- LENGTH has the sizes, and there is no other stream beside PRESENT
pub record HasSizes (rle : Rle) (w : Written) (sizes : List ℤ) : Type 0 where
  pub lengths_are : AreWrittenInts rle Unsigned sizes w.lengths
  pub others : w
      ≡ record { encoding = direct rle; marks = w.marks; content = []; lengths = w.lengths; dictionary_data = [] }

-- there is no stream beside PRESENT
abbrev pub HasNothing : Written → Type 0
HasNothing w = w ≡ record { encoding = plain; marks = w.marks; content = []; lengths = []; dictionary_data = [] }

-- the streams beside PRESENT are those of the values of a column without children
abbrev pub WritesScalar : Rle → Written → Scalar → List Cell → Type 0
WritesScalar rle w kind.Boolean vs = Standing IsBool (WritesBooleans w) vs
WritesScalar rle w kind.Byte vs = Standing IsByte (HasBytes w) vs
WritesScalar rle w kind.Short vs = Standing (IsInt kind.Short) (HasNumbers rle w) vs
WritesScalar rle w kind.Int vs = Standing (IsInt kind.Int) (HasNumbers rle w) vs
WritesScalar rle w kind.Long vs = Standing (IsInt kind.Long) (HasNumbers rle w) vs
WritesScalar rle w kind.Date vs = Standing IsDate (HasNumbers rle w) vs
WritesScalar rle w kind.String vs = Standing IsText (HasTexts rle w) vs
WritesScalar rle w kind.Binary vs = Standing IsBinary (HasStrings rle w) vs

-- the streams beside PRESENT are those of the values: of lists and maps their lengths, of structs none
abbrev pub WritesValues : Rle → Written → Shape → List Cell → Type 0
WritesValues rle w (scalar k o) vs = WritesScalar rle w k vs
WritesValues rle w (list_of s o) vs = HasSizes rle w (map (λ v. size (parts v)) vs)
WritesValues rle w (map_of k v o) vs = HasSizes rle w (map (λ m. size (pairs_in m)) vs)
WritesValues rle w (struct_of fs o) vs = HasNothing w

-- what is written of a column's cells
pub record IsWrittenColumn (rle : Rle) (s : Shape) (column : List Cell) (w : Written) : Type 0 where
  pub marks : AreWrittenMarks (map is_value column) w.marks
  pub written : WritesValues rle w s (values column)

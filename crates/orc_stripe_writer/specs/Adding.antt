-- What one more stream, or one more column, adds to the streams of a stripe (this project's).
use Rattle.std.specs.Prelude.{ℕ, ◌≡◌, List, ◌++◌}
use Rattle.orc_wire.specs.declared.encoding.Encoding.{Encoding}
use Rattle.orc_wire.specs.StreamKinds.{DATA, LENGTH, DICTIONARY_DATA}
use Rattle.orc_rle.specs.declared.sign.Rle.{Rle}
use Rattle.orc_values.specs.Shapes.{Shape}
use Rattle.orc_values.specs.Cells.{Cell}
use Rattle.orc_stripe_writer.specs.declared.body.Body.{Body}
use Rattle.orc_stripe_writer.specs.WrittenColumn.{Written, IsWrittenColumn}
use Rattle.orc_stripe_writer.specs.WrittenStripe.{line, column_bytes, column_lines}

-- bytes of this kind are added after the old ones
abbrev pub AppendsText : (List ℕ → Type 0) → List ℕ → List ℕ → Type 0
AppendsText is_text old new = (text : List ℕ) × is_text text × (new ≡ old ++ text)

-- one more stream is added, with its line in the directory
pub record AddsStream (is_text : List ℕ → Type 0) (c k : ℕ) (old new : Body) : Type 0 where
  pub text : List ℕ
  pub is : is_text text
  pub bytes : new.bytes.items ≡ old.bytes.items ++ text
  pub directory : new.directory.items ≡ old.directory.items ++ line c k text

-- the streams of a column's values are added, whatever its marks are
pub record AddsValues (is_written : Written → Type 0) (c : ℕ) (old new : Body) (encoding : Encoding) : Type 0 where
  pub content : List ℕ
  pub lengths : List ℕ
  pub dictionary_data : List ℕ
  pub is : (marks : List ℕ)
      → is_written (record {
        encoding = encoding;
        marks = marks;
        content = content;
        lengths = lengths;
        dictionary_data = dictionary_data;
      })
  pub bytes : new.bytes.items ≡ old.bytes.items ++ (content ++ (lengths ++ dictionary_data))
  pub directory : new.directory.items
      ≡ old.directory.items
      ++ (line c DATA content ++ (line c LENGTH lengths ++ line c DICTIONARY_DATA dictionary_data))

-- the streams of one more column are added
pub record AddsColumn (rle : Rle) (s : Shape) (column : List Cell) (c : ℕ) (old new : Body)
    (encoding : Encoding) : Type 0 where
  pub written : Written
  pub is : IsWrittenColumn rle s column written
  pub encoded : encoding ≡ written.encoding
  pub bytes : new.bytes.items ≡ old.bytes.items ++ column_bytes written
  pub directory : new.directory.items ≡ old.directory.items ++ column_lines c written

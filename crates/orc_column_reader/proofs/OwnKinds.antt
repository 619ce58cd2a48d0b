-- What stands for something of a stream is a value of the column's kind.
use Rattle.std.proofs.Common.{ℕ, ℤ, Bool, List, refl}
use Rattle.orc_values.specs.Cells.{Cell, bool, int, date, text, bytes}
use Rattle.orc_values.specs.Own.{IsValueOf}
use Rattle.orc_values.specs.declared.kind.Scalar.{Scalar}
use Rattle.orc_values.specs.declared.kind.Scalar.TheVariants as kind
use Rattle.orc_column_reader.specs.Columns.{IsBool, IsByte, signed_byte, IsInt, IsDate, IsText, IsBinary}
use Rattle.orc_column_reader.proofs.ByNumber.{byte_fits}

pub bool_kind : (b : Bool) (c : Cell) → IsBool b c → IsValueOf kind.Boolean c
bool_kind b c h = (bool b, h, refl)

pub byte_kind : (b : ℕ) (c : Cell) → IsByte b c → IsValueOf kind.Byte c
byte_kind b c h = (int (signed_byte b), h.1, byte_fits b h.0)

pub int_kind : (k : Scalar) (n : ℤ) (c : Cell) → IsInt k n c → IsValueOf k c
int_kind k n c h = (int n, h.1, h.0)

pub date_kind : (n : ℤ) (c : Cell) → IsDate n c → IsValueOf kind.Date c
date_kind n c h = (date n, h.1, h.0)

pub text_kind : (bs : List ℕ) (c : Cell) → IsText bs c → IsValueOf kind.String c
text_kind bs c h = (text bs, h.1, h.0)

pub binary_kind : (bs : List ℕ) (c : Cell) → IsBinary bs c → IsValueOf kind.Binary c
binary_kind bs c h = (bytes bs, h.1, h.0)

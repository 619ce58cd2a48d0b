-- The type that a whole text tells: how wide it is, and why there is none.
use Rattle.std.proofs.Common.{◌≡◌, ◌≢◌, ℕ, ◌+◌, ◌≤◌, List, [], ◌++◌, length, Bool, true, false, codes, sym, ap, ◌∙◌, arith, length-append, append-nil}
use Rattle.orc_values.specs.declared.kind.Scalar.{Scalar}
use Rattle.orc_values.specs.declared.kind.Scalar.TheVariants as kind
use Rattle.orc_trees.specs.declared.fault.TypeFault.{TypeFault}
use Rattle.orc_trees.specs.declared.fault.TypeFault.TheVariants as fault
use Rattle.orc_values.specs.Shapes.{Shape, scalar, list_of, map_of, struct_of, Fields, no_field, field, width, widths}
use Rattle.orc_trees.specs.SchemaText.{kind_name, comma, colon, text, fields_text, name_text, IsPlain}
use Rattle.orc_trees.specs.TextFaults.{TextFault}
use Rattle.orc_trees.specs.TextFronts.{IsTypeFront, FrontFault}
use Rattle.orc_trees.proofs.OneText.{one_text}

kind_long : (k : Scalar) → 1 ≤ length (kind_name k)
kind_long kind.Boolean = omega arith
kind_long kind.Byte = omega arith
kind_long kind.Short = omega arith
kind_long kind.Int = omega arith
kind_long kind.Long = omega arith
kind_long kind.String = omega arith
kind_long kind.Binary = omega arith
kind_long kind.Date = omega arith

field_long : (a b c d e : List ℕ) → length d + length e ≤ length (a ++ b ++ c ++ d ++ e)
field_long a b c d e = omega (arith, length-append (a ++ b ++ c ++ d) e, length-append (a ++ b ++ c) d)

-- a text has a byte for each type at least
mutual
  width_text : (s : Shape) → width s ≤ length (text s)
  width_text (scalar k o) = kind_long k
  width_text (list_of s o) = omega (arith, length-append (text s) (codes ">"), width_text s)
  width_text (map_of s t o) =
      omega (arith, length-append (text s ++ codes "," ++ text t) (codes ">"), length-append (text s ++ codes ",") (text t), length-append (text s) (codes ","), width_text s, width_text t)
  width_text (struct_of fs o) = omega (arith, length-append (fields_text true fs) (codes ">"), widths_text true fs)

  widths_text : (first : Bool) (fs : Fields) → widths fs ≤ length (fields_text first fs)
  widths_text first no_field = omega arith
  widths_text first (field name s fs) = omega (arith, field_long (comma first) (name_text name) colon (text s) (fields_text false fs), width_text s, widths_text false fs)

pub front_width : (bytes : List ℕ) (d : ℕ) (s : Shape) → IsTypeFront bytes d s [] → width s ≤ length bytes
front_width bytes d s found = omega (arith, width_text s, ap length (found.spelled ∙ append-nil (text s)))

-- why a text that is refused from the front is no schema's
pub front_fault : (bytes : List ℕ) (f : TypeFault) → FrontFault bytes 32 f → TextFault bytes f
front_fault bytes (fault.UnsupportedKind k) bad = bad
front_fault bytes fault.BadTree bad = bad
front_fault bytes fault.TooDeep bad = bad
front_fault bytes fault.TooMany bad = absurd bad
front_fault bytes fault.RootNotStruct bad = absurd bad
front_fault bytes (fault.BadText place) bad = (bad.0, λ s plain h. bad.1 s [] plain (h ∙ sym (append-nil (text s))))
front_fault bytes fault.OutOfMemory bad = tt

-- bytes are left behind a type's text
pub more_text : (bytes : List ℕ) (d : ℕ) (s : Shape) (rest : List ℕ) → IsTypeFront bytes d s rest → rest ≢ [] → (t : Shape) → IsPlain t → bytes ≡ text t → ⊥
more_text bytes d s rest found some t plain h = some (one_text s t rest [] found.plain plain (sym found.spelled ∙ h ∙ sym (append-nil (text t)))).1

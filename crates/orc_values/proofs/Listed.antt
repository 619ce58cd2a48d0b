-- The fields from a place on.
use Rattle.std.proofs.Common.{◌≡◌, ℕ, suc, ◌+◌, ◌<◌, List, ◌∷◌, length, get_or, drop, string_bytes, refl, ap, drop-cons}
use Rattle.orc_values.specs.Shapes.{field, width, widths, names_of, starts}
use Rattle.orc_values.specs.Views.{shape, fields}
use Rattle.orc_values.specs.declared.tree.Field.{Field}
use Rattle.orc_values.proofs.Views.{name_and_type-is}

-- the fields from a place on are one field and those behind it
pub fields_from : (fs : List Field) (i : ℕ) (f : Field) → i < length fs → f ≡ get_or fs i f → fields (drop i fs) ≡ field (string_bytes f.name) (shape f.tree) (fields (drop (suc i) fs))
fields_from fs i f h is = rw (drop-cons fs i f, ← is, name_and_type-is f) refl

pub widths_from : (fs : List Field) (i : ℕ) (f : Field) → i < length fs → f ≡ get_or fs i f → widths (fields (drop i fs)) ≡ width (shape f.tree) + widths (fields (drop (suc i) fs))
widths_from fs i f h is = ap widths (fields_from fs i f h is)

pub starts_from : (fs : List Field) (i : ℕ) (f : Field) (n : ℕ) → i < length fs → f ≡ get_or fs i f → starts (fields (drop i fs)) n ≡ n ∷ starts (fields (drop (suc i) fs)) (n + width (shape f.tree))
starts_from fs i f n h is = ap (λ gs. starts gs n) (fields_from fs i f h is)

pub names_from : (fs : List Field) (i : ℕ) (f : Field) → i < length fs → f ≡ get_or fs i f → names_of (fields (drop i fs)) ≡ string_bytes f.name ∷ names_of (fields (drop (suc i) fs))
names_from fs i f h is = ap names_of (fields_from fs i f h is)

-- The text of fields, one after the other.
use Rattle.std.proofs.Common.{◌≡◌, ℕ, suc, ◌<◌, List, ◌++◌, length, get_or, drop, ◌==◌, string_bytes, append_assoc, drop-cons}
use Rattle.std.proofs.Math.Dec.{eqb-suc-zero}
use Rattle.orc_trees.specs.SchemaText.{text, fields_text, comma, colon, name_text}
use Rattle.orc_values.specs.Views.{shape, fields}
use Rattle.orc_values.specs.declared.tree.Field.{Field}
use Rattle.orc_values.proofs.Views.{name_and_type-is}

pub text_more : (fs : List Field) (i : ℕ) (f : Field) (a b : List ℕ) → i < length fs → f ≡ get_or fs i f → b ≡ a ++ comma (i == 0) ++ name_text (string_bytes f.name) ++ colon ++ text (shape f.tree)
    → b ++ fields_text (suc i == 0) (fields (drop (suc i) fs)) ≡ a ++ fields_text (i == 0) (fields (drop i fs))
text_more fs i f a b h is e = rw (drop-cons fs i f, ← is, name_and_type-is f, e, eqb-suc-zero i) (simp append_assoc)

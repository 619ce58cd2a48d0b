-- No rows have no cells, and a struct without parts has none in its fields' columns.
use Rattle.std.proofs.Common.{◌≡◌, ℕ, zero, suc, ◌-◌, [], ◌∷◌, inl, inr, map, refl, sym, ◌∙◌}
use Rattle.std.proofs.lemmas.Bool.Decides.{leb_tells}
use Rattle.orc_values.specs.Shapes.{Shape, scalar, list_of, map_of, struct_of, Fields, no_field, field, width}
use Rattle.orc_values.specs.Cells.{Cell, null, leaf, list, struct, pairs, parts, values}
use Rattle.orc_values.specs.Columns.{cells, cells_within}

mutual
  pub no_rows : (s : Shape) (c : ℕ) → cells s c [] ≡ []
  no_rows (scalar k o) c = refl
  no_rows (list_of s o) zero = refl
  no_rows (list_of s o) (suc c) = no_rows s c
  no_rows (map_of k v o) zero = refl
  no_rows (map_of k v o) (suc c) =
      elim (leb_tells (suc c) (width k)) [ inl p ↦ rw p.0 (no_rows k c) | inr p ↦ rw p.0 (no_rows v (c - width k)) ]
  no_rows (struct_of fs o) zero = refl
  no_rows (struct_of fs o) (suc c) = no_structs fs c

  pub no_structs : (fs : Fields) (c : ℕ) → cells_within fs c [] ≡ []
  no_structs no_field c = refl
  no_structs (field name s fs) c =
      elim (leb_tells (suc c) (width s)) [ inl p ↦ rw p.0 (no_rows s c) | inr p ↦ rw p.0 (no_structs fs (c - width s)) ]

-- a struct with no parts
pub no_parts : (fs : Fields) (c : ℕ) → cells_within fs c ([] ∷ []) ≡ []
no_parts no_field c = refl
no_parts (field name s fs) c =
    elim (leb_tells (suc c) (width s)) [ inl p ↦ rw p.0 (no_rows s c) | inr p ↦ rw p.0 (no_parts fs (c - width s)) ]

-- the fields of one struct, which are none where it is null
pub one_struct : (fs : Fields) (c : ℕ) (cell : Cell) → cells_within fs c (map parts (values (cell ∷ []))) ≡ cells_within fs c (parts cell ∷ [])
one_struct fs c null = no_structs fs c ∙ sym (no_parts fs c)
one_struct fs c (leaf a) = refl
one_struct fs c (list cs) = refl
one_struct fs c (struct cs) = refl
one_struct fs c (pairs ps) = refl

-- A type's text goes no deeper than the type.
use Rattle.std.proofs.Common.{◌≡◌, ℕ, zero, suc, ◌<◌, List, ◌++◌, Bool, true, false, codes, refl, sym, ◌∙◌, arith}
use Rattle.std.proofs.lemmas.List.{append_cancel_left}
use Rattle.orc_values.specs.Shapes.{Shape, scalar, list_of, map_of, struct_of, Fields, no_field, field, depth, depths}
use Rattle.orc_trees.specs.SchemaText.{comma, colon, text, fields_text, name_text, IsName, IsPlain, ArePlain}
use Rattle.orc_trees.specs.TextFaults.{is_empty, element, key, value, member, Opens}
use Rattle.orc_trees.proofs.Depths.{depth_pos}
use Rattle.orc_trees.proofs.OneText.{kind_or_map, array_or_map, map_or_struct, map_text, kind_or_array, kind_or_struct, array_or_struct, array_text, struct_text, field_text, no_field_closes, one_field, one_text}

-- whether a field would be the first behind these
abbrev pub begins : Bool → Fields → Bool
begins first no_field = first
begins first (field name s fs) = false

pub begins_later : (fs : Fields) → begins false fs ≡ false
begins_later no_field = refl
begins_later (field name s fs) = refl

pub begins_first : (fs : Fields) → begins true fs ≡ is_empty fs
begins_first no_field = refl
begins_first (field name s fs) = refl

-- a type's text goes no deeper than the type
mutual
  pub opens_tree : (s : Shape) (bytes rest : List ℕ) (steps : ℕ) → IsPlain s → bytes ≡ text s ++ rest → Opens bytes steps → steps < depth s
  opens_tree s bytes rest zero plain h way = depth_pos s
  opens_tree (scalar k o) bytes rest (suc steps) plain h (inner, element e, deeper) = absurd (kind_or_array k rest inner (sym h ∙ e))
  opens_tree (scalar k o) bytes rest (suc steps) plain h (inner, member fields e enters, deeper) = absurd (kind_or_struct k rest fields (sym h ∙ e))
  opens_tree (scalar k o) bytes rest (suc steps) plain h (inner, key e, deeper) = absurd (kind_or_map k rest _ (sym h ∙ e))
  opens_tree (scalar k o) bytes rest (suc steps) plain h (inner, value t is e, deeper) = absurd (kind_or_map k rest _ (sym h ∙ e))
  opens_tree (list_of s o) bytes rest (suc steps) plain h (inner, key e, deeper) = absurd (array_or_map _ _ (sym (array_text s o rest) ∙ sym h ∙ e))
  opens_tree (list_of s o) bytes rest (suc steps) plain h (inner, value t is e, deeper) = absurd (array_or_map _ _ (sym (array_text s o rest) ∙ sym h ∙ e))
  opens_tree (struct_of fs o) bytes rest (suc steps) plain h (inner, key e, deeper) = absurd (map_or_struct _ _ (sym e ∙ h ∙ struct_text fs o rest))
  opens_tree (struct_of fs o) bytes rest (suc steps) plain h (inner, value t is e, deeper) = absurd (map_or_struct _ _ (sym e ∙ h ∙ struct_text fs o rest))
  opens_tree (map_of s t o) bytes rest (suc steps) plain h (inner, element e, deeper) = absurd (array_or_map inner _ (sym e ∙ h ∙ map_text s t o rest))
  opens_tree (map_of s t o) bytes rest (suc steps) plain h (inner, member fields e enters, deeper) = absurd (map_or_struct _ fields (sym (map_text s t o rest) ∙ sym h ∙ e))
  opens_tree (map_of s t o) bytes rest (suc steps) plain h (inner, key e, deeper) =
      let more : steps < depth s = opens_tree s inner (codes "," ++ (text t ++ (codes ">" ++ rest))) steps plain.1 (append_cancel_left (codes "map<") _ _ (sym e ∙ h ∙ map_text s t o rest)) deeper in
      omega arith
  opens_tree (map_of s t o) bytes rest (suc steps) plain h (inner, value u is e, deeper) =
      let r = one_text u s (codes "," ++ inner) (codes "," ++ (text t ++ (codes ">" ++ rest))) is plain.1 (append_cancel_left (codes "map<") _ _ (sym e ∙ h ∙ map_text s t o rest)) in
      let more : steps < depth t = opens_tree t inner (codes ">" ++ rest) steps plain.2 (append_cancel_left (codes ",") _ _ r.1) deeper in
      omega arith
  opens_tree (list_of s o) bytes rest (suc steps) plain h (inner, element e, deeper) =
      let more : steps < depth s = opens_tree s inner (codes ">" ++ rest) steps plain.1 (append_cancel_left (codes "array<") _ _ (sym e ∙ h ∙ array_text s o rest)) deeper in
      omega arith
  opens_tree (list_of s o) bytes rest (suc steps) plain h (inner, member fields e enters, deeper) = absurd (array_or_struct _ fields (sym (array_text s o rest) ∙ sym h ∙ e))
  opens_tree (struct_of fs o) bytes rest (suc steps) plain h (inner, element e, deeper) = absurd (array_or_struct inner _ (sym e ∙ h ∙ struct_text fs o rest))
  opens_tree (struct_of fs o) bytes rest (suc steps) plain h (inner, member fields e enters, deeper) =
      let here : fields ≡ fields_text true fs ++ (codes ">" ++ rest) = append_cancel_left (codes "struct<") _ _ (sym e ∙ h ∙ struct_text fs o rest) in
      let more : steps < depths fs = opens_fields true fs enters.before enters.name inner rest steps plain.1 enters.plain enters.named (sym here ∙ rw begins_first enters.spelled) deeper in
      omega arith

  opens_fields : (first : Bool) (fs before : Fields) (name inner rest : List ℕ) (steps : ℕ) → ArePlain fs → ArePlain before → IsName name
      → fields_text first fs ++ (codes ">" ++ rest) ≡ fields_text first before ++ (comma (begins first before) ++ (name_text name ++ (colon ++ inner))) → Opens inner steps → steps < depths fs
  opens_fields first no_field no_field name inner rest steps a b is h way = absurd (no_field_closes first name rest (colon ++ inner) h)
  opens_fields first no_field (field other t gs) name inner rest steps a b is h way =
      absurd (no_field_closes first other rest _ (h ∙ field_text first other t gs (comma false ++ (name_text name ++ (colon ++ inner)))))
  opens_fields first (field other s fs) no_field name inner rest steps a b is h way =
      let n = one_field first other name _ inner a.0 is (sym (field_text first other s fs (codes ">" ++ rest)) ∙ h) in
      let more : steps < depth s = opens_tree s inner (fields_text false fs ++ (codes ">" ++ rest)) steps a.1 (sym n.1) way in
      omega arith
  opens_fields first (field other s fs) (field another t gs) name inner rest steps a b is h way =
      let n = one_field first other another _ _ a.0 b.0 (sym (field_text first other s fs (codes ">" ++ rest)) ∙ h ∙ field_text first another t gs (comma false ++ (name_text name ++ (colon ++ inner)))) in
      let r = one_text s t (fields_text false fs ++ (codes ">" ++ rest)) (fields_text false gs ++ (comma false ++ (name_text name ++ (colon ++ inner)))) a.1 b.1 n.1 in
      let later : fields_text false fs ++ (codes ">" ++ rest) ≡ fields_text false gs ++ (comma (begins false gs) ++ (name_text name ++ (colon ++ inner))) = rw begins_later r.1 in
      let more : steps < depths fs = opens_fields false fs gs name inner rest steps a.2 b.2 is later way in
      omega arith

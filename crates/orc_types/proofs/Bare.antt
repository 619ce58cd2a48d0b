-- A schema's text is that of its kinds and names.
use Rattle.std.proofs.Common.{◌≡◌, [], Bool, true, false, refl, sym, ◌∙◌, append-nil}
use Rattle.orc_values.specs.Shapes.{Shape, scalar, list_of, map_of, struct_of, Fields, no_field, field, width, widths, depth, depths, IsStruct, HasTextNames, HaveTextNames}
use Rattle.orc_types.specs.Schemas.{IsSchema, HasText}
use Rattle.orc_trees.specs.SchemaText.{text, fields_text, IsPlain, ArePlain, bare, bare_fields}
use Rattle.orc_trees.specs.TextFronts.{IsTypeFront}
use Rattle.orc_types.proofs.TextSchemas.{text_schema}

mutual
  text-bare : (s : Shape) → text (bare s) ≡ text s
  text-bare (scalar k o) = refl
  text-bare (list_of s o) = rw (text-bare s) refl
  text-bare (map_of s t o) = rw (text-bare s, text-bare t) refl
  text-bare (struct_of fs o) = rw (fields_text-bare true fs) refl

  fields_text-bare : (first : Bool) (fs : Fields) → fields_text first (bare_fields fs) ≡ fields_text first fs
  fields_text-bare first no_field = refl
  fields_text-bare first (field name s fs) = rw (text-bare s, fields_text-bare false fs) refl

mutual
  width-bare : (s : Shape) → width (bare s) ≡ width s
  width-bare (scalar k o) = refl
  width-bare (list_of s o) = rw (width-bare s) refl
  width-bare (map_of s t o) = rw (width-bare s, width-bare t) refl
  width-bare (struct_of fs o) = rw (widths-bare fs) refl

  widths-bare : (fs : Fields) → widths (bare_fields fs) ≡ widths fs
  widths-bare no_field = refl
  widths-bare (field name s fs) = rw (width-bare s, widths-bare fs) refl

mutual
  depth-bare : (s : Shape) → depth (bare s) ≡ depth s
  depth-bare (scalar k o) = refl
  depth-bare (list_of s o) = rw (depth-bare s) refl
  depth-bare (map_of s t o) = rw (depth-bare s, depth-bare t) refl
  depth-bare (struct_of fs o) = rw (depths-bare fs) refl

  depths-bare : (fs : Fields) → depths (bare_fields fs) ≡ depths fs
  depths-bare no_field = refl
  depths-bare (field name s fs) = rw (depth-bare s, depths-bare fs) refl

struct-bare : (s : Shape) → IsStruct s → IsStruct (bare s)
struct-bare (scalar k o) h = h
struct-bare (list_of s o) h = h
struct-bare (map_of s t o) h = h
struct-bare (struct_of fs o) h = h

-- a schema's names are text
mutual
  plain-bare : (s : Shape) → HasTextNames s → IsPlain (bare s)
  plain-bare (scalar k o) h = refl
  plain-bare (list_of s o) h = (refl, plain-bare s h)
  plain-bare (map_of s t o) h = (refl, plain-bare s h.0, plain-bare t h.1)
  plain-bare (struct_of fs o) h = (refl, all_plain-bare fs h)

  all_plain-bare : (fs : Fields) → HaveTextNames fs → ArePlain (bare_fields fs)
  all_plain-bare no_field h = tt
  all_plain-bare (field name s fs) h = (h.0, plain-bare s h.1, all_plain-bare fs h.2)

pub bare_text : (s : Shape) → IsSchema s → HasText (bare s) (text s)
bare_text s h =
    let front : IsTypeFront (text s) 32 (bare s) [] = record { plain = plain-bare s h.names; depth = rw (depth-bare s) h.levels; spelled = sym (text-bare s) ∙ sym (append-nil (text (bare s))) } in
    text_schema (text s) (bare s) front (struct-bare s h.root) (rw (width-bare s) h.count)

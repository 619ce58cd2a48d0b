-- The list of a schema's types in pre-order (ORC specification, "Types": the tree's flat list).
use Rattle.std.specs.Prelude.{ℕ, ◌+◌, ◌++◌, List, [], ◌∷◌}
use Rattle.orc_values.specs.Kinds.{number, list_number, map_number, struct_number}
use Rattle.orc_values.specs.Shapes.{Shape, scalar, list_of, map_of, struct_of, Fields, no_field, field, width, starts, names_of}
use Rattle.orc_wire.specs.declared.type_msg.TypeMsg.{TypeMsg}

-- A type stands before all that it contains. A LIST has one subtype, a MAP has two, a STRUCT a name
-- and a subtype for each field, the others neither; n is the first type's place.
abbrev mutual
  pub types : Shape → ℕ → List TypeMsg
  types (scalar k o) n = record { kind = number k; subtypes = []; field_names = []; kept = o } ∷ []
  types (list_of s o) n =
      record { kind = list_number; subtypes = (n + 1) ∷ []; field_names = []; kept = o } ∷ types s (n + 1)
  types (map_of k v o) n =
      record { kind = map_number; subtypes = (n + 1) ∷ (n + 1 + width k) ∷ []; field_names = []; kept = o }
      ∷ (types k (n + 1) ++ types v (n + 1 + width k))
  types (struct_of fs o) n =
      record { kind = struct_number; subtypes = starts fs (n + 1); field_names = names_of fs; kept = o }
      ∷ fields_types fs (n + 1)

  pub fields_types : Fields → ℕ → List TypeMsg
  fields_types no_field n = []
  fields_types (field name s fs) n = types s n ++ fields_types fs (n + width s)

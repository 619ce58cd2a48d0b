-- The JSON that a row prints as (values by RFC 8259, types by the ORC specification, "Types").
use Rattle.std.specs.Prelude.{ℕ, ◌≡◌, List, true}
use Rattle.std.specs.Ordering.{is_lt, nat_cmp}
use Rattle.std.specs.Cmp.Lexicographic.{slice_cmp}
use Rattle.serde_json.specs.Data.{Data, null as nothing, array, object, Items, no_items, item, Members, no_members, member, put}
use Rattle.orc_values.specs.Shapes.{Shape, scalar, list_of, map_of, struct_of, Fields, no_field, field}
use Rattle.orc_values.specs.Cells.{Cell, leaf, list, struct, pairs, Cells, end, more, Pairs, no_pair, pair}
use Rattle.orc_json_rows.specs.JsonLeaves.{atom_json}

-- the elements of an array, a cell each
abbrev pub each_json : (Cell → Data) → Cells → Items
each_json f end = no_items
each_json f (more c cs) = item (f c) (each_json f cs)

-- null where the cell isn't one of the type
abbrev pub scalar_json : Cell → Data
scalar_json (leaf a) = atom_json a
scalar_json _ = nothing

-- a list as an array of its elements
abbrev pub list_json : (Cell → Data) → Cell → Data
list_json f (list cs) = array (each_json f cs)
list_json f _ = nothing

-- an array of two
abbrev pub pair_json : Data → Data → Data
pair_json k v = array (item k (item v no_items))

-- the elements of an array, a pair each
abbrev pub pairs_json : (Cell → Data) → (Cell → Data) → Pairs → Items
pairs_json f g no_pair = no_items
pairs_json f g (pair k v ps) = item (pair_json (f k) (g v)) (pairs_json f g ps)

-- a map as an array of its pairs
abbrev pub map_json : (Cell → Data) → (Cell → Data) → Cell → Data
map_json f g (pairs ps) = array (pairs_json f g ps)
map_json f g _ = nothing

-- a struct as an object of its fields
abbrev pub struct_json : (Cells → Members) → Cell → Data
struct_json f (struct cs) = object (f cs)
struct_json f _ = nothing

-- an object has its fields' names as keys, in byte order, which `put` keeps
abbrev mutual
  pub json_of : Shape → Cell → Data
  json_of (scalar k o) c = scalar_json c
  json_of (list_of s o) c = list_json (λ x. json_of s x) c
  json_of (map_of k v o) c = map_json (λ x. json_of k x) (λ x. json_of v x) c
  json_of (struct_of fs o) c = struct_json (λ cs. members_json fs cs no_members) c

  -- the members so far, and those of the fields
  pub members_json : Fields → Cells → Members → Members
  members_json no_field cs ms = ms
  members_json (field name s fs) end ms = ms
  members_json (field name s fs) (more c cs) ms = members_json fs cs (put name (json_of s c) ms)

-- each key is below the next one, as lists of bytes
abbrev pub KeysAscendFrom : List ℕ → Members → Type 0
KeysAscendFrom k no_members = Unit {0}
KeysAscendFrom k (member l d ms) = is_lt (slice_cmp nat_cmp k l) ≡ true

-- an object's keys in ascending order
abbrev pub AreInOrder : Members → Type 0
AreInOrder no_members = Unit {0}
AreInOrder (member k d ms) = KeysAscendFrom k ms × AreInOrder ms

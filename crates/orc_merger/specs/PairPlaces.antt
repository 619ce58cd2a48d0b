-- How pairs of user metadata are found by their names (own).
use Rattle.std.specs.Prelude.{◌≡◌, ℕ, ◌<◌, List, length, Option, Some, IsSome, Contains}
use Rattle.std.specs.List.{HoldsAt}
use Rattle.std.specs.BTreeMap.{BTreeMap, get_by}
use Rattle.std.specs.Ordering.{nat_cmp}
use Rattle.std.specs.Cmp.Lexicographic.{slice_cmp}
use Rattle.std.specs.declared.vec.Vec.{Vec}
use Rattle.orc_wire.specs.declared.footer.UserMetadataItem.{UserMetadataItem}

-- the index that a map has for a name
abbrev pub place_of : {Y : Type 0} → BTreeMap (Vec ℕ Y) ℕ → List ℕ → Option ℕ
place_of {Y} places name = get_by (λ (k : Vec ℕ Y). slice_cmp nat_cmp name k.items) places

-- the list has a pair of this name at this index
abbrev pub IsNamedAt : List UserMetadataItem → List ℕ → ℕ → Type 0
IsNamedAt pairs name i = (i < length pairs) × HoldsAt (λ (p : UserMetadataItem). p.name ≡ name) pairs i

-- For each pair's name the map has an index, and at the index that it has for a name the list has a pair of this
-- name.
pub record ArePairPlaces {Y : Type 0} (pairs : List UserMetadataItem) (places : BTreeMap (Vec ℕ Y) ℕ) : Type 0 where
  pub each : (p : UserMetadataItem) → Contains pairs p → IsSome (place_of places p.name)
  pub found : (name : List ℕ) (i : ℕ) → place_of places name ≡ Some i → IsNamedAt pairs name i

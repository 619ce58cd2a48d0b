-- The files in memory at a path, and what it means that a file at a path is found or made.
use Rattle.std.specs.Prelude.{◌≡◌, ◌+◌, ◌<◌, ◌⊎◌, ℕ, List, [], Option, Some, None, IsSome, map, option_map, find, slice_index, if◌then◌else◌}
use Rattle.std.specs.Borrow.{Bor}
use Rattle.std.specs.Str.{bytes_eq}
use Rattle.std.specs.declared.vec.Vec.{Vec}

-- the bytes of the first file with this path
abbrev pub held_at : List (Bor (List ℕ) × Bor (List ℕ)) → List ℕ → Option (List ℕ)
held_at files path = option_map (λ file. file.1.now) (find (λ file. bytes_eq file.0.now path) files)

-- the bytes of the file that was made, if it has this path
abbrev pub made_at : {Z : Type 0} → Option (Bor (List ℕ) × Vec ℕ Z) → List ℕ → Option (List ℕ)
made_at None path = None
made_at (Some file) path = if bytes_eq file.0.now path then Some file.1.items else None

-- Devices of this kind can fail: the count of failures of one of them, or of one at a later moment, may be one more
-- than that of another. A device that never fails, such as a source in memory, has the same count at any moment.
abbrev pub CanFail : {D : Type 0} → (D → ℕ) → Type 0
CanFail {D} failures = (before : D) × (after : D) × (failures after ≡ failures before + 1)

-- devices of this kind can fail, as the one with this number in a list
abbrev pub CanFailAt : {D : Type 0} → (D → ℕ) → ℕ → Type 0
CanFailAt {D} failures i =
    (before : List D) × (after : List D) × (slice_index (map failures before) i < slice_index (map failures after) i)

-- A file is found, and `Found` holds; or it isn't found, and `NotFound` holds. A file whose bytes are known is found,
-- and one that the place lacks isn't.
abbrev pub Finds : (lacks : Type 0) → Option (List ℕ) → Type 0 → Type 0 → Type 0
Finds lacks told Found NotFound = ((lacks → ⊥) × Found) ⊎ ((IsSome told → ⊥) × NotFound)

-- A file is made, and `Made` holds for its first bytes; or it isn't made, and `NotMade` holds. A file that the place
-- lacks is made empty, and one whose bytes are known isn't made.
abbrev pub Makes : (lacks : Type 0) → Option (List ℕ) → (Option (List ℕ) → Type 0) → Type 0 → Type 0
Makes lacks told Made NotMade =
    ((IsSome told → ⊥) × ((first : Option (List ℕ)) × (lacks → first ≡ Some []) × Made first))
    ⊎ ((lacks → ⊥) × NotMade)

-- A cell that fits a type is one of its kind of statistic.
use Rattle.std.proofs.Common.{◌≡◌, refl, true, List, [], ◌∷◌}
use Rattle.orc_values.specs.declared.kind.Scalar.{Scalar}
use Rattle.orc_values.specs.declared.kind.Scalar.TheVariants as scalar_kind
use Rattle.orc_values.specs.Shapes.{Shape, scalar, list_of, map_of, struct_of}
use Rattle.orc_values.specs.Cells.{Atom, bool, int, date, text, bytes, Cell, null, leaf, list, struct, pairs}
use Rattle.orc_values.specs.Fits.{atom_fits, fits, RowsFit}
use Rattle.orc_stats.specs.Kinds.{kind_of_scalar, kind_of, atom_is_of, is_of}
use Rattle.std.specs.List.{AllByRecursion}

atom_kind : (k : Scalar) (a : Atom) → atom_fits k a ≡ true → atom_is_of (kind_of_scalar k) a ≡ true
atom_kind scalar_kind.Boolean (bool b) h = refl
atom_kind scalar_kind.Boolean _ h = cc
atom_kind scalar_kind.Byte (int z) h = refl
atom_kind scalar_kind.Byte _ h = cc
atom_kind scalar_kind.Short (int z) h = refl
atom_kind scalar_kind.Short _ h = cc
atom_kind scalar_kind.Int (int z) h = refl
atom_kind scalar_kind.Int _ h = cc
atom_kind scalar_kind.Long (int z) h = refl
atom_kind scalar_kind.Long _ h = cc
atom_kind scalar_kind.String (text s) h = refl
atom_kind scalar_kind.String _ h = cc
atom_kind scalar_kind.Binary (bytes s) h = refl
atom_kind scalar_kind.Binary _ h = cc
atom_kind scalar_kind.Date (date z) h = refl
atom_kind scalar_kind.Date _ h = cc

pub cell_kind : (c : Cell) (s : Shape) → fits c s ≡ true → is_of (kind_of s) c ≡ true
cell_kind null s h = refl
cell_kind (leaf a) (scalar k o) h = atom_kind k a h
cell_kind (leaf a) (list_of s o) h = cc
cell_kind (leaf a) (map_of k v o) h = cc
cell_kind (leaf a) (struct_of fs o) h = cc
cell_kind (list cs) (scalar k o) h = cc
cell_kind (list cs) (list_of s o) h = refl
cell_kind (list cs) (map_of k v o) h = cc
cell_kind (list cs) (struct_of fs o) h = cc
cell_kind (struct cs) (scalar k o) h = cc
cell_kind (struct cs) (list_of s o) h = cc
cell_kind (struct cs) (map_of k v o) h = cc
cell_kind (struct cs) (struct_of fs o) h = refl
cell_kind (pairs ps) (scalar k o) h = cc
cell_kind (pairs ps) (list_of s o) h = cc
cell_kind (pairs ps) (map_of k v o) h = refl
cell_kind (pairs ps) (struct_of fs o) h = cc

pub are_of_kind : (s : Shape) (cs : List Cell) → RowsFit s cs → AllByRecursion (λ c. is_of (kind_of s) c ≡ true) cs
are_of_kind s [] h = tt
are_of_kind s (c ∷ cs) h = (cell_kind c s h.0, are_of_kind s cs h.1)

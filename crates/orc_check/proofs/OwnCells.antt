-- A column's own cells are cells that its streams spell, and groups of them are groups of such cells.
use Rattle.std.proofs.Common.{◌≡◌, ◌∙◌, ℕ, pos, List, [], ◌∷◌, map, refl, sym, ap, subst, arith}
use Rattle.orc_values.specs.Cells.{Cell, parts, pairs_in, values}
use Rattle.orc_values.specs.Childless.{list_of_size, map_of_size}
use Rattle.orc_values.specs.Shapes.{Shape, scalar, list_of, map_of, struct_of}
use Rattle.orc_values.proofs.Childless.{list_size, map_size}
use Rattle.orc_column_reader.specs.Numbers.{AreNumbers}
use Rattle.orc_column_reader.specs.Spellings.{size}
use Rattle.orc_column_reader.specs.Stripe.{Streams, version, SpellsValues, IsColumn}
use Rattle.orc_row_groups.specs.Bounds.{AreBounds}
use Rattle.orc_column_walk.specs.ColumnFound.{IsColumnFound}
use Rattle.orc_column_walk.specs.OwnColumns.{SpellsOwnValues, IsOwnColumn}
use Rattle.orc_column_walk.specs.declared.found.ColumnFound.{ColumnFound}
use Rattle.orc_check.specs.OwnGroups.{HaveCells}

list_sizes : (sizes : List ℕ) → map pos sizes ≡ map (λ v. size (parts v)) (map list_of_size sizes)
list_sizes [] = refl
list_sizes (n ∷ ns) = ap (λ (k : ℕ). pos k ∷ map pos ns) (sym (list_size n)) ∙ ap (λ t. size (parts (list_of_size n)) ∷ t) (list_sizes ns)

map_sizes : (sizes : List ℕ) → map pos sizes ≡ map (λ m. size (pairs_in m)) (map map_of_size sizes)
map_sizes [] = refl
map_sizes (n ∷ ns) = ap (λ (k : ℕ). pos k ∷ map pos ns) (sym (map_size n)) ∙ ap (λ t. size (pairs_in (map_of_size n)) ∷ t) (map_sizes ns)

own_values : (s : Shape) (x : Streams) (vs : List Cell) → SpellsOwnValues s x vs → SpellsValues s x vs
own_values (scalar k o) x vs h = h
own_values (list_of s o) x vs h =
    subst (AreNumbers (version x) _ (x.stream 2)) (list_sizes h.0 ∙ ap (λ (cs : List Cell). map (λ v. size (parts v)) cs) (sym h.2)) h.1
own_values (map_of k v o) x vs h =
    subst (AreNumbers (version x) _ (x.stream 2)) (map_sizes h.0 ∙ ap (λ (cs : List Cell). map (λ m. size (pairs_in m)) cs) (sym h.2)) h.1
own_values (struct_of fs o) x vs h = tt

own_column : (s : Shape) (x : Streams) (n : ℕ) (own : List Cell) → IsOwnColumn s x n own → IsColumn s x own
own_column s x n own h = record { few = omega (arith, h.counted, h.few); marks = h.spelled.0; spelled = own_values s x (values own) h.spelled.1 }

-- what is found of the groups of a column's own cells
pub own_groups : (s : Shape) (x : Streams) (n : ℕ) (bounds : List ℕ) (f : ColumnFound) → AreBounds n bounds → (own : List Cell) × IsOwnColumn s x n own × IsColumnFound s own bounds f → HaveCells s x f.groups.items
own_groups s x n bounds f rising h = (
  h.0,
  bounds,
  record {
    column = own_column s x n h.0 h.1;
    ascending = subst (λ (m : ℕ). AreBounds m bounds) (sym h.1.counted) rising;
    counted = h.2.counted;
    are = h.2.groups_are;
  },
)

-- What is found of a column's own cells is found of the cells of the rows.
use Rattle.std.proofs.Common.{◌≡◌, ℕ, suc, ◌+◌, ◌<◌, true, ltb, List, length, map, min, take, drop, refl, ap, ◌∙◌, subst, arith}
use Rattle.std.specs.List.{flat_map, drop-map}
use Rattle.std.proofs.lemmas.Bool.{lt-ltb}
use Rattle.std.proofs.lemmas.List.{length-map, take-map}
use Rattle.orc_values.specs.Cells.{Cell, parts, keys_in, values}
use Rattle.orc_values.specs.Childless.{childless}
use Rattle.orc_values.specs.Columns.{cells}
use Rattle.orc_values.specs.Fits.{fits, RowsFit}
use Rattle.orc_values.specs.Shapes.{Shape, scalar, list_of, map_of, struct_of, width, shape_at}
use Rattle.orc_values.proofs.Deeper.{at_within, width_pos, cells-add, cells-zero}
use Rattle.orc_values.proofs.Together.{cells_fit}
use Rattle.orc_column_reader.specs.Stripe.{Streams, SpellRows}
use Rattle.orc_values.specs.Limits.{cell_limit}
use Rattle.orc_row_groups.specs.Bounds.{bound_at, before_group, group_of, elements_before, pairs_before, values_before}
use Rattle.orc_row_groups.specs.Counts.{AreCounted, most}
use Rattle.orc_row_groups.specs.declared.counts.Counts.{Counts}
use Rattle.orc_stats.specs.Kinds.{kind_of}
use Rattle.orc_stats.specs.Statistics.{stat}
use Rattle.orc_column_walk.specs.ColumnFound.{bounds_below, IsGroupFound, IsColumnFound}
use Rattle.orc_column_walk.specs.OwnColumns.{IsOwnColumn, elements_together, pairs_together}
use Rattle.orc_column_walk.specs.OwnLeft.{children}
use Rattle.orc_column_walk.specs.declared.found.ColumnFound.{ColumnFound}
use Rattle.orc_column_walk.specs.declared.found.GroupFound.{GroupFound}
use Rattle.orc_column_walk.proofs.ChildlessLemmas.{HasRoom, own_of, elements_childless, pairs_childless, keys_long}
use Rattle.orc_column_walk.proofs.OneOwn.{one_column}
use Rattle.orc_column_walk.proofs.StatChildless.{stat_childless}
use Rattle.orc_values.proofs.Lists.{all_take, map_same}
use Rattle.orc_values.proofs.Childless.{values_many}
use Rattle.orc_row_groups.proofs.OctetLemmas.{octets_many}

-- ---- groups

before_childless : (cs : List Cell) (bounds : List ℕ) (g : ℕ) → before_group (map childless cs) bounds g ≡ map childless (before_group cs bounds g)
before_childless cs bounds g =
    let n = length-map cs childless in
    ap (λ (k : ℕ). take (bound_at k bounds g) (map childless cs)) n ∙ take-map childless (bound_at (length cs) bounds g) cs

group_childless : (cs : List Cell) (bounds : List ℕ) (g : ℕ) → group_of (map childless cs) bounds g ≡ map childless (group_of cs bounds g)
group_childless cs bounds g =
    let n = length-map cs childless in
    let start = bound_at (length cs) bounds g in
    let end = bound_at (length cs) bounds (suc g) in
    ap (λ (k : ℕ). drop (bound_at k bounds g) (take (bound_at k bounds (suc g)) (map childless cs))) n ∙ ap (drop start) (take-map childless end cs) ∙ drop-map childless start (take end cs)

-- ---- what comes before a group

counted_childless : (counts : Counts) (cs : List Cell) → AreCounted counts (map childless cs) → AreCounted counts cs
counted_childless counts cs h = record {
  cells_are = h.cells_are ∙ length-map cs childless;
  values_are = h.values_are ∙ values_many cs;
  octets_are = h.octets_are ∙ ap (λ n. min most n) (octets_many cs);
}

group_found : (s : Shape) (cs : List Cell) (bounds : List ℕ) (g : ℕ) (f : GroupFound) → IsGroupFound s (map childless cs) bounds g f → IsGroupFound s cs bounds g f
group_found s cs bounds g f h = record {
  stat_is = h.stat_is ∙ ap (stat (kind_of s)) (group_childless cs bounds g) ∙ stat_childless (kind_of s) (group_of cs bounds g);
  before = counted_childless f.before (before_group cs bounds g) (subst (AreCounted f.before) (before_childless cs bounds g) h.before);
}

-- ---- one level down

elements_kept : (s : Shape) (o : List ℕ) (cs : List Cell) (n : ℕ) → RowsFit (list_of s o) cs → elements_before (map childless cs) n ≡ elements_before cs n
elements_kept s o cs n fit = ap elements_together (take-map childless n cs) ∙ elements_childless s o (take n cs) (all_take (λ c. fits c (list_of s o) ≡ true) n cs fit)

pairs_kept : (k v : Shape) (o : List ℕ) (cs : List Cell) (n : ℕ) → RowsFit (map_of k v o) cs → pairs_before (map childless cs) n ≡ pairs_before cs n
pairs_kept k v o cs n fit = ap pairs_together (take-map childless n cs) ∙ pairs_childless k v o (take n cs) (all_take (λ c. fits c (map_of k v o) ≡ true) n cs fit)

values_kept : (cs : List Cell) (n : ℕ) → values_before (map childless cs) n ≡ values_before cs n
values_kept cs n = ap (λ x. length (values x)) (take-map childless n cs) ∙ values_many (take n cs)

below_childless : (s : Shape) (cs : List Cell) → RowsFit s cs → children s (values (map childless cs)) ≡ children s (values cs)
below_childless (scalar k o) cs fit = refl
below_childless (list_of s o) cs fit = elements_childless s o cs fit
below_childless (map_of k v o) cs fit = pairs_childless k v o cs fit
below_childless (struct_of fs o) cs fit = values_many cs

bounds_childless : (s : Shape) (cs : List Cell) (bounds : List ℕ) → RowsFit s cs → bounds_below s (map childless cs) bounds ≡ bounds_below s cs bounds
bounds_childless (scalar k o) cs bounds fit = refl
bounds_childless (list_of s o) cs bounds fit = map_same (elements_before (map childless cs)) (elements_before cs) bounds (λ n. elements_kept s o cs n fit)
bounds_childless (map_of k v o) cs bounds fit = map_same (pairs_before (map childless cs)) (pairs_before cs) bounds (λ n. pairs_kept k v o cs n fit)
bounds_childless (struct_of fs o) cs bounds fit = map_same (values_before (map childless cs)) (values_before cs) bounds (λ n. values_kept cs n)

found_childless : (s : Shape) (cs : List Cell) (bounds : List ℕ) (f : ColumnFound) → RowsFit s cs → IsColumnFound s (map childless cs) bounds f → IsColumnFound s cs bounds f
found_childless s cs bounds f fit h = record {
  stat_is = h.stat_is ∙ stat_childless (kind_of s) cs;
  counted = h.counted;
  groups_are = λ g group there. group_found s cs bounds g group (h.groups_are g group there);
  below_is = h.below_is ∙ below_childless s cs fit;
  bounds_are = h.bounds_are ∙ bounds_childless s cs bounds fit;
}

-- ---- of rows

room_at : (t : Shape) (cs : List Cell) → ((d : ℕ) → d < width t → length (cells t d cs) < cell_limit) → HasRoom t cs
room_at (scalar k o) cs h = tt
room_at (list_of s o) cs h =
    let few = h 1 (omega (arith, width_pos s)) in
    omega (arith, few, ap length (cells-zero s (flat_map parts (values cs))))
room_at (map_of k v o) cs h =
    let few = h 1 (omega (arith, width_pos k)) in
    let t : ltb 0 (width k) ≡ true = lt-ltb 0 (width k) (width_pos k) in
    let keys = rw t at few in
    omega (arith, keys, ap length (cells-zero k (flat_map keys_in (values cs))), keys_long (values cs))
room_at (struct_of fs o) cs h = tt

-- a column's own streams say its cells in the rows, without their children
pub own_at : (s : Shape) (x : ℕ → Streams) (n : ℕ) (rows : List Cell) (c : ℕ) → SpellRows s x n rows → c < width s
    → IsOwnColumn (shape_at s c) (x c) (length (cells s c rows)) (map childless (cells s c rows))
own_at s x n rows c r lt =
    let t = shape_at s c in
    own_of t (x c) (cells s c rows) (cells_fit s c rows lt r.fit)
    (room_at t (cells s c rows) (λ d within.
    let few = (r.column (c + d) (omega (arith, at_within s c lt, within))).few in
    let e = ap length (cells-add s c d rows lt within) in
    omega (arith, few, e)))
    (r.column c lt)

pub found_of_rows : (s : Shape) (x : ℕ → Streams) (n : ℕ) (rows : List Cell) (c : ℕ) (own : List Cell) (bounds : List ℕ) (f : ColumnFound)
    → SpellRows s x n rows → c < width s
    → IsOwnColumn (shape_at s c) (x c) (length (cells s c rows)) own
    → IsColumnFound (shape_at s c) own bounds f
    → IsColumnFound (shape_at s c) (cells s c rows) bounds f
found_of_rows s x n rows c own bounds f r lt mine h =
    let same : own ≡ map childless (cells s c rows) = one_column (shape_at s c) (x c) (length (cells s c rows)) own (map childless (cells s c rows)) mine (own_at s x n rows c r lt) in
    found_childless (shape_at s c) (cells s c rows) bounds f (cells_fit s c rows lt r.fit) (subst (λ cs. IsColumnFound (shape_at s c) cs bounds f) same h)

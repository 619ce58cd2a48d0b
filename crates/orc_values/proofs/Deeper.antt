-- Cells of a column of a column, and how many a list's child and a struct's field have.
use Rattle.std.proofs.Common.{◌≡◌, ℕ, zero, suc, ◌+◌, ◌-◌, ◌<◌, ◌≤◌, List, length, take, drop, map, Some, true, false, ltb, if◌then◌else◌, nat_lt, refl, sym, ap, ◌∙◌, arith, inl, inr}
use Rattle.std.specs.Prelude.{slice_get, sum_by}
use Rattle.std.specs.List.{flat_map}
use Rattle.std.proofs.lemmas.Bool.{lt-ltb, le-ltb}
use Rattle.std.proofs.lemmas.Bool.Decides.{leb_tells}
use Rattle.std.proofs.lemmas.List.{length-map}
use Rattle.std.proofs.lemmas.List.Concat.{length-flat_map}
use Rattle.orc_values.specs.Shapes.{Shape, scalar, list_of, map_of, struct_of, Fields, no_field, field, width, widths, shape_at, shape_within, starts}
use Rattle.orc_values.specs.Cells.{Cell, parts, values, pairs_in, keys_in, values_in}
use Rattle.orc_values.specs.Columns.{cells, cells_within}
use Rattle.orc_values.specs.Fits.{RowsFit}
use Rattle.orc_values.proofs.ByColumn.{parts_values, keys_values, values_values}
use Rattle.orc_values.proofs.Together.{StructsFit, structs_fit, tails_fit, heads-length}

pub width_pos : (s : Shape) → 0 < width s
width_pos (scalar k o) = omega arith
width_pos (list_of s o) = omega arith
width_pos (map_of k v o) = omega arith
width_pos (struct_of fs o) = omega arith

-- a column's columns are the type's
mutual
  pub at_within : (s : Shape) (c : ℕ) → c < width s → c + width (shape_at s c) ≤ width s
  at_within (scalar k o) c lt = omega (arith, lt)
  at_within (list_of s o) zero lt = omega arith
  at_within (list_of s o) (suc c) lt = omega (arith, at_within s c (omega (arith, lt)))
  at_within (map_of k v o) zero lt = omega arith
  at_within (map_of k v o) (suc c) lt =
      elim (leb_tells (suc c) (width k)) [
        | inl p ↦ rw p.0 (omega (arith, at_within k c p.1))
        | inr p ↦ rw p.0 (omega (arith, p.1, at_within v (c - width k) (omega (arith, p.1, lt))))
      ]
  at_within (struct_of fs o) zero lt = omega arith
  at_within (struct_of fs o) (suc c) lt = omega (arith, within_within fs c (omega (arith, lt)))

  within_within : (fs : Fields) (c : ℕ) → c < widths fs → c + width (shape_within fs c) ≤ widths fs
  within_within no_field c lt = absurd (omega (arith, lt))
  within_within (field name s fs) c lt =
      elim (leb_tells (suc c) (width s)) [
        | inl p ↦ rw p.0 (omega (arith, at_within s c p.1))
        | inr p ↦ rw p.0 (omega (arith, p.1, within_within fs (c - width s) (omega (arith, p.1, lt))))
      ]

-- the same of the columns of a key and a value
abbrev Adds : Shape → ℕ → ℕ → List Cell → Type 0
Adds s c d rows = c < width s → d < width (shape_at s c) → cells s (c + d) rows ≡ cells (shape_at s c) d (cells s c rows)

pair-add : (k v : Shape) (c d : ℕ) (ks vs : List Cell) → c < width k + width v → Adds k c d ks → Adds v (c - width k) d vs
    → d < width (if nat_lt c (width k) then shape_at k c else shape_at v (c - width k))
    → (if nat_lt (c + d) (width k) then cells k (c + d) ks else cells v (c + d - width k) vs)
    ≡ cells (if nat_lt c (width k) then shape_at k c else shape_at v (c - width k)) d (if nat_lt c (width k) then cells k c ks else cells v (c - width k) vs)
pair-add k v c d ks vs lt first second =
    elim (leb_tells (suc c) (width k)) [
      | inl p ↦ rw p.0 (λ below.
          let n : ltb (c + d) (width k) ≡ true = lt-ltb _ _ (omega (arith, below, at_within k c p.1)) in
          rw n (first p.1 below))
      | inr p ↦ rw p.0 (λ below.
          let n : ltb (c + d) (width k) ≡ false = le-ltb _ _ (omega (arith, p.1)) in
          let m : c + d - width k ≡ c - width k + d = omega (arith, p.1) in
          rw (n, m) (second (omega (arith, p.1, lt)) below))
    ]

mutual
  pub cells-add : (s : Shape) (c d : ℕ) (rows : List Cell) → c < width s → d < width (shape_at s c) → cells s (c + d) rows ≡ cells (shape_at s c) d (cells s c rows)
  cells-add (scalar k o) c d rows lt below = refl
  cells-add (list_of s o) zero d rows lt below = ap (λ n. cells (list_of s o) n rows) (omega arith)
  cells-add (list_of s o) (suc c) d rows lt below =
      let n : suc c + d ≡ suc (c + d) = omega arith in
      rw n (cells-add s c d (flat_map parts (values rows)) (omega (arith, lt)) below)
  cells-add (map_of k v o) zero d rows lt below = ap (λ n. cells (map_of k v o) n rows) (omega arith)
  cells-add (map_of k v o) (suc c) d rows lt below =
      let n : suc c + d ≡ suc (c + d) = omega arith in
      rw n (pair-add k v c d (flat_map keys_in (values rows)) (flat_map values_in (values rows)) (omega (arith, lt)) (λ x y. cells-add k c d (flat_map keys_in (values rows)) x y) (λ x y. cells-add v (c - width k) d (flat_map values_in (values rows)) x y) below)
  cells-add (struct_of fs o) zero d rows lt below = ap (λ n. cells (struct_of fs o) n rows) (omega arith)
  cells-add (struct_of fs o) (suc c) d rows lt below =
      let n : suc c + d ≡ suc (c + d) = omega arith in
      rw n (cells_within-add fs c d (map parts (values rows)) (omega (arith, lt)) below)

  cells_within-add : (fs : Fields) (c d : ℕ) (structs : List (List Cell)) → c < widths fs → d < width (shape_within fs c)
      → cells_within fs (c + d) structs ≡ cells (shape_within fs c) d (cells_within fs c structs)
  cells_within-add no_field c d structs lt = λ below. absurd (omega (arith, lt))
  cells_within-add (field name s fs) c d structs lt =
      elim (leb_tells (suc c) (width s)) [
        | inl p ↦ rw p.0 (λ below.
            let n : ltb (c + d) (width s) ≡ true = lt-ltb _ _ (omega (arith, below, at_within s c p.1)) in
            rw n (cells-add s c d (flat_map (take 1) structs) p.1 below))
        | inr p ↦ rw p.0 (λ below.
            let n : ltb (c + d) (width s) ≡ false = le-ltb _ _ (omega (arith, p.1)) in
            let m : c + d - width s ≡ c - width s + d = omega (arith, p.1) in
            rw (n, m) (cells_within-add fs (c - width s) d (map (drop 1) structs) (omega (arith, p.1, lt)) below))
      ]

-- ---- how many

pub cells-zero : (s : Shape) (rows : List Cell) → cells s 0 rows ≡ rows
cells-zero (scalar k o) rows = refl
cells-zero (list_of s o) rows = refl
cells-zero (map_of k v o) rows = refl
cells-zero (struct_of fs o) rows = refl

-- a list's child has as many cells as the lists have elements
pub elements-length : (s : Shape) (o : List ℕ) (rows : List Cell) → length (cells (list_of s o) 1 rows) ≡ sum_by (λ c. length (parts c)) rows
elements-length s o rows = ap length (cells-zero s (flat_map parts (values rows)) ∙ parts_values rows) ∙ length-flat_map parts rows

-- a map's children have as many cells as the maps have pairs
pairs_sum : (pick : Cell → List Cell) → ((c : Cell) → length (pick c) ≡ length (pairs_in c)) → (rows : List Cell) → length (flat_map pick rows) ≡ sum_by (λ c. length (pairs_in c)) rows
pairs_sum pick same rows =
    let e : (λ (c : Cell). length (pick c)) ≡ (λ (c : Cell). length (pairs_in c)) = λ i c. same c i in
    length-flat_map pick rows ∙ ap (λ (f : Cell → ℕ). sum_by f rows) e

pub keys-length : (k v : Shape) (o : List ℕ) (rows : List Cell) → length (cells (map_of k v o) 1 rows) ≡ sum_by (λ c. length (pairs_in c)) rows
keys-length k v o rows =
    let t : ltb 0 (width k) ≡ true = lt-ltb _ _ (width_pos k) in
    rw t (ap length (cells-zero k (flat_map keys_in (values rows)) ∙ keys_values rows) ∙ pairs_sum keys_in (λ c. length-map (pairs_in c) (λ p. p.0)) rows)

pub map_values-length : (k v : Shape) (o : List ℕ) (rows : List Cell) → length (cells (map_of k v o) (1 + width k) rows) ≡ sum_by (λ c. length (pairs_in c)) rows
map_values-length k v o rows =
    let t : ltb (width k) (width k) ≡ false = le-ltb _ _ (omega arith) in
    let z : width k - width k ≡ 0 = omega arith in
    let n : 1 + width k ≡ suc (width k) = omega arith in
    rw (n, t, z) (ap length (cells-zero v (flat_map values_in (values rows)) ∙ values_values rows) ∙ pairs_sum values_in (λ c. length-map (pairs_in c) (λ p. p.1)) rows)

field-length : (fs : Fields) (n i c : ℕ) (structs : List (List Cell)) → StructsFit fs structs → slice_get (starts fs n) i ≡ Some c → (n ≤ c) × (length (cells_within fs (c - n) structs) ≡ length structs)
field-length no_field n zero c structs fit h = cc
field-length no_field n (suc i) c structs fit h = cc
field-length (field name s fs) n zero c structs fit h =
    let e : n ≡ c = cc in
    let d : c - n ≡ 0 = omega (arith, e) in
    let t : ltb 0 (width s) ≡ true = lt-ltb _ _ (width_pos s) in
    (omega (arith, e), rw (d, t) (ap length (cells-zero s (flat_map (take 1) structs)) ∙ heads-length name s fs structs fit))
field-length (field name s fs) n (suc i) c structs fit h =
    let more = field-length fs (n + width s) i c (map (drop 1) structs) (tails_fit name s fs structs fit) h in
    let t : ltb (c - n) (width s) ≡ false = le-ltb _ _ (omega (arith, more.0)) in
    let d : c - n - width s ≡ c - (n + width s) = omega (arith, more.0) in
    (omega (arith, more.0), rw (t, d) (more.1 ∙ length-map structs (drop 1)))

-- a field's column has a cell for each struct that isn't null
pub members-length : (fs : Fields) (o : List ℕ) (i c : ℕ) (rows : List Cell) → RowsFit (struct_of fs o) rows → slice_get (starts fs 1) i ≡ Some c → length (cells (struct_of fs o) c rows) ≡ length (values rows)
members-length fs o i zero rows fit h = let one = (field-length fs 1 i 0 (map parts (values rows)) (structs_fit fs o rows fit) h).0 in absurd (omega (arith, one))
members-length fs o i (suc c) rows fit h =
    let there = field-length fs 1 i (suc c) (map parts (values rows)) (structs_fit fs o rows fit) h in
    let d : suc c - 1 ≡ c = omega arith in
    ap (λ n. length (cells_within fs n (map parts (values rows)))) (sym d) ∙ (there.1 ∙ length-map (values rows) parts)

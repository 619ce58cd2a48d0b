-- Rows that a schema's columns spell, and what each column says of them by itself.
use Rattle.std.proofs.Common.{◌≡◌, ℕ, suc, ◌+◌, ◌-◌, ◌<◌, ◌≤◌, true, false, ltb, List, map, length, take, drop, refl, sym, ap, ◌∙◌, subst, arith}
use Rattle.std.proofs.lemmas.Bool.{lt-ltb, le-ltb}
use Rattle.std.specs.List.{flat_map}
use Rattle.orc_values.specs.Cells.{Cell, parts, keys_in, values_in, values}
use Rattle.orc_values.specs.Columns.{cells, cells_within}
use Rattle.orc_values.specs.Fits.{RowsFit}
use Rattle.orc_values.specs.Shapes.{Shape, scalar, list_of, map_of, struct_of, Fields, no_field, field, width, widths, shape_at, shape_within}
use Rattle.orc_values.proofs.Together.{StructsFit, elements_fit, keys_fit, values_fit, structs_fit, heads_fit, tails_fit, heads-length}
use Rattle.std.proofs.lemmas.List.{length-map}
use Rattle.orc_column_reader.specs.Stripe.{Streams, IsColumn, SpellRows}
use Rattle.orc_values.specs.Limits.{most_cells}
use Rattle.orc_column_reader.proofs.ByNumber.{to_number}
use Rattle.orc_values.specs.Childless.{childless}
use Rattle.orc_column_walk.specs.OwnColumns.{AreOwnColumns, AreOwnFields, elements_together, pairs_together, OwnDown}
use Rattle.orc_column_walk.proofs.ChildlessLemmas.{own_of, elements_childless, pairs_childless, keys_long, map_values_long}
use Rattle.orc_column_walk.proofs.OneOwn.{own_same, fields_same, one_own}
use Rattle.orc_column_walk.proofs.RowsOf.{own_down, rows_down}
use Rattle.orc_values.proofs.Deeper.{width_pos, cells-zero}
use Rattle.orc_values.proofs.Childless.{values_many}

-- each column of a type spells its cells in the rows
abbrev Spelled : Shape → (ℕ → Streams) → List Cell → Type 0
Spelled s x rows = (c : ℕ) → c < width s → IsColumn (shape_at s c) (x c) (cells s c rows)

abbrev SpelledWithin : Fields → (ℕ → Streams) → List (List Cell) → Type 0
SpelledWithin fs x structs = (c : ℕ) → c < widths fs → IsColumn (shape_within fs c) (x c) (cells_within fs c structs)

-- what the columns keep of their cells
abbrev kept : Shape → List Cell → ℕ → List Cell
kept s rows = λ c. map childless (cells s c rows)

abbrev kept_within : Fields → List (List Cell) → ℕ → List Cell
kept_within fs structs = λ c. map childless (cells_within fs c structs)

-- ---- one level down

key_column : (k v : Shape) (o : List ℕ) (x : ℕ → Streams) (rows : List Cell) → Spelled (map_of k v o) x rows → Spelled k (λ c. x (suc c)) (flat_map keys_in (values rows))
key_column k v o x rows all c lt =
    let r = all (suc c) (omega (arith, lt)) in
    let t : ltb c (width k) ≡ true = lt-ltb c (width k) lt in rw t at r

second_column : (k v : Shape) (o : List ℕ) (x : ℕ → Streams) (rows : List Cell) → Spelled (map_of k v o) x rows → Spelled v (λ c. x (suc (width k + c))) (flat_map values_in (values rows))
second_column k v o x rows all c lt =
    let r = all (suc (width k + c)) (omega (arith, lt)) in
    let t : ltb (width k + c) (width k) ≡ false = le-ltb (width k + c) (width k) (omega arith) in
    let e : width k + c - width k ≡ c = omega arith in
    rw (t, e) at r

first_column : (name : List ℕ) (s : Shape) (fs : Fields) (x : ℕ → Streams) (structs : List (List Cell)) → SpelledWithin (field name s fs) x structs → Spelled s x (flat_map (take 1) structs)
first_column name s fs x structs all c lt =
    let r = all c (omega (arith, lt)) in
    let t : ltb c (width s) ≡ true = lt-ltb c (width s) lt in rw t at r

other_column : (name : List ℕ) (s : Shape) (fs : Fields) (x : ℕ → Streams) (structs : List (List Cell)) → SpelledWithin (field name s fs) x structs → SpelledWithin fs (λ c. x (width s + c)) (map (drop 1) structs)
other_column name s fs x structs all c lt =
    let r = all (width s + c) (omega (arith, lt)) in
    let t : ltb (width s + c) (width s) ≡ false = le-ltb (width s + c) (width s) (omega arith) in
    let e : width s + c - width s ≡ c = omega arith in
    rw (t, e) at r

kept_key : (k v : Shape) (o : List ℕ) (rows : List Cell) (c : ℕ) → c < width k → kept k (flat_map keys_in (values rows)) c ≡ kept (map_of k v o) rows (suc c)
kept_key k v o rows c lt = let t : ltb c (width k) ≡ true = lt-ltb c (width k) lt in rw t refl

kept_second : (k v : Shape) (o : List ℕ) (rows : List Cell) (c : ℕ) → kept v (flat_map values_in (values rows)) c ≡ kept (map_of k v o) rows (suc (width k + c))
kept_second k v o rows c =
    let t : ltb (width k + c) (width k) ≡ false = le-ltb (width k + c) (width k) (omega arith) in
    let e : width k + c - width k ≡ c = omega arith in
    rw (t, e) refl

kept_first : (name : List ℕ) (s : Shape) (fs : Fields) (structs : List (List Cell)) (c : ℕ) → c < width s → kept s (flat_map (take 1) structs) c ≡ kept_within (field name s fs) structs c
kept_first name s fs structs c lt = let t : ltb c (width s) ≡ true = lt-ltb c (width s) lt in rw t refl

kept_other : (name : List ℕ) (s : Shape) (fs : Fields) (structs : List (List Cell)) (c : ℕ) → kept_within fs (map (drop 1) structs) c ≡ kept_within (field name s fs) structs (width s + c)
kept_other name s fs structs c =
    let t : ltb (width s + c) (width s) ≡ false = le-ltb (width s + c) (width s) (omega arith) in
    let e : width s + c - width s ≡ c = omega arith in
    rw (t, e) refl

-- the columns below are few
few_elements : (s : Shape) (o : List ℕ) (x : ℕ → Streams) (rows : List Cell) → Spelled (list_of s o) x rows → elements_together rows ≤ most_cells
few_elements s o x rows h =
    let w = width_pos s in
    let few = (h 1 (omega (arith, w))).few in
    omega (arith, few, ap length (cells-zero s (flat_map parts (values rows))))

few_pairs : (k v : Shape) (o : List ℕ) (x : ℕ → Streams) (rows : List Cell) → Spelled (map_of k v o) x rows → pairs_together rows ≤ most_cells
few_pairs k v o x rows h =
    let few = (key_column k v o x rows h 0 (width_pos k)).few in
    omega (arith, few, ap length (cells-zero k (flat_map keys_in (values rows))), keys_long (values rows))

-- ---- down the schema

mutual
  kept_own : (s : Shape) (x : ℕ → Streams) (rows : List Cell) → RowsFit s rows → Spelled s x rows → AreOwnColumns s x (kept s rows) (length rows)
  kept_own (scalar k o) x rows fit h = own_of (scalar k o) (x 0) rows fit tt (h 0 (omega arith))
  kept_own (list_of s o) x rows fit h =
      let below = kept_own s (λ c. x (suc c)) (flat_map parts (values rows)) (elements_fit s o rows fit) (λ c lt. h (suc c) (omega (arith, lt))) in (
        own_of (list_of s o) (x 0) rows fit (few_elements s o x rows h) (h 0 (omega arith)),
        subst (AreOwnColumns s (λ c. x (suc c)) (kept s (flat_map parts (values rows)))) (sym (elements_childless s o rows fit)) below,
      )
  kept_own (map_of k v o) x rows fit h =
      let many = sym (pairs_childless k v o rows fit) in
      let keys = kept_own k (λ c. x (suc c)) (flat_map keys_in (values rows)) (keys_fit k v o rows fit) (key_column k v o x rows h) in
      let seconds = kept_own v (λ c. x (suc (width k + c))) (flat_map values_in (values rows)) (values_fit k v o rows fit) (second_column k v o x rows h) in (
        own_of (map_of k v o) (x 0) rows fit (few_pairs k v o x rows h) (h 0 (omega arith)),
        own_same k (λ c. x (suc c)) (pairs_together (map childless rows)) (kept k (flat_map keys_in (values rows))) (λ c. kept (map_of k v o) rows (suc c)) (kept_key k v o rows)
            (subst (AreOwnColumns k (λ c. x (suc c)) (kept k (flat_map keys_in (values rows)))) (keys_long (values rows) ∙ many) keys),
        own_same v (λ c. x (suc (width k + c))) (pairs_together (map childless rows)) (kept v (flat_map values_in (values rows))) (λ c. kept (map_of k v o) rows (suc (width k + c))) (λ c lt. kept_second k v o rows c)
            (subst (AreOwnColumns v (λ c. x (suc (width k + c))) (kept v (flat_map values_in (values rows)))) (map_values_long (values rows) ∙ many) seconds),
      )
  kept_own (struct_of fs o) x rows fit h =
      let below = kept_fields fs (λ c. x (suc c)) (map parts (values rows)) (structs_fit fs o rows fit) (λ c lt. h (suc c) (omega (arith, lt))) in (
        own_of (struct_of fs o) (x 0) rows fit tt (h 0 (omega arith)),
        subst (AreOwnFields fs (λ c. x (suc c)) (kept_within fs (map parts (values rows)))) (length-map (values rows) parts ∙ sym (values_many rows)) below,
      )

  kept_fields : (fs : Fields) (x : ℕ → Streams) (structs : List (List Cell)) → StructsFit fs structs → SpelledWithin fs x structs → AreOwnFields fs x (kept_within fs structs) (length structs)
  kept_fields no_field x structs fit h = tt
  kept_fields (field name s fs) x structs fit h =
      let first = kept_own s x (flat_map (take 1) structs) (heads_fit name s fs structs fit) (first_column name s fs x structs h) in
      let others = kept_fields fs (λ c. x (width s + c)) (map (drop 1) structs) (tails_fit name s fs structs fit) (other_column name s fs x structs h) in (
        own_same s x (length structs) (kept s (flat_map (take 1) structs)) (kept_within (field name s fs) structs) (kept_first name s fs structs)
            (subst (AreOwnColumns s x (kept s (flat_map (take 1) structs))) (heads-length name s fs structs fit) first),
        fields_same fs (λ c. x (width s + c)) (length structs) (kept_within fs (map (drop 1) structs)) (λ c. kept_within (field name s fs) structs (width s + c)) (λ c lt. kept_other name s fs structs c)
            (subst (AreOwnFields fs (λ c. x (width s + c)) (kept_within fs (map (drop 1) structs))) (length-map structs (drop 1)) others),
      )

-- ---- the two laws

pub own_rows : (s : Shape) (x : ℕ → Streams) (n : ℕ) (rows : List Cell) → SpellRows s x n rows → AreOwnColumns s x (λ c. map childless (cells s c rows)) n
own_rows s x n rows r = subst (AreOwnColumns s x (kept s rows)) r.counted (kept_own s x rows r.fit r.column)

-- what each column's own streams spell is what it keeps of its cells
pub own_cells : (s : Shape) (x : ℕ → Streams) (n : ℕ) (own : ℕ → List Cell) (rows : List Cell) → AreOwnColumns s x own n → SpellRows s x n rows → (c : ℕ) → c < width s → own c ≡ map childless (cells s c rows)
own_cells s x n own rows h r = one_own s x n own (kept s rows) h (own_rows s x n rows r)

-- columns that spell cells by themselves are those of rows
pub down_rows : (s : Shape) (columns : ℕ → Streams) (n : ℕ) → OwnDown s columns 0 n → (rows : List Cell) × SpellRows s columns n rows
down_rows s columns n h =
    let r = rows_down s columns n h in
    (r.0, subst (λ (m : ℕ). SpellRows s columns m r.0) r.2 (to_number s columns r.0 (omega (arith, h.1.few, r.2)) r.1))

pub stripe_rows : (s : Shape) (columns : ℕ → Streams) (n : ℕ) (own : ℕ → List Cell) → AreOwnColumns s columns own n → (rows : List Cell) × SpellRows s columns n rows
stripe_rows s columns n own h = down_rows s columns n (own_down s columns own n h)

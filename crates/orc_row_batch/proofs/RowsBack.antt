-- Rows come back from what each column keeps of its cells.
use Rattle.std.proofs.Common.{◌≡◌, ℕ, suc, ◌+◌, ◌-◌, ◌<◌, List, map, flat_map, take, drop, length, true, false, ltb, sym, ap, ◌∙◌, arith}
use Rattle.std.proofs.lemmas.Bool.{lt-ltb, le-ltb}
use Rattle.std.proofs.lemmas.List.{length-map}
use Rattle.orc_values.specs.Shapes.{Shape, scalar, list_of, map_of, struct_of, Fields, no_field, field, width, widths}
use Rattle.orc_values.specs.Cells.{Cell, parts, keys_in, values_in, values}
use Rattle.orc_values.specs.Childless.{childless}
use Rattle.orc_values.specs.Columns.{cells, cells_within}
use Rattle.orc_values.specs.Fits.{RowsFit}
use Rattle.orc_values.proofs.Childless.{values_childless}
use Rattle.orc_values.proofs.Deeper.{width_pos, cells-zero}
use Rattle.orc_values.proofs.Together.{StructsFit, elements_fit, keys_fit, values_fit, structs_fit, heads_fit, tails_fit}
use Rattle.orc_row_batch.specs.RowsFrom.{rows_from, structs_from}
use Rattle.orc_row_batch.proofs.Refilled.{scalars_back, elements_back, pairs_back, keys_and_values, fields_back, empty_structs, first_and_others}

-- the columns from one on say their own cells of the rows
abbrev pub SayRows : Shape → (ℕ → List Cell) → ℕ → List Cell → Type 0
SayRows s own c rows = (d : ℕ) → d < width s → own (c + d) ≡ map childless (cells s d rows)

-- the columns of fields say theirs of the structs
abbrev SayStructs : Fields → (ℕ → List Cell) → ℕ → List (List Cell) → Type 0
SayStructs fs own c structs = (d : ℕ) → d < widths fs → own (c + d) ≡ map childless (cells_within fs d structs)

-- ---- one level down

said_first : (s : Shape) (own : ℕ → List Cell) (c : ℕ) (rows : List Cell) → SayRows s own c rows → own c ≡ map childless rows
said_first s own c rows h =
    let e : c ≡ c + 0 = omega arith in
    ap own e ∙ h 0 (width_pos s) ∙ ap (map childless) (cells-zero s rows)

said_elements : (s : Shape) (o : List ℕ) (own : ℕ → List Cell) (c : ℕ) (rows : List Cell) → SayRows (list_of s o) own c rows → SayRows s own (c + 1) (flat_map parts (values rows))
said_elements s o own c rows h d lt =
    let e : (c + 1) + d ≡ c + suc d = omega arith in
    ap own e ∙ h (suc d) (omega (arith, lt))

said_keys : (k v : Shape) (o : List ℕ) (own : ℕ → List Cell) (c : ℕ) (rows : List Cell) → SayRows (map_of k v o) own c rows → SayRows k own (c + 1) (flat_map keys_in (values rows))
said_keys k v o own c rows h d lt =
    let e : (c + 1) + d ≡ c + suc d = omega arith in
    let t : ltb d (width k) ≡ true = lt-ltb d (width k) lt in
    ap own e ∙ (rw t at (h (suc d) (omega (arith, lt))))

said_values : (k v : Shape) (o : List ℕ) (own : ℕ → List Cell) (c : ℕ) (rows : List Cell) → SayRows (map_of k v o) own c rows → SayRows v own (c + 1 + width k) (flat_map values_in (values rows))
said_values k v o own c rows h d lt =
    let e : (c + 1 + width k) + d ≡ c + suc (width k + d) = omega arith in
    let t : ltb (width k + d) (width k) ≡ false = le-ltb (width k + d) (width k) (omega arith) in
    let m : width k + d - width k ≡ d = omega arith in
    ap own e ∙ (rw (t, m) at (h (suc (width k + d)) (omega (arith, lt))))

said_structs : (fs : Fields) (o : List ℕ) (own : ℕ → List Cell) (c : ℕ) (rows : List Cell) → SayRows (struct_of fs o) own c rows → SayStructs fs own (c + 1) (map parts (values rows))
said_structs fs o own c rows h d lt =
    let e : (c + 1) + d ≡ c + suc d = omega arith in
    ap own e ∙ h (suc d) (omega (arith, lt))

said_heads : (name : List ℕ) (s : Shape) (fs : Fields) (own : ℕ → List Cell) (c : ℕ) (structs : List (List Cell)) → SayStructs (field name s fs) own c structs → SayRows s own c (flat_map (take 1) structs)
said_heads name s fs own c structs h d lt =
    let t : ltb d (width s) ≡ true = lt-ltb d (width s) lt in
    rw t at (h d (omega (arith, lt)))

said_tails : (name : List ℕ) (s : Shape) (fs : Fields) (own : ℕ → List Cell) (c : ℕ) (structs : List (List Cell)) → SayStructs (field name s fs) own c structs → SayStructs fs own (c + width s) (map (drop 1) structs)
said_tails name s fs own c structs h d lt =
    let e : (c + width s) + d ≡ c + (width s + d) = omega arith in
    let t : ltb (width s + d) (width s) ≡ false = le-ltb (width s + d) (width s) (omega arith) in
    let m : width s + d - width s ≡ d = omega arith in
    ap own e ∙ (rw (t, m) at (h (width s + d) (omega (arith, lt))))

-- ---- down the schema

mutual
  pub rows_back : (s : Shape) (own : ℕ → List Cell) (c : ℕ) (rows : List Cell) → RowsFit s rows → SayRows s own c rows → rows_from s own c ≡ rows
  rows_back (scalar k o) own c rows fit h = said_first (scalar k o) own c rows h ∙ scalars_back k o rows fit
  rows_back (list_of s o) own c rows fit h =
      let first = said_first (list_of s o) own c rows h in
      let below = rows_back s own (c + 1) (flat_map parts (values rows)) (elements_fit s o rows fit) (said_elements s o own c rows h) in
      rw (first, below) (elements_back s o rows fit)
  rows_back (map_of k v o) own c rows fit h =
      let first = said_first (map_of k v o) own c rows h in
      let keys = rows_back k own (c + 1) (flat_map keys_in (values rows)) (keys_fit k v o rows fit) (said_keys k v o own c rows h) in
      let seconds = rows_back v own (c + 1 + width k) (flat_map values_in (values rows)) (values_fit k v o rows fit) (said_values k v o own c rows h) in
      rw (first, keys, seconds, keys_and_values (values rows)) (pairs_back k v o rows fit)
  rows_back (struct_of fs o) own c rows fit h =
      let first = said_first (struct_of fs o) own c rows h in
      let many : length (values (own c)) ≡ length (map parts (values rows)) =
      ap (λ cs. length (values cs)) first ∙ ap length (values_childless rows) ∙ length-map (values rows) childless ∙ sym (length-map (values rows) parts) in
      let below = structs_back fs own (c + 1) (length (values (own c))) (map parts (values rows)) many (structs_fit fs o rows fit) (said_structs fs o own c rows h) in
      rw (below, first) (fields_back fs o rows fit)

  structs_back : (fs : Fields) (own : ℕ → List Cell) (c n : ℕ) (structs : List (List Cell)) → n ≡ length structs → StructsFit fs structs → SayStructs fs own c structs → structs_from fs own c n ≡ structs
  structs_back no_field own c n structs many fit h = rw many (empty_structs structs fit)
  structs_back (field name s fs) own c n structs many fit h =
      let first = rows_back s own c (flat_map (take 1) structs) (heads_fit name s fs structs fit) (said_heads name s fs own c structs h) in
      let others = structs_back fs own (c + width s) n (map (drop 1) structs) (many ∙ sym (length-map structs (drop 1))) (tails_fit name s fs structs fit) (said_tails name s fs own c structs h) in
      rw (first, others) (first_and_others name s fs structs fit)

-- of the rows' own columns
pub rows_again : (s : Shape) (rows : List Cell) → RowsFit s rows → rows_from s (λ c. map childless (cells s c rows)) 0 ≡ rows
rows_again s rows fit =
    let own : ℕ → List Cell = λ c. map childless (cells s c rows) in
    rows_back s own 0 rows fit (λ d l. let e : 0 + d ≡ d = omega arith in ap own e)

-- What is so of all columns of a type is so of those of its parts.
use Rattle.std.proofs.Common.{◌≡◌, ℕ, zero, suc, ◌+◌, ◌-◌, ◌<◌, ◌≤◌, ◌^◌, List, length, get_or, take, drop, map, true, false, nat_lt, sym, ap, ◌∙◌, subst, arith, inl, inr, string_bytes, lt-ltb, le-ltb}
use Rattle.std.specs.List.{flat_map}
use Rattle.std.proofs.lemmas.Bool.Decides.{leb_tells}
use Rattle.std.proofs.lemmas.List.{length-map}
use Rattle.orc_rle.specs.declared.sign.Rle.{Rle}
use Rattle.orc_wire.specs.declared.encoding.Encoding.{Encoding}
use Rattle.orc_wire.specs.declared.stripe_footer.StreamMsg.{StreamMsg}
use Rattle.orc_values.specs.declared.tree.Field.{Field}
use Rattle.orc_values.specs.Shapes.{Shape, list_of, map_of, struct_of, Fields, field, width}
use Rattle.orc_values.specs.Cells.{Cell, parts, values}
use Rattle.orc_values.specs.Columns.{cells}
use Rattle.orc_values.specs.Fits.{RowsFit}
use Rattle.orc_values.specs.Views.{shape, fields}
use Rattle.orc_values.proofs.Together.{keys_fit, values_fit}
use Rattle.orc_values.proofs.Widths.{some_width}
use Rattle.orc_stripe_writer.specs.WrittenColumn.{Written}
use Rattle.orc_stripe_writer.specs.WrittenStripe.{AreFew, HasColumns}
use Rattle.orc_stripe_writer.specs.Subtrees.{PairsFit, PairsAreFew, FieldsAreFew}
use Rattle.orc_row_groups.proofs.SubtreeLemmas.{nothing_dropped, dropped_more, fields_at, root_cells, none_after}

-- ---- which columns

pub pairs_fit : (k v : Shape) (o : List ℕ) (column : List Cell) → RowsFit (map_of k v o) column → PairsFit k v column
pairs_fit k v o column h = (keys_fit k v o column h, values_fit k v o column h)

-- ---- how many cells

pub few_here : (s : Shape) (column : List Cell) → AreFew s column → length column < 2 ^ 31
few_here s column h = subst (λ (cs : List Cell). length cs < 2 ^ 31) (root_cells s column) (h 0 (some_width s))

pub few_elements : (s : Shape) (o : List ℕ) (column : List Cell) → AreFew (list_of s o) column → AreFew s (flat_map parts (values column))
few_elements s o column h c less = h (suc c) (omega (arith, less))

pub few_pairs : (k v : Shape) (o : List ℕ) (column : List Cell) → AreFew (map_of k v o) column → PairsAreFew k v column
few_pairs k v o column h = (
  λ c less. (let u : nat_lt c (width k) ≡ true = lt-ltb _ _ less in let f = h (suc c) (omega (arith, less)) in rw u at f),
  λ c less. (
      let u : nat_lt (width k + c) (width k) ≡ false = le-ltb _ _ (omega arith) in
      let back : width k + c - width k ≡ c = omega arith in
      let f = h (suc (width k + c)) (omega (arith, less)) in
      rw (u, back) at f),
)

pub few_fields : (fs : Fields) (o : List ℕ) (column : List Cell) → AreFew (struct_of fs o) column → FieldsAreFew fs (map parts (values column))
few_fields fs o column h c less = h (suc c) (omega (arith, less))

pub few_first : (name : List ℕ) (s : Shape) (fs : Fields) (structs : List (List Cell)) → FieldsAreFew (field name s fs) structs → AreFew s (flat_map (take 1) structs)
few_first name s fs structs h c less =
    let u : nat_lt c (width s) ≡ true = lt-ltb _ _ less in
    let f = h c (omega (arith, less)) in
    rw u at f

pub few_others : (name : List ℕ) (s : Shape) (fs : Fields) (structs : List (List Cell)) → FieldsAreFew (field name s fs) structs → FieldsAreFew fs (map (drop 1) structs)
few_others name s fs structs h c less =
    let u : nat_lt (width s + c) (width s) ≡ false = le-ltb _ _ (omega arith) in
    let back : width s + c - width s ≡ c = omega arith in
    let f = h (width s + c) (omega (arith, less)) in
    rw (u, back) at f

pub few_scalar : (s : Shape) (column : List Cell) → width s ≡ 1 → length column < 2 ^ 31 → AreFew s column
few_scalar s column one few c less =
    let first : 0 ≡ c = omega (arith, one, less) in
    subst (λ (n : ℕ). length (cells s n column) < 2 ^ 31) first (subst (λ (cs : List Cell). length cs < 2 ^ 31) (sym (root_cells s column)) few)

pub few_list : (s : Shape) (o : List ℕ) (column : List Cell) → length column < 2 ^ 31 → AreFew s (flat_map parts (values column)) → AreFew (list_of s o) column
few_list s o column few h zero less = few
few_list s o column few h (suc c) less = h c (omega (arith, less))

pub few_map : (k v : Shape) (o : List ℕ) (column : List Cell) → length column < 2 ^ 31 → PairsAreFew k v column → AreFew (map_of k v o) column
few_map k v o column few h zero less = few
few_map k v o column few h (suc c) less =
    elim (leb_tells (suc c) (width k)) [
      | inl p ↦ rw p.0 (h.0 c p.1)
      | inr p ↦ rw p.0 (h.1 (c - width k) (omega (arith, p.1, less)))
    ]

pub few_struct : (fs : Fields) (o : List ℕ) (column : List Cell) → length column < 2 ^ 31 → FieldsAreFew fs (map parts (values column)) → AreFew (struct_of fs o) column
few_struct fs o column few h zero less = few
few_struct fs o column few h (suc c) less = h c (omega (arith, less))

pub few_field : (name : List ℕ) (s : Shape) (fs : Fields) (structs : List (List Cell)) → AreFew s (flat_map (take 1) structs) → FieldsAreFew fs (map (drop 1) structs)
    → FieldsAreFew (field name s fs) structs
few_field name s fs structs first others c less =
    elim (leb_tells (suc c) (width s)) [
      | inl p ↦ rw p.0 (first c p.1)
      | inr p ↦ rw p.0 (others (c - width s) (omega (arith, p.1, less)))
    ]

-- ---- how many are written

pub written_count : (rle : Rle) (s : Shape) (rows : List Cell) (n : ℕ) (streams : List ℕ) (directory : List StreamMsg) (encodings : List Encoding) → HasColumns rle s rows n streams directory encodings
    → length encodings ≡ n
written_count rle s rows n streams directory encodings h = ap length h.encoded ∙ length-map h.columns (λ (w : Written). w.encoding) ∙ h.counted

-- ---- whether the fields' columns are few

-- where the fields before a place are few, all are exactly where those from there on are
pub record FewFrom (fs : List Field) (structs : List (List Cell)) (place : ℕ) : Type 0 where
  pub forth : FieldsAreFew (fields (drop place fs)) (map (drop place) structs) → FieldsAreFew (fields fs) structs
  pub back : FieldsAreFew (fields fs) structs → FieldsAreFew (fields (drop place fs)) (map (drop place) structs)

pub few_begin : (fs : List Field) (structs : List (List Cell)) → FewFrom fs structs 0
few_begin fs structs =
    let e : map (drop 0) structs ≡ structs = nothing_dropped structs in
    record { forth = λ h. subst (λ (xss : List (List Cell)). FieldsAreFew (fields fs) xss) e h; back = λ h. subst (λ (xss : List (List Cell)). FieldsAreFew (fields fs) xss) (sym e) h }

pub few_step : (fs : List Field) (structs : List (List Cell)) (n : ℕ) (f : Field) (column : List Cell) → n < length fs → f ≡ get_or fs n f → column ≡ flat_map (take 1) (map (drop n) structs)
    → AreFew (shape f.tree) column → FewFrom fs structs n → FewFrom fs structs (n + 1)
few_step fs structs n f column less is are few h =
    let name = string_bytes f.name in
    let t = shape f.tree in
    let others = fields (drop (n + 1) fs) in
    let e : fields (drop n fs) ≡ field name t others = fields_at fs n f less is in
    let more : map (drop 1) (map (drop n) structs) ≡ map (drop (n + 1)) structs = dropped_more n structs in
    record {
      forth = λ g. h.forth (subst (λ (x : Fields). FieldsAreFew x (map (drop n) structs)) (sym e)
          (few_field name t others (map (drop n) structs) (subst (λ (cs : List Cell). AreFew t cs) are few) (subst (λ (xss : List (List Cell)). FieldsAreFew others xss) (sym more) g)));
      back = λ g. subst (λ (xss : List (List Cell)). FieldsAreFew others xss) more (few_others name t others (map (drop n) structs) (subst (λ (x : Fields). FieldsAreFew x (map (drop n) structs)) e (h.back g)));
    }

pub few_end : (fs : List Field) (structs : List (List Cell)) (n : ℕ) → length fs ≤ n → FewFrom fs structs n → FieldsAreFew (fields fs) structs
few_end fs structs n all h = h.forth (subst (λ (x : Fields). FieldsAreFew x (map (drop n) structs)) (sym (none_after fs n all)) (λ d less. absurd (omega (arith, less))))

-- the first field that isn't few
pub few_first_not : (fs : List Field) (structs : List (List Cell)) (n : ℕ) (f : Field) (column : List Cell) → n < length fs → f ≡ get_or fs n f → column ≡ flat_map (take 1) (map (drop n) structs)
    → (AreFew (shape f.tree) column → ⊥) → FewFrom fs structs n → FieldsAreFew (fields fs) structs → ⊥
few_first_not fs structs n f column less is are not h all =
    not (subst (λ (cs : List Cell). AreFew (shape f.tree) cs) (sym are)
    (few_first (string_bytes f.name) (shape f.tree) (fields (drop (n + 1) fs)) (map (drop n) structs) (subst (λ (x : Fields). FieldsAreFew x (map (drop n) structs)) (fields_at fs n f less is) (h.back all))))

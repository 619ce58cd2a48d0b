-- The columns below a column that stands, and those of fields one after the other.
use Rattle.std.proofs.Common.{◌≡◌, ℕ, suc, ◌+◌, ◌<◌, ◌≤◌, List, [], ◌∷◌, length, get_or, take, drop, map, refl, sym, ap, subst, arith, string_bytes}
use Rattle.std.specs.List.{flat_map}
use Rattle.std.proofs.lemmas.List.{length-map}
use Rattle.orc_values.specs.declared.tree.Field.{Field}
use Rattle.orc_values.specs.Shapes.{Shape, list_of, map_of, struct_of, Fields, field, width, widths}
use Rattle.orc_values.specs.Cells.{Cell, parts, pairs_in, keys_in, values_in, values}
use Rattle.orc_values.specs.Columns.{cells}
use Rattle.orc_values.specs.Fits.{RowsFit}
use Rattle.orc_values.specs.Views.{shape, fields}
use Rattle.orc_values.proofs.Together.{elements_fit, structs_fit, heads_fit, tails_fit}
use Rattle.orc_row_groups.specs.Bounds.{AreBounds, elements_before, pairs_before, values_before}
use Rattle.orc_row_groups.proofs.Groups.{element_bounds_are, keys_long, map_values_long, field_bounds_are}
use Rattle.orc_stripe_writer.specs.Firsts.{firsts_of}
use Rattle.orc_row_groups.specs.Groups.{AreGroupsFrom}
use Rattle.orc_stripe_writer.specs.Standing.{ColumnStands, FieldsStand, structs_in}
use Rattle.orc_stripe_writer.specs.WrittenStripe.{AreFew}
use Rattle.orc_row_groups.specs.Subtrees.{AreColumnsFrom}
use Rattle.orc_row_groups.proofs.GroupLemmas.{groups_at_root, groups_element, groups_pairs, groups_fields, groups_first, groups_others, pair_bounds_are, heads_long}
use Rattle.orc_stripe_writer.proofs.IndexLemmas.{firsts_are_bounds}
use Rattle.orc_stripe_writer.proofs.SubtreeLemmas.{pairs_fit, few_elements, few_pairs, few_fields, few_first, few_others}
use Rattle.orc_row_groups.proofs.SubtreeLemmas.{all_columns_from, cells_from, element_from, pairs_from, fields_from, fields_at, nothing_dropped, dropped_more, first_from, others_from, none_after}

-- a column stands over cells that are its own
stands_over : (s : Shape) (rows : List Cell) (stride c : ℕ) (t : Shape) (column : List Cell) (bounds : List ℕ) → c + width t ≤ width s → AreColumnsFrom s rows c t column
    → AreGroupsFrom s rows (firsts_of stride (length rows)) c t column bounds → RowsFit t column → AreFew t column → AreBounds (length column) bounds → ColumnStands s rows stride c t bounds
stands_over s rows stride c t column bounds within from groups fit few bounded =
    let here : column ≡ cells s c rows = sym (cells_from s rows c t column from) in
    record {
      within = within;
      from = subst (λ (cs : List Cell). AreColumnsFrom s rows c t cs) here from;
      groups = subst (λ (cs : List Cell). AreGroupsFrom s rows (firsts_of stride (length rows)) c t cs bounds) here groups;
      fit = subst (λ (cs : List Cell). RowsFit t cs) here fit;
      few = subst (λ (cs : List Cell). AreFew t cs) here few;
      bounded = subst (λ (cs : List Cell). AreBounds (length cs) bounds) here bounded;
    }

pub root_stands : (s : Shape) (rows : List Cell) (stride : ℕ) → RowsFit s rows → AreFew s rows → ColumnStands s rows stride 0 s (firsts_of stride (length rows))
root_stands s rows stride fit few =
    stands_over s rows stride 0 s rows (firsts_of stride (length rows)) (omega arith) (all_columns_from s rows) (groups_at_root s rows (firsts_of stride (length rows))) fit few (firsts_are_bounds stride (length rows))

pub element_stands : (s : Shape) (rows : List Cell) (stride c : ℕ) (t : Shape) (o : List ℕ) (bounds : List ℕ) → ColumnStands s rows stride c (list_of t o) bounds
    → ColumnStands s rows stride (c + 1) t (map (elements_before (cells s c rows)) bounds)
element_stands s rows stride c t o bounds h =
    let cs = cells s c rows in
    stands_over s rows stride (c + 1) t (flat_map parts (values cs)) (map (elements_before cs) bounds) (omega (arith, h.within)) (element_from s rows c t o cs h.from)
    (groups_element s rows (firsts_of stride (length rows)) c t o cs bounds h.groups) (elements_fit t o cs h.fit) (few_elements t o cs h.few) (element_bounds_are cs bounds h.bounded)

pub keys_stand : (s : Shape) (rows : List Cell) (stride c : ℕ) (k v : Shape) (o : List ℕ) (bounds : List ℕ) → ColumnStands s rows stride c (map_of k v o) bounds
    → ColumnStands s rows stride (c + 1) k (map (pairs_before (cells s c rows)) bounds)
keys_stand s rows stride c k v o bounds h =
    let cs = cells s c rows in
    let long : length (flat_map pairs_in (values cs)) ≡ length (flat_map keys_in (values cs)) = sym (keys_long (values cs)) in
    stands_over s rows stride (c + 1) k (flat_map keys_in (values cs)) (map (pairs_before cs) bounds) (omega (arith, h.within)) (pairs_from s rows c k v o cs h.from).0
    (groups_pairs s rows (firsts_of stride (length rows)) c k v o cs bounds h.groups).0 (pairs_fit k v o cs h.fit).0 (few_pairs k v o cs h.few).0
    (subst (λ (n : ℕ). AreBounds n (map (pairs_before cs) bounds)) long (pair_bounds_are cs bounds h.bounded))

pub map_values_stand : (s : Shape) (rows : List Cell) (stride c : ℕ) (k v : Shape) (o : List ℕ) (bounds : List ℕ) → ColumnStands s rows stride c (map_of k v o) bounds
    → ColumnStands s rows stride (c + 1 + width k) v (map (pairs_before (cells s c rows)) bounds)
map_values_stand s rows stride c k v o bounds h =
    let cs = cells s c rows in
    let long : length (flat_map pairs_in (values cs)) ≡ length (flat_map values_in (values cs)) = sym (map_values_long (values cs)) in
    stands_over s rows stride (c + 1 + width k) v (flat_map values_in (values cs)) (map (pairs_before cs) bounds) (omega (arith, h.within)) (pairs_from s rows c k v o cs h.from).1
    (groups_pairs s rows (firsts_of stride (length rows)) c k v o cs bounds h.groups).1 (pairs_fit k v o cs h.fit).1 (few_pairs k v o cs h.few).1
    (subst (λ (n : ℕ). AreBounds n (map (pairs_before cs) bounds)) long (pair_bounds_are cs bounds h.bounded))

pub fields_stand : (s : Shape) (rows : List Cell) (stride c : ℕ) (fs : Fields) (o : List ℕ) (bounds : List ℕ) → ColumnStands s rows stride c (struct_of fs o) bounds
    → FieldsStand s rows stride (c + 1) fs (structs_in s rows c) (map (values_before (cells s c rows)) bounds)
fields_stand s rows stride c fs o bounds h =
    let cs = cells s c rows in
    record {
      within = omega (arith, h.within);
      from = fields_from s rows c fs o cs h.from;
      groups = groups_fields s rows (firsts_of stride (length rows)) c fs o cs bounds h.groups;
      fit = structs_fit fs o cs h.fit;
      few = few_fields fs o cs h.few;
      bounded = subst (λ (n : ℕ). AreBounds n (map (values_before cs) bounds)) (sym (length-map (values cs) parts)) (field_bounds_are cs bounds h.bounded);
    }

dropped_long : (n : ℕ) (xss : List (List Cell)) → length (map (drop n) xss) ≡ length xss
dropped_long n [] = refl
dropped_long n (xs ∷ xss) = ap suc (dropped_long n xss)

-- the fields from a place on stand: those before it have been gone through
abbrev pub LeftStand : (s : Shape) (rows : List Cell) (stride next : ℕ) (fs : List Field) (structs : List (List Cell)) (bounds : List ℕ) (place : ℕ) → Type 0
LeftStand s rows stride next fs structs bounds place = FieldsStand s rows stride next (fields (drop place fs)) (map (drop place) structs) bounds

pub left_begin : (s : Shape) (rows : List Cell) (stride next : ℕ) (fs : List Field) (structs : List (List Cell)) (bounds : List ℕ) → FieldsStand s rows stride next (fields fs) structs bounds
    → LeftStand s rows stride next fs structs bounds 0
left_begin s rows stride next fs structs bounds h = subst (λ (xss : List (List Cell)). FieldsStand s rows stride next (fields fs) xss bounds) (sym (nothing_dropped structs)) h

-- the fields from a place on, the first of them apart
apart : (s : Shape) (rows : List Cell) (stride next : ℕ) (fs : List Field) (structs : List (List Cell)) (bounds : List ℕ) (n : ℕ) (f : Field) → n < length fs → f ≡ get_or fs n f
    → LeftStand s rows stride next fs structs bounds n
    → FieldsStand s rows stride next (field (string_bytes f.name) (shape f.tree) (fields (drop (n + 1) fs))) (map (drop n) structs) bounds
apart s rows stride next fs structs bounds n f less is h = subst (λ (x : Fields). FieldsStand s rows stride next x (map (drop n) structs) bounds) (fields_at fs n f less is) h

pub first_stands : (s : Shape) (rows : List Cell) (stride next : ℕ) (fs : List Field) (structs : List (List Cell)) (bounds : List ℕ) (n : ℕ) (f : Field) → n < length fs → f ≡ get_or fs n f
    → LeftStand s rows stride next fs structs bounds n → ColumnStands s rows stride next (shape f.tree) bounds
first_stands s rows stride next fs structs bounds n f less is h =
    let name = string_bytes f.name in
    let t = shape f.tree in
    let others = fields (drop (n + 1) fs) in
    let here = map (drop n) structs in
    let a = apart s rows stride next fs structs bounds n f less is h in
    stands_over s rows stride next t (flat_map (take 1) here) bounds (omega (arith, a.within)) (first_from s rows next name t others here a.from)
    (groups_first s rows (firsts_of stride (length rows)) next name t others here bounds a.fit a.groups) (heads_fit name t others here a.fit) (few_first name t others here a.few)
    (subst (λ (k : ℕ). AreBounds k bounds) (sym (heads_long name t others here a.fit)) a.bounded)

pub others_stand : (s : Shape) (rows : List Cell) (stride next : ℕ) (fs : List Field) (structs : List (List Cell)) (bounds : List ℕ) (n : ℕ) (f : Field) → n < length fs → f ≡ get_or fs n f
    → LeftStand s rows stride next fs structs bounds n → LeftStand s rows stride (next + width (shape f.tree)) fs structs bounds (n + 1)
others_stand s rows stride next fs structs bounds n f less is h =
    let name = string_bytes f.name in
    let t = shape f.tree in
    let others = fields (drop (n + 1) fs) in
    let here = map (drop n) structs in
    let a = apart s rows stride next fs structs bounds n f less is h in
    let more : map (drop 1) here ≡ map (drop (n + 1)) structs = dropped_more n structs in
    subst (λ (xss : List (List Cell)). FieldsStand s rows stride (next + width t) others xss bounds) more
    (record {
      within = omega (arith, a.within);
      from = others_from s rows next name t others here a.from;
      groups = groups_others s rows (firsts_of stride (length rows)) next name t others here bounds a.groups;
      fit = tails_fit name t others here a.fit;
      few = few_others name t others here a.few;
      bounded = subst (λ (k : ℕ). AreBounds k bounds) (sym (dropped_long 1 here)) a.bounded;
    })

-- how wide the fields from a place on are, and at the end
pub wide_left : (fs : List Field) (n : ℕ) (f : Field) → n < length fs → f ≡ get_or fs n f → widths (fields (drop n fs)) ≡ width (shape f.tree) + widths (fields (drop (n + 1) fs))
wide_left fs n f less is = ap widths (fields_at fs n f less is)

pub none_wide : (fs : List Field) (n : ℕ) → length fs ≤ n → widths (fields (drop n fs)) ≡ 0
none_wide fs n all = ap widths (none_after fs n all)

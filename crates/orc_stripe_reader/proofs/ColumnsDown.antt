-- The groups of a column's cells, on the way down to it.
use Rattle.std.proofs.Common.{◌≡◌, ◌≢◌, ◌∙◌, Bool, ℕ, suc, ◌+◌, ◌<◌, ◌≤◌, List, [], ◌∷◌, length, map, take, drop, get_or, slice_get, refl, sym, ap, subst, arith, string_bytes}
use Rattle.std.specs.List.{flat_map}
use Rattle.std.proofs.lemmas.List.{length-map}
use Rattle.orc_values.specs.Cells.{Cell, parts, pairs_in, keys_in, values_in, values}
use Rattle.orc_values.specs.Childless.{childless}
use Rattle.orc_values.specs.Columns.{cells}
use Rattle.orc_values.specs.Fits.{RowsFit}
use Rattle.orc_values.specs.Shapes.{Shape, scalar, list_of, map_of, struct_of, Fields, field, width, widths, shape_at}
use Rattle.orc_values.specs.Views.{shape, fields as fields_view}
use Rattle.orc_values.specs.declared.tree.Field.{Field}
use Rattle.orc_values.proofs.Together.{cells_fit, structs_fit, tails_fit}
use Rattle.orc_column_reader.specs.Stripe.{Streams, SpellRows, columns_of}
use Rattle.orc_values.specs.Limits.{cell_limit}
use Rattle.orc_directory.specs.declared.fault.StripeFault.{StripeFault}
use Rattle.orc_directory.specs.declared.fault.StripeFault.TheVariants as fault
use Rattle.orc_values.proofs.Widths.{some_width}
use Rattle.orc_row_groups.specs.Bounds.{AreBounds, bound_at, before_group, elements_before, pairs_before, values_before}
use Rattle.orc_row_groups.specs.Counts.{AreCounted}
use Rattle.orc_row_groups.specs.declared.counts.Counts.{Counts}
use Rattle.orc_row_groups.proofs.Groups.{element_bounds_are, field_bounds_are, keys_long, map_values_long}
use Rattle.orc_column_walk.specs.ColumnFound.{IsColumnFound, bounds_below}
use Rattle.orc_column_walk.specs.OwnColumns.{IsOwnColumn}
use Rattle.orc_column_walk.specs.OwnFaults.{SpellsNoCells}
use Rattle.orc_column_walk.specs.OwnLeft.{children}
use Rattle.orc_column_walk.specs.declared.found.ColumnFound.{ColumnFound}
use Rattle.orc_column_walk.specs.declared.found.GroupFound.{GroupFound}
use Rattle.orc_column_walk.proofs.FoundLemmas.{found_of_rows, own_at}
use Rattle.orc_group_reader.proofs.OnlyMemory.{only_memory}
use Rattle.orc_row_index_check.specs.CountedBefore.{AreCountedBefore}
use Rattle.orc_row_groups.specs.Groups.{starts_of_groups, bounds_of, cells_before, AreGroupsFrom, AreFieldGroupsFrom}
use Rattle.orc_row_groups.specs.Subtrees.{AreColumnsFrom}
use Rattle.orc_row_groups.proofs.GroupLemmas.{bounds_here, groups_at_root, groups_element, groups_pairs, groups_fields, groups_first, groups_others, heads_long, pair_bounds_are, starts_are_bounds}
use Rattle.orc_row_groups.proofs.SubtreeLemmas.{type_from, cells_from, all_columns_from, element_from, pairs_from, fields_from, first_from, others_from, fields_at, none_after, nothing_dropped, dropped_more}
use Rattle.orc_stripe_reader.specs.declared.groups.CellGroups.{CellGroups}
use Rattle.orc_stripe_reader.specs.Opened.{Opened}
use Rattle.orc_stripe_reader.specs.ColumnGroups.{AreGrouped, ComesNext, FieldsComeNext, AreGroupsBelow, Leads, InRows, InStructs, AreCountedOver, AreCountedIn, IsMemoryIn}
use Rattle.orc_values.proofs.Deeper.{cells-zero}
use Rattle.orc_row_groups.proofs.BoundLemmas.{none_at, first_by, first_start}
use Rattle.orc_column_walk.proofs.GroupLemmas.{mapped_get}

-- ---- the rows with which groups begin

pub rows_grouped : (stride rows : ℕ) (groups : CellGroups) → 0 < stride → rows < cell_limit → groups.count ≡ rows → groups.bounds.items ≡ starts_of_groups stride rows → AreGrouped groups
rows_grouped stride rows groups some few many are = record {
  few = omega (arith, few, many);
  ascending = subst (λ (n : ℕ). AreBounds n groups.bounds.items) (sym many) (subst (AreBounds rows) (sym are) (starts_are_bounds stride rows some));
  first = ap (λ (n : ℕ). bound_at n groups.bounds.items 0) many ∙ ap (λ (bs : List ℕ). bound_at rows bs 0) are ∙ first_start stride rows some;
}

-- ---- bounds one level down

bounds_go_down : (t : Shape) (column : List Cell) (bounds : List ℕ) → AreBounds (length column) bounds → AreBounds (children t (values column)) (bounds_below t column bounds)
bounds_go_down (scalar k o) column bounds h = λ g. omega (arith, none_at bounds g, none_at bounds (suc g))
bounds_go_down (list_of t o) column bounds h = element_bounds_are column bounds h
bounds_go_down (map_of k v o) column bounds h = pair_bounds_are column bounds h
bounds_go_down (struct_of fs o) column bounds h = field_bounds_are column bounds h

first_goes_down : (t : Shape) (column : List Cell) (bounds : List ℕ) → bound_at (length column) bounds 0 ≡ 0 → bound_at (children t (values column)) (bounds_below t column bounds) 0 ≡ 0
first_goes_down (scalar k o) column bounds h = none_at bounds 0
first_goes_down (list_of t o) [] bounds h = first_by (elements_before []) 0 0 bounds refl (λ e. e) h
first_goes_down (list_of t o) (c ∷ cs) bounds h = first_by (elements_before (c ∷ cs)) (length (c ∷ cs)) (length (flat_map parts (values (c ∷ cs)))) bounds refl (λ e. absurd (omega (arith, e))) h
first_goes_down (map_of k v o) [] bounds h = first_by (pairs_before []) 0 0 bounds refl (λ e. e) h
first_goes_down (map_of k v o) (c ∷ cs) bounds h = first_by (pairs_before (c ∷ cs)) (length (c ∷ cs)) (length (flat_map pairs_in (values (c ∷ cs)))) bounds refl (λ e. absurd (omega (arith, e))) h
first_goes_down (struct_of fs o) [] bounds h = first_by (values_before []) 0 0 bounds refl (λ e. e) h
first_goes_down (struct_of fs o) (c ∷ cs) bounds h = first_by (values_before (c ∷ cs)) (length (c ∷ cs)) (length (values (c ∷ cs))) bounds refl (λ e. absurd (omega (arith, e))) h

-- what is read of a column: its own cells, and what is found of them
abbrev pub IsRead : (ℕ → Streams) → ℕ → Shape → CellGroups → ColumnFound → Type 0
IsRead x c t groups f = (own : List Cell) × IsOwnColumn t (x c) groups.count own × IsColumnFound t own groups.bounds.items f

pub read_by : (x : ℕ → Streams) (c : ℕ) (t : Shape) (groups : CellGroups) (bounds : List ℕ) (f : ColumnFound) → bounds ≡ groups.bounds.items → (own : List Cell) × IsOwnColumn t (x c) groups.count own × IsColumnFound t own bounds f → IsRead x c t groups f
read_by x c t groups bounds f same h = (h.0, h.1, subst (λ (bs : List ℕ). IsColumnFound t h.0 bs f) same h.2)

-- the cells below
abbrev pub below : ColumnFound → CellGroups
below f = record { count = f.below; bounds = f.bounds_below }

pub below_grouped : (x : ℕ → Streams) (c : ℕ) (t : Shape) (groups : CellGroups) (f : ColumnFound) → AreGrouped groups → IsRead x c t groups f → f.below < cell_limit → AreGrouped (below f)
below_grouped x c t groups f grouped read few =
    let own = read.0 in
    let bs = groups.bounds.items in
    let many = read.1.counted in
    let rising : AreBounds (length own) bs = subst (λ (n : ℕ). AreBounds n bs) (sym many) grouped.ascending in
    let begins : bound_at (length own) bs 0 ≡ 0 = ap (λ (n : ℕ). bound_at n bs 0) many ∙ grouped.first in
    record {
      few = few;
      ascending = subst (λ (xs : List ℕ). AreBounds f.below xs) (sym read.2.bounds_are) (subst (λ (n : ℕ). AreBounds n (bounds_below t own bs)) (sym read.2.below_is) (bounds_go_down t own bs rising));
      first = ap (λ (xs : List ℕ). bound_at f.below xs 0) read.2.bounds_are ∙ ap (λ (n : ℕ). bound_at n (bounds_below t own bs) 0) read.2.below_is ∙ first_goes_down t own bs begins;
    }

-- ---- a column by itself, and in the rows

module _ (s : Shape) (x : ℕ → Streams) (count : ℕ) (rows : List Cell) (firsts : List ℕ) (c : ℕ) (t : Shape) (here : List Cell) (groups : CellGroups) (next : ComesNext s x count rows firsts c t here groups) where
  type_is : shape_at s c ≡ t
  type_is = type_from s rows c t here next.columns

  cells_are : cells s c rows ≡ here
  cells_are = cells_from s rows c t here next.columns

  there : c < width s
  there = omega (arith, next.within, some_width t)

  -- what is found of the column's own cells is found of those in the rows
  found_here : (f : ColumnFound) → IsRead x c t groups f → IsColumnFound t here groups.bounds.items f
  found_here f read =
      let bs = groups.bounds.items in
      let long : groups.count ≡ length (cells s c rows) = sym next.counted ∙ ap length (sym cells_are) in
      let own = subst (λ (n : ℕ). IsOwnColumn (shape_at s c) (x c) n read.0) long (subst (λ (u : Shape). IsOwnColumn u (x c) groups.count read.0) (sym type_is) read.1) in
      let found = found_of_rows s x count rows c read.0 bs f next.spelled there own (subst (λ (u : Shape). IsColumnFound u read.0 bs f) (sym type_is) read.2) in
      subst (λ (u : Shape). IsColumnFound u here bs f) type_is (subst (λ (cs : List Cell). IsColumnFound (shape_at s c) cs bs f) cells_are found)

  counted_here : (f : ColumnFound) (counts : List Counts) → AreGrouped groups → IsRead x c t groups f → counts ≡ map (λ (group : GroupFound). group.before) f.groups.items → AreCountedOver c counts s rows firsts
  counted_here f counts grouped read are =
      let bs = groups.bounds.items in
      let h = found_here f read in
      let rising : AreBounds (length here) bs = subst (λ (n : ℕ). AreBounds n bs) (sym next.counted) grouped.ascending in
      let bounded : bounds_of s c rows firsts ≡ bs = bounds_here s rows firsts c t here bs next.bounded rising in
      record {
        counted = ap length are ∙ length-map f.groups.items (λ (group : GroupFound). group.before) ∙ h.counted ∙ ap length (sym bounded) ∙ length-map firsts (cells_before s c rows);
        each = λ g k at.
            let found = mapped_get f.groups.items g k (ap (λ ks. slice_get ks g) (sym are) ∙ at) in
            let before : AreCounted k (before_group here bs g) = subst (λ (n : Counts). AreCounted n (before_group here bs g)) found.2 (h.groups_are g found.0 found.1).before in
            subst (λ (xs : List ℕ). AreCounted k (before_group (cells s c rows) xs g)) (sym bounded) (subst (λ (cs : List Cell). AreCounted k (before_group cs bs g)) (sym cells_are) before);
      }

  -- a column of rows isn't refused
  memory_here : (f : StripeFault) → (f ≢ fault.OutOfMemory → (all : Bool) × SpellsNoCells t (x c) c all groups.count f) → f ≡ fault.OutOfMemory
  memory_here f refused = only_memory f (λ other.
      let long : length (cells s c rows) ≡ groups.count = ap length cells_are ∙ next.counted in
      let own = own_at s x count rows c next.spelled there in
      (refused other).1.none (map childless (cells s c rows)) (subst (λ (u : Shape). IsOwnColumn u (x c) groups.count (map childless (cells s c rows))) type_is
      (subst (λ (n : ℕ). IsOwnColumn (shape_at s c) (x c) n (map childless (cells s c rows))) long own)))

  here_fit : RowsFit t here
  here_fit = subst (λ (u : Shape). RowsFit u here) type_is (subst (λ (cs : List Cell). RowsFit (shape_at s c) cs) cells_are (cells_fit s c rows there next.spelled.fit))

pub counted_in : (x : ℕ → Streams) (c column : ℕ) (t : Shape) (groups : CellGroups) (f : ColumnFound) (counts : List Counts) → column ≡ c → AreGrouped groups → IsRead x c t groups f → counts ≡ map (λ (group : GroupFound). group.before) f.groups.items
    → AreCountedIn x c t groups column counts
counted_in x c column t groups f counts same grouped read are = λ s count rows firsts here next.
    subst (λ (n : ℕ). AreCountedOver n counts s rows firsts) (sym same) (counted_here s x count rows firsts c t here groups next f counts grouped read are)

pub memory_in : (x : ℕ → Streams) (c : ℕ) (t : Shape) (groups : CellGroups) (f : StripeFault) → (f ≢ fault.OutOfMemory → (all : Bool) × SpellsNoCells t (x c) c all groups.count f) → IsMemoryIn x c t groups f
memory_in x c t groups f refused = λ s count rows firsts here next. memory_here s x count rows firsts c t here groups next f refused

-- ---- the columns right below

pub read_leads : (x : ℕ → Streams) (c : ℕ) (t : Shape) (groups : CellGroups) (f : ColumnFound) → IsRead x c t groups f → Leads x c t groups (below f)
read_leads x c t groups f read = λ s count rows firsts here next. let h = found_here s x count rows firsts c t here groups next f read in (h.below_is, h.bounds_are)

module _ (so : Shape → List Cell → List ℕ → Type 0) (x : ℕ → Streams) (c : ℕ) (t : Shape) (groups under : CellGroups) (leads : Leads x c t groups under) where
  pub in_list : (e : Shape) (o : List ℕ) → t ≡ list_of e o → InRows so x (c + 1) e under → InRows so x c t groups
  in_list e o is inner = λ s count rows firsts here next.
      let h = subst (λ (u : Shape). ComesNext s x count rows firsts c u here groups) is next in
      let b = subst (λ (u : Shape). AreGroupsBelow u here groups under) is (leads s count rows firsts here next) in
      inner s count rows firsts (flat_map parts (values here)) (record {
        spelled = h.spelled;
        within = omega (arith, h.within);
        counted = sym b.0;
        columns = element_from s rows c e o here h.columns;
        bounded = subst (λ (bs : List ℕ). AreGroupsFrom s rows firsts (c + 1) e (flat_map parts (values here)) bs) (sym b.1) (groups_element s rows firsts c e o here groups.bounds.items h.bounded);
      })

  pub in_keys : (k v : Shape) (o : List ℕ) → t ≡ map_of k v o → InRows so x (c + 1) k under → InRows so x c t groups
  in_keys k v o is inner = λ s count rows firsts here next.
      let h = subst (λ (u : Shape). ComesNext s x count rows firsts c u here groups) is next in
      let b = subst (λ (u : Shape). AreGroupsBelow u here groups under) is (leads s count rows firsts here next) in
      inner s count rows firsts (flat_map keys_in (values here)) (record {
        spelled = h.spelled;
        within = omega (arith, h.within);
        counted = keys_long (values here) ∙ sym b.0;
        columns = (pairs_from s rows c k v o here h.columns).0;
        bounded = subst (λ (bs : List ℕ). AreGroupsFrom s rows firsts (c + 1) k (flat_map keys_in (values here)) bs) (sym b.1) (groups_pairs s rows firsts c k v o here groups.bounds.items h.bounded).0;
      })

  pub in_seconds : (k v : Shape) (o : List ℕ) (second : ℕ) → t ≡ map_of k v o → second ≡ c + 1 + width k → InRows so x second v under → InRows so x c t groups
  in_seconds k v o second is behind inner = λ s count rows firsts here next.
      let h = subst (λ (u : Shape). ComesNext s x count rows firsts c u here groups) is next in
      let b = subst (λ (u : Shape). AreGroupsBelow u here groups under) is (leads s count rows firsts here next) in
      inner s count rows firsts (flat_map values_in (values here)) (subst (λ (d : ℕ). ComesNext s x count rows firsts d v (flat_map values_in (values here)) under) (sym behind) (record {
        spelled = h.spelled;
        within = omega (arith, h.within);
        counted = map_values_long (values here) ∙ sym b.0;
        columns = (pairs_from s rows c k v o here h.columns).1;
        bounded = subst (λ (bs : List ℕ). AreGroupsFrom s rows firsts (c + 1 + width k) v (flat_map values_in (values here)) bs) (sym b.1) (groups_pairs s rows firsts c k v o here groups.bounds.items h.bounded).1;
      }))

  pub in_struct : (fs : Fields) (o : List ℕ) → t ≡ struct_of fs o → InStructs so x (c + 1) fs under → InRows so x c t groups
  in_struct fs o is inner = λ s count rows firsts here next.
      let h = subst (λ (u : Shape). ComesNext s x count rows firsts c u here groups) is next in
      let b = subst (λ (u : Shape). AreGroupsBelow u here groups under) is (leads s count rows firsts here next) in
      inner s count rows firsts (map parts (values here)) (record {
        spelled = h.spelled;
        within = omega (arith, h.within);
        counted = length-map (values here) parts ∙ sym b.0;
        fit = structs_fit fs o here (here_fit s x count rows firsts c (struct_of fs o) here groups h);
        columns = fields_from s rows c fs o here h.columns;
        bounded = subst (λ (bs : List ℕ). AreFieldGroupsFrom s rows firsts (c + 1) fs (map parts (values here)) bs) (sym b.1) (groups_fields s rows firsts c fs o here groups.bounds.items h.bounded);
      })

-- ---- the fields of structs, one after the other

first_next : (s : Shape) (x : ℕ → Streams) (count : ℕ) (rows : List Cell) (firsts : List ℕ) (c : ℕ) (name : List ℕ) (t : Shape) (fs : Fields) (structs : List (List Cell)) (groups : CellGroups)
    → FieldsComeNext s x count rows firsts c (field name t fs) structs groups → ComesNext s x count rows firsts c t (flat_map (take 1) structs) groups
first_next s x count rows firsts c name t fs structs groups h = record {
  spelled = h.spelled;
  within = omega (arith, h.within);
  counted = heads_long name t fs structs h.fit ∙ h.counted;
  columns = first_from s rows c name t fs structs h.columns;
  bounded = groups_first s rows firsts c name t fs structs groups.bounds.items h.fit h.bounded;
}

others_next : (s : Shape) (x : ℕ → Streams) (count : ℕ) (rows : List Cell) (firsts : List ℕ) (c : ℕ) (name : List ℕ) (t : Shape) (fs : Fields) (structs : List (List Cell)) (groups : CellGroups)
    → FieldsComeNext s x count rows firsts c (field name t fs) structs groups → FieldsComeNext s x count rows firsts (c + width t) fs (map (drop 1) structs) groups
others_next s x count rows firsts c name t fs structs groups h = record {
  spelled = h.spelled;
  within = omega (arith, h.within);
  counted = length-map structs (drop 1) ∙ h.counted;
  fit = tails_fit name t fs structs h.fit;
  columns = others_from s rows c name t fs structs h.columns;
  bounded = groups_others s rows firsts c name t fs structs groups.bounds.items h.bounded;
}

-- so many fields were passed, and the others come next
pub record ArePassed (x : ℕ → Streams) (fs : List Field) (first next : ℕ) (groups : CellGroups) (place : ℕ) : Type 0 where
  pub left : next + widths (fields_view (drop place fs)) ≡ first + widths (fields_view fs)
  pub coming : (s : Shape) (count : ℕ) (rows : List Cell) (firsts : List ℕ) (structs : List (List Cell)) → FieldsComeNext s x count rows firsts first (fields_view fs) structs groups
      → FieldsComeNext s x count rows firsts next (fields_view (drop place fs)) (map (drop place) structs) groups

pub none_passed : (x : ℕ → Streams) (fs : List Field) (first : ℕ) (groups : CellGroups) → ArePassed x fs first first groups 0
none_passed x fs first groups = record {
  left = refl;
  coming = λ s count rows firsts structs h. subst (λ (xss : List (List Cell)). FieldsComeNext s x count rows firsts first (fields_view fs) xss groups) (sym (nothing_dropped structs)) h;
}

module _ (x : ℕ → Streams) (fs : List Field) (first next : ℕ) (groups : CellGroups) (place : ℕ) (f : Field) (passed : ArePassed x fs first next groups place) (lt : place < length fs) (is : f ≡ get_or fs place f) where
  here : fields_view (drop place fs) ≡ field (string_bytes f.name) (shape f.tree) (fields_view (drop (place + 1) fs))
  here = fields_at fs place f lt is

  -- the columns of the field are among those that are left
  pub field_left : next + width (shape f.tree) + widths (fields_view (drop (place + 1) fs)) ≡ first + widths (fields_view fs)
  field_left = let e = ap widths here in omega (arith, e, passed.left)

  come : (s : Shape) (count : ℕ) (rows : List Cell) (firsts : List ℕ) (structs : List (List Cell)) → FieldsComeNext s x count rows firsts first (fields_view fs) structs groups
      → FieldsComeNext s x count rows firsts next (field (string_bytes f.name) (shape f.tree) (fields_view (drop (place + 1) fs))) (map (drop place) structs) groups
  come s count rows firsts structs h = subst (λ (gs : Fields). FieldsComeNext s x count rows firsts next gs (map (drop place) structs) groups) here (passed.coming s count rows firsts structs h)

  pub in_field : (so : Shape → List Cell → List ℕ → Type 0) → InRows so x next (shape f.tree) groups → InStructs so x first (fields_view fs) groups
  in_field so inner = λ s count rows firsts structs h.
      inner s count rows firsts (flat_map (take 1) (map (drop place) structs))
      (first_next s x count rows firsts next (string_bytes f.name) (shape f.tree) (fields_view (drop (place + 1) fs)) (map (drop place) structs) groups (come s count rows firsts structs h))

  pub one_passed : (after : ℕ) → after ≡ next + width (shape f.tree) → ArePassed x fs first after groups (place + 1)
  one_passed after there = record {
    left = let e = field_left in omega (arith, e, there);
    coming = λ s count rows firsts structs h.
        let others = fields_view (drop (place + 1) fs) in
        subst (λ (n : ℕ). FieldsComeNext s x count rows firsts n others (map (drop (place + 1)) structs) groups) (sym there)
        (subst (λ (xss : List (List Cell)). FieldsComeNext s x count rows firsts (next + width (shape f.tree)) others xss groups) (dropped_more place structs)
        (others_next s x count rows firsts next (string_bytes f.name) (shape f.tree) others (map (drop place) structs) groups (come s count rows firsts structs h)));
  }

-- all columns of the fields were passed
pub all_passed : (x : ℕ → Streams) (fs : List Field) (first next : ℕ) (groups : CellGroups) (place : ℕ) → length fs ≤ place → ArePassed x fs first next groups place → next ≡ first + widths (fields_view fs)
all_passed x fs first next groups place all passed = let w : widths (fields_view (drop place fs)) ≡ 0 = ap widths (none_after fs place all) in omega (arith, w, passed.left)

-- ---- from the root

pub root_next : (s : Shape) (x : ℕ → Streams) (count : ℕ) (rows : List Cell) (firsts : List ℕ) (t : Shape) (groups : CellGroups) → SpellRows s x count rows → t ≡ s → groups.count ≡ count → groups.bounds.items ≡ firsts
    → ComesNext s x count rows firsts 0 t rows groups
root_next s x count rows firsts t groups spelled is many are = record {
  spelled = spelled;
  within = let w = ap width is in omega (arith, w);
  counted = spelled.counted ∙ sym many;
  columns = subst (λ (u : Shape). AreColumnsFrom s rows 0 u rows) (sym is) (all_columns_from s rows);
  bounded = subst (λ (bs : List ℕ). AreGroupsFrom s rows firsts 0 t rows bs) (sym are) (subst (λ (u : Shape). AreGroupsFrom s rows firsts 0 u rows firsts) (sym is) (groups_at_root s rows firsts));
}

-- what is so of all rows of which the columns come next from the root on is so of the stripe's
pub from_root : (so : Shape → List Cell → List ℕ → Type 0) (view : Opened) (bytes : List ℕ) (t : Shape) (groups : CellGroups) → bytes ≡ view.bytes → t ≡ view.schema → groups.count ≡ view.info.number_of_rows → groups.bounds.items ≡ starts_of_groups view.stride groups.count
    → InRows so (columns_of view.footer bytes) 0 t groups → (rows : List Cell) → SpellRows view.schema (columns_of view.footer view.bytes) view.info.number_of_rows rows → so view.schema rows (starts_of_groups view.stride (length rows))
from_root so view bytes t groups same is many are h rows spelled =
    let here : SpellRows view.schema (columns_of view.footer bytes) view.info.number_of_rows rows = subst (λ (b : List ℕ). SpellRows view.schema (columns_of view.footer b) view.info.number_of_rows rows) (sym same) spelled in
    let firsts : groups.bounds.items ≡ starts_of_groups view.stride (length rows) = are ∙ ap (starts_of_groups view.stride) (many ∙ sym spelled.counted) in
    h view.schema view.info.number_of_rows rows (starts_of_groups view.stride (length rows)) rows (root_next view.schema (columns_of view.footer bytes) view.info.number_of_rows rows (starts_of_groups view.stride (length rows)) t groups here is many firsts)

pub few_rows : (s : Shape) (x : ℕ → Streams) (count : ℕ) (rows : List Cell) → SpellRows s x count rows → count < cell_limit
few_rows s x count rows spelled = let few = (spelled.column 0 (some_width s)).few in omega (arith, few, spelled.counted, ap length (cells-zero s rows))

-- counts of as many groups as there are entries
pub counted_entries : (counts given : List Counts) (cs : List Cell) (bounds : List ℕ) (m n : ℕ) → given ≡ counts → m ≡ n → AreCountedBefore counts cs bounds m → AreCountedBefore given cs bounds n
counted_entries counts given cs bounds m n e f h = subst (λ (k : ℕ). AreCountedBefore given cs bounds k) f (subst (λ (ks : List Counts). AreCountedBefore ks cs bounds m) (sym e) h)

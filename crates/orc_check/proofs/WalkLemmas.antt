-- A stripe's columns, checked one after the other.
use Rattle.std.proofs.Common.{◌≡◌, ◌∙◌, Bool, ℕ, zero, suc, ◌+◌, ◌-◌, ◌^◌, ◌<◌, ◌≤◌, List, [], ◌∷◌, ◌++◌, length, map, take, drop, get_or, slice_get, refl, sym, ap, subst, arith, string_bytes}
use Rattle.std.specs.List.{flat_map}
use Rattle.std.proofs.lemmas.List.{length-map}
use Rattle.orc_wire.specs.declared.stripe_footer.StripeFooter.{StripeFooter}
use Rattle.orc_values.specs.Cells.{Cell, parts, pairs_in, keys_in, values_in, values}
use Rattle.orc_values.specs.Columns.{cells}
use Rattle.orc_values.specs.Fits.{RowsFit}
use Rattle.orc_values.specs.Shapes.{Shape, scalar, list_of, map_of, struct_of, Fields, field, width, widths, shape_at}
use Rattle.orc_values.specs.Views.{shape, fields as fields_view}
use Rattle.orc_values.specs.declared.kind.Scalar.{Scalar}
use Rattle.orc_values.specs.declared.tree.Field.{Field}
use Rattle.orc_values.proofs.Together.{cells_fit, structs_fit, tails_fit}
use Rattle.orc_stats.specs.Kinds.{kind_of}
use Rattle.orc_stats.specs.Known.{known_as, told_body}
use Rattle.orc_stats.specs.Statistics.{stat}
use Rattle.orc_stats.specs.declared.stat.Stat.{Stat}
use Rattle.orc_column_reader.specs.Faults.{RowsFault}
use Rattle.orc_directory.specs.Located.{AreLocated}
use Rattle.orc_column_reader.specs.Stripe.{Streams, HasFooter, IsStripe, SpellRows, columns_of}
use Rattle.orc_values.specs.Limits.{cell_limit}
use Rattle.orc_directory.specs.declared.fault.StripeFault.{StripeFault}
use Rattle.orc_directory.specs.declared.fault.StripeFault.TheVariants.{TooMany}
use Rattle.orc_values.proofs.Widths.{some_width}
use Rattle.orc_row_groups.specs.Bounds.{AreBounds, bound_at, elements_before, pairs_before, values_before}
use Rattle.orc_row_groups.proofs.Groups.{element_bounds_are, field_bounds_are, keys_long, map_values_long}
use Rattle.orc_column_walk.specs.ColumnFound.{IsColumnFound, bounds_below}
use Rattle.orc_column_walk.specs.OwnColumns.{IsOwnColumn, OwnDown}
use Rattle.orc_column_walk.specs.OwnFaults.{SpellsNoCells, RefusedDown}
use Rattle.orc_column_walk.specs.OwnLeft.{children}
use Rattle.orc_column_walk.specs.declared.found.ColumnFound.{ColumnFound}
use Rattle.orc_column_walk.proofs.OwnRows.{down_rows}
use Rattle.orc_column_walk.proofs.RefusedLemmas.{refused_rows}
use Rattle.orc_column_walk.proofs.TreeLemmas.{FieldsRead, too_many_rows}
use Rattle.orc_column_walk.proofs.FoundLemmas.{found_of_rows}
use Rattle.orc_row_groups.specs.Groups.{starts_of_groups, bounds_of, AreGroupsFrom, AreFieldGroupsFrom}
use Rattle.orc_row_groups.specs.Subtrees.{AreColumnsFrom, AreFieldsFrom}
use Rattle.orc_row_groups.proofs.GroupLemmas.{bounds_here, groups_at_root, groups_element, groups_pairs, groups_fields, groups_first, groups_others, heads_long, pair_bounds_are}
use Rattle.orc_row_groups.proofs.SubtreeLemmas.{type_from, cells_from, all_columns_from, element_from, pairs_from, fields_from, first_from, others_from, fields_at, none_after, nothing_dropped, dropped_more}
use Rattle.orc_stripe_reader.specs.Opened.{Opened}
use Rattle.orc_check.specs.declared.columns.CellGroups.{CellGroups}
use Rattle.orc_check.specs.declared.finding.Finding.{Finding}
use Rattle.orc_check.specs.declared.open_stripe.OpenStripe.{OpenStripe}
use Rattle.orc_check.specs.Checking.{HaveKnown}
use Rattle.orc_check.specs.Findings.{AddsFindings, OfEach, OfColumn}
use Rattle.orc_check.specs.Needed.{NeedGroups}
use Rattle.orc_check.specs.Walking.{HasStripeParts, SpellsRows, AreGrouped, ComesNext, FieldsComeNext, AreChildGroups, AreGroups, AreColumnGroupsFound, IsFoundInRows, AreColumnsChecked}
use Rattle.orc_check.proofs.NeededLemmas.{need_within, need_here}
use Rattle.orc_check.proofs.ReportLemmas.{adds_none, adds_next}
use Rattle.orc_check.proofs.ToldLemmas.{more_known}
use Rattle.orc_row_groups.proofs.BoundLemmas.{none_at, first_by}

-- ---- the rows with which groups begin

pub one_group : (rows : ℕ) → AreBounds rows (0 ∷ [])
one_group rows zero = omega arith
one_group rows (suc g) = omega arith

-- bounds stay bounds one level down
bounds_go_down : (s : Shape) (column : List Cell) (bounds : List ℕ) → AreBounds (length column) bounds → AreBounds (children s (values column)) (bounds_below s column bounds)
bounds_go_down (scalar k o) column bounds h = λ g. omega (arith, none_at bounds g, none_at bounds (suc g))
bounds_go_down (list_of s o) column bounds h = element_bounds_are column bounds h
bounds_go_down (map_of k v o) column bounds h = pair_bounds_are column bounds h
bounds_go_down (struct_of fs o) column bounds h = field_bounds_are column bounds h

first_goes_down : (s : Shape) (column : List Cell) (bounds : List ℕ) → bound_at (length column) bounds 0 ≡ 0 → bound_at (children s (values column)) (bounds_below s column bounds) 0 ≡ 0
first_goes_down (scalar k o) column bounds h = none_at bounds 0
first_goes_down (list_of s o) [] bounds h = first_by (elements_before []) 0 0 bounds refl (λ e. e) h
first_goes_down (list_of s o) (c ∷ cs) bounds h = first_by (elements_before (c ∷ cs)) (length (c ∷ cs)) (length (flat_map parts (values (c ∷ cs)))) bounds refl (λ e. absurd (omega (arith, e))) h
first_goes_down (map_of k v o) [] bounds h = first_by (pairs_before []) 0 0 bounds refl (λ e. e) h
first_goes_down (map_of k v o) (c ∷ cs) bounds h = first_by (pairs_before (c ∷ cs)) (length (c ∷ cs)) (length (flat_map pairs_in (values (c ∷ cs)))) bounds refl (λ e. absurd (omega (arith, e))) h
first_goes_down (struct_of fs o) [] bounds h = first_by (values_before []) 0 0 bounds refl (λ e. e) h
first_goes_down (struct_of fs o) (c ∷ cs) bounds h = first_by (values_before (c ∷ cs)) (length (c ∷ cs)) (length (values (c ∷ cs))) bounds refl (λ e. absurd (omega (arith, e))) h

pub below_grouped : (s : Shape) (own : List Cell) (n : ℕ) (bs : List ℕ) (below : CellGroups) → AreBounds n bs → bound_at n bs 0 ≡ 0 → length own ≡ n → below.count ≡ children s (values own) → below.bounds.items ≡ bounds_below s own bs
    → below.count < cell_limit → AreGrouped below
below_grouped s own n bs below ascending first many counted bounded few =
    let rising : AreBounds (length own) bs = subst (λ (m : ℕ). AreBounds m bs) (sym many) ascending in
    let begins : bound_at (length own) bs 0 ≡ 0 = ap (λ (m : ℕ). bound_at m bs 0) many ∙ first in
    record {
      few = few;
      ascending = subst (λ (xs : List ℕ). AreBounds below.count xs) (sym bounded) (subst (λ (m : ℕ). AreBounds m (bounds_below s own bs)) (sym counted) (bounds_go_down s own bs rising));
      first = ap (λ (xs : List ℕ). bound_at below.count xs 0) bounded ∙ ap (λ (m : ℕ). bound_at m (bounds_below s own bs) 0) counted ∙ first_goes_down s own bs begins;
    }

-- ---- a column by itself, and in the rows

module _ (view : Opened) (rows : List Cell) (c : ℕ) (t : Shape) (here : List Cell) (groups : CellGroups) (next : ComesNext view rows c t here groups) where
  type_is : shape_at view.schema c ≡ t
  type_is = type_from view.schema rows c t here next.columns

  cells_are : cells view.schema c rows ≡ here
  cells_are = cells_from view.schema rows c t here next.columns

  -- what is found of the column's own cells is found of those in the rows
  pub found_here : (own : List Cell) (bounds : List ℕ) (f : ColumnFound) → c < width view.schema → IsOwnColumn t (columns_of view.footer view.bytes c) groups.count own → IsColumnFound t own bounds f → IsColumnFound t here bounds f
  found_here own bounds f lt is h =
      let x = columns_of view.footer view.bytes in
      let long : groups.count ≡ length (cells view.schema c rows) = sym next.counted ∙ ap length (sym cells_are) in
      let of_own = subst (λ (n : ℕ). IsOwnColumn (shape_at view.schema c) (x c) n own) long (subst (λ (u : Shape). IsOwnColumn u (x c) groups.count own) (sym type_is) is) in
      let of_found = subst (λ (u : Shape). IsColumnFound u own bounds f) (sym type_is) h in
      let r = found_of_rows view.schema x view.info.number_of_rows rows c own bounds f next.spelled lt of_own of_found in
      subst (λ (u : Shape). IsColumnFound u here bounds f) type_is (subst (λ (cs : List Cell). IsColumnFound (shape_at view.schema c) cs bounds f) cells_are r)

  -- the column's groups, where they are needed
  groups_here : (f : ColumnFound) → AreGrouped groups → NeedGroups view c (c + width t) → IsColumnFound t here groups.bounds.items f → AreColumnGroupsFound view rows c t f.groups.items
  groups_here f grouped need h =
      let all = starts_of_groups view.stride (length rows) in
      let rising : AreBounds (length here) groups.bounds.items = subst (λ (n : ℕ). AreBounds n groups.bounds.items) (sym next.counted) grouped.ascending in
      let bounded : bounds_of view.schema c rows all ≡ groups.bounds.items = bounds_here view.schema rows all c t here groups.bounds.items (next.bounded need) rising in
      record {
        spelled = next.spelled;
        type = type_is;
        counted = h.counted ∙ ap length (sym bounded);
        ascending = subst (λ (bs : List ℕ). AreBounds (length (cells view.schema c rows)) bs) (sym bounded) (subst (λ (cs : List Cell). AreBounds (length cs) groups.bounds.items) (sym cells_are) rising);
        are = subst (λ (bs : List ℕ). AreGroups t (cells view.schema c rows) bs f.groups.items) (sym bounded) (subst (λ (cs : List Cell). AreGroups t cs groups.bounds.items f.groups.items) (sym cells_are) h.groups_are);
      }

  pub found_in_rows : (bounds : List ℕ) (f : ColumnFound) → AreGrouped groups → (NeedGroups view c (c + width t) → bounds ≡ groups.bounds.items) → IsColumnFound t here bounds f → IsFoundInRows view rows c t f
  found_in_rows bounds f grouped same h = record {
    counted = next.spelled.counted;
    type = type_is;
    stat_is = h.stat_is ∙ ap (stat (kind_of t)) (sym cells_are);
    groups = λ may.
        let need : NeedGroups view c (c + width t) = need_here view c (c + width t) (omega (arith, some_width t)) may in
        groups_here f grouped need (subst (λ (bs : List ℕ). IsColumnFound t here bs f) (same need) h);
  }

  here_fit : c < width view.schema → RowsFit t here
  here_fit lt = subst (λ (u : Shape). RowsFit u here) type_is (subst (λ (cs : List Cell). RowsFit (shape_at view.schema c) cs) cells_are (cells_fit view.schema c rows lt next.spelled.fit))

-- ---- the columns right below

pub element_next : (view : Opened) (rows : List Cell) (c d : ℕ) (s t : Shape) (o : List ℕ) (here : List Cell) (groups below : CellGroups) → s ≡ list_of t o → d ≡ c + 1 → ComesNext view rows c s here groups
    → AreChildGroups view c s here groups below → ComesNext view rows d t (flat_map parts (values here)) below
element_next view rows c d s t o here groups below is there h is_below =
    let at_list = subst (λ (u : Shape). ComesNext view rows c u here groups) is h in
    let b = subst (λ (u : Shape). AreChildGroups view c u here groups below) is is_below in
    let first = starts_of_groups view.stride (length rows) in
    let elements = flat_map parts (values here) in
    record {
      spelled = h.spelled;
      counted = sym b.0;
      columns = subst (λ (k : ℕ). AreColumnsFrom view.schema rows k t elements) (sym there) (element_from view.schema rows c t o here at_list.columns);
      bounded = λ need.
          let above : NeedGroups view c (c + width (list_of t o)) = need_within view c d (d + width t) (c + width (list_of t o)) (omega (arith, there)) (omega (arith, there)) need in
          subst (λ (bs : List ℕ). AreGroupsFrom view.schema rows first d t elements bs) (sym (b.1 above))
          (subst (λ (k : ℕ). AreGroupsFrom view.schema rows first k t elements (map (elements_before here) groups.bounds.items)) (sym there) (groups_element view.schema rows first c t o here groups.bounds.items (at_list.bounded above)));
    }

pub keys_next : (view : Opened) (rows : List Cell) (c d : ℕ) (s k v : Shape) (o : List ℕ) (here : List Cell) (groups below : CellGroups) → s ≡ map_of k v o → d ≡ c + 1 → ComesNext view rows c s here groups
    → AreChildGroups view c s here groups below → ComesNext view rows d k (flat_map keys_in (values here)) below
keys_next view rows c d s k v o here groups below is there h is_below =
    let at_map = subst (λ (u : Shape). ComesNext view rows c u here groups) is h in
    let b = subst (λ (u : Shape). AreChildGroups view c u here groups below) is is_below in
    let first = starts_of_groups view.stride (length rows) in
    let keys = flat_map keys_in (values here) in
    record {
      spelled = h.spelled;
      counted = keys_long (values here) ∙ sym b.0;
      columns = subst (λ (j : ℕ). AreColumnsFrom view.schema rows j k keys) (sym there) (pairs_from view.schema rows c k v o here at_map.columns).0;
      bounded = λ need.
          let above : NeedGroups view c (c + width (map_of k v o)) = need_within view c d (d + width k) (c + width (map_of k v o)) (omega (arith, there)) (omega (arith, there)) need in
          subst (λ (bs : List ℕ). AreGroupsFrom view.schema rows first d k keys bs) (sym (b.1 above))
          (subst (λ (j : ℕ). AreGroupsFrom view.schema rows first j k keys (map (pairs_before here) groups.bounds.items)) (sym there) (groups_pairs view.schema rows first c k v o here groups.bounds.items (at_map.bounded above)).0);
    }

pub seconds_next : (view : Opened) (rows : List Cell) (c d second : ℕ) (s k v : Shape) (o : List ℕ) (here : List Cell) (groups below : CellGroups) → s ≡ map_of k v o → d ≡ c + 1 → second ≡ d + width k
    → ComesNext view rows c s here groups → AreChildGroups view c s here groups below → ComesNext view rows second v (flat_map values_in (values here)) below
seconds_next view rows c d second s k v o here groups below is there behind h is_below =
    let at_map = subst (λ (u : Shape). ComesNext view rows c u here groups) is h in
    let b = subst (λ (u : Shape). AreChildGroups view c u here groups below) is is_below in
    let first = starts_of_groups view.stride (length rows) in
    let seconds = flat_map values_in (values here) in
    let e : c + 1 + width k ≡ second = omega (arith, there, behind) in
    record {
      spelled = h.spelled;
      counted = map_values_long (values here) ∙ sym b.0;
      columns = subst (λ (j : ℕ). AreColumnsFrom view.schema rows j v seconds) e (pairs_from view.schema rows c k v o here at_map.columns).1;
      bounded = λ need.
          let above : NeedGroups view c (c + width (map_of k v o)) = need_within view c second (second + width v) (c + width (map_of k v o)) (omega (arith, there, behind)) (omega (arith, there, behind)) need in
          subst (λ (bs : List ℕ). AreGroupsFrom view.schema rows first second v seconds bs) (sym (b.1 above))
          (subst (λ (j : ℕ). AreGroupsFrom view.schema rows first j v seconds (map (pairs_before here) groups.bounds.items)) e (groups_pairs view.schema rows first c k v o here groups.bounds.items (at_map.bounded above)).1);
    }

pub fields_next : (view : Opened) (rows : List Cell) (c d : ℕ) (s : Shape) (fs : Fields) (o : List ℕ) (here : List Cell) (groups below : CellGroups) → s ≡ struct_of fs o → d ≡ c + 1 → c < width view.schema
    → ComesNext view rows c s here groups → AreChildGroups view c s here groups below → FieldsComeNext view rows d fs (map parts (values here)) below
fields_next view rows c d s fs o here groups below is there lt h is_below =
    let at_struct = subst (λ (u : Shape). ComesNext view rows c u here groups) is h in
    let b = subst (λ (u : Shape). AreChildGroups view c u here groups below) is is_below in
    let first = starts_of_groups view.stride (length rows) in
    let structs = map parts (values here) in
    record {
      spelled = h.spelled;
      counted = length-map (values here) parts ∙ sym b.0;
      fit = structs_fit fs o here (here_fit view rows c (struct_of fs o) here groups at_struct lt);
      columns = subst (λ (k : ℕ). AreFieldsFrom view.schema rows k fs structs) (sym there) (fields_from view.schema rows c fs o here at_struct.columns);
      bounded = λ need.
          let above : NeedGroups view c (c + width (struct_of fs o)) = need_within view c d (d + widths fs) (c + width (struct_of fs o)) (omega (arith, there)) (omega (arith, there)) need in
          subst (λ (bs : List ℕ). AreFieldGroupsFrom view.schema rows first d fs structs bs) (sym (b.1 above))
          (subst (λ (k : ℕ). AreFieldGroupsFrom view.schema rows first k fs structs (map (values_before here) groups.bounds.items)) (sym there) (groups_fields view.schema rows first c fs o here groups.bounds.items (at_struct.bounded above)));
    }

-- ---- what is checked

-- one column more
pub column_checked : (view : Opened) (told : List Stat) (number : ℕ) (rows : List Cell) (c : ℕ) (before mid after : List Finding) (stats : List Stat) (x : Stat) → AreColumnsChecked view told number rows c before mid stats
    → AddsFindings (OfColumn view told number rows c) mid after → x ≡ stat (kind_of (shape_at view.schema c)) (cells view.schema c rows)
    → AreColumnsChecked view told number rows (c + 1) before after (stats ++ known_as (told_body (slice_get told c)) x ∷ [])
column_checked view told number rows c before mid after stats x h more is = record {
  found = adds_next (OfColumn view told number rows) c before mid after h.found more;
  known = more_known view.schema told rows c stats (known_as (told_body (slice_get told c)) x) h.known (ap (known_as (told_body (slice_get told c))) is);
}

pub none_checked : (view : Opened) (told : List Stat) (number : ℕ) (rows : List Cell) (before : List Finding) → AreColumnsChecked view told number rows 0 before before []
none_checked view told number rows before = record {
  found = adds_none (OfColumn view told number rows) before;
  known = record { counted = refl; each = λ c lt. absurd (omega (arith, lt)) };
}

-- All columns of a type from number c on are checked, wherever they come next.
abbrev pub Checks : Opened → List Stat → ℕ → ℕ → ℕ → Shape → CellGroups → List Finding → List Stat → List Finding → List Stat → Type 0
Checks view told number c end t groups found stats after more =
    (rows here : List Cell) (before : List Finding) → ComesNext view rows c t here groups → AreColumnsChecked view told number rows c before found stats → AreColumnsChecked view told number rows end before after more

abbrev pub ChecksFields : Opened → List Stat → ℕ → ℕ → ℕ → Fields → CellGroups → List Finding → List Stat → List Finding → List Stat → Type 0
ChecksFields view told number c end fs groups found stats after more =
    (rows : List Cell) (structs : List (List Cell)) (before : List Finding) → FieldsComeNext view rows c fs structs groups → AreColumnsChecked view told number rows c before found stats → AreColumnsChecked view told number rows end before after more

-- a column's children are these, wherever it comes next
abbrev pub Leads : Opened → ℕ → Shape → CellGroups → CellGroups → Type 0
Leads view c t groups below = (rows here : List Cell) → ComesNext view rows c t here groups → AreChildGroups view c t here groups below

module _ (view : Opened) (told : List Stat) (number : ℕ) (c d : ℕ) (s : Shape) (groups below : CellGroups) (found mid after : List Finding) (stats some more : List Stat) (there : d ≡ c + 1) (leads : Leads view c s groups below)
    (own : Checks view told number c (c + 1) s groups found stats mid some) where
  here_checked : (rows here : List Cell) (before : List Finding) → ComesNext view rows c s here groups → AreColumnsChecked view told number rows c before found stats → AreColumnsChecked view told number rows d before mid some
  here_checked rows here before next h = subst (λ (k : ℕ). AreColumnsChecked view told number rows k before mid some) (sym there) (own rows here before next h)

  pub list_checked : (t : Shape) (o : List ℕ) → s ≡ list_of t o → Checks view told number d (d + width t) t below mid some after more
      → Checks view told number c (c + width s) s groups found stats after more
  list_checked t o is inner rows here before next h =
      let w : width s ≡ width (list_of t o) = ap width is in
      let e : d + width t ≡ c + width s = omega (arith, w, there) in
      subst (λ (k : ℕ). AreColumnsChecked view told number rows k before after more) e
      (inner rows (flat_map parts (values here)) before (element_next view rows c d s t o here groups below is there next (leads rows here next)) (here_checked rows here before next h))

  pub map_checked : (k v : Shape) (o : List ℕ) (second : ℕ) (half : List Finding) (halves : List Stat) → s ≡ map_of k v o → second ≡ d + width k
      → Checks view told number d (d + width k) k below mid some half halves
      → Checks view told number second (second + width v) v below half halves after more → Checks view told number c (c + width s) s groups found stats after more
  map_checked k v o second half halves is behind keys vals rows here before next h =
      let w : width s ≡ width (map_of k v o) = ap width is in
      let e : second + width v ≡ c + width s = omega (arith, w, there, behind) in
      let b = leads rows here next in
      let first = keys rows (flat_map keys_in (values here)) before (keys_next view rows c d s k v o here groups below is there next b) (here_checked rows here before next h) in
      subst (λ (j : ℕ). AreColumnsChecked view told number rows j before after more) e
      (vals rows (flat_map values_in (values here)) before (seconds_next view rows c d second s k v o here groups below is there behind next b)
      (subst (λ (j : ℕ). AreColumnsChecked view told number rows j before half halves) (sym behind) first))

  pub struct_checked : (fs : Fields) (o : List ℕ) → s ≡ struct_of fs o → c < width view.schema → ChecksFields view told number d (d + widths fs) fs below mid some after more
      → Checks view told number c (c + width s) s groups found stats after more
  struct_checked fs o is lt inner rows here before next h =
      let w : width s ≡ width (struct_of fs o) = ap width is in
      let e : d + widths fs ≡ c + width s = omega (arith, w, there) in
      subst (λ (k : ℕ). AreColumnsChecked view told number rows k before after more) e
      (inner rows (map parts (values here)) before (fields_next view rows c d s fs o here groups below is there lt next (leads rows here next)) (here_checked rows here before next h))

pub scalar_checked : (view : Opened) (told : List Stat) (number : ℕ) (c : ℕ) (s : Shape) (k : Scalar) (o : List ℕ) (groups : CellGroups) (found mid : List Finding) (stats some : List Stat) → s ≡ scalar k o
    → Checks view told number c (c + 1) s groups found stats mid some → Checks view told number c (c + width s) s groups found stats mid some
scalar_checked view told number c s k o groups found mid stats some is own =
    let w : width s ≡ width (scalar k o) = ap width is in
    let e : c + 1 ≡ c + width s = omega (arith, w) in
    subst (λ (j : ℕ). Checks view told number c j s groups found stats mid some) e own

-- ---- the fields of structs, one after the other

first_next : (view : Opened) (rows : List Cell) (c : ℕ) (name : List ℕ) (t : Shape) (fs : Fields) (structs : List (List Cell)) (groups : CellGroups) → FieldsComeNext view rows c (field name t fs) structs groups
    → ComesNext view rows c t (flat_map (take 1) structs) groups
first_next view rows c name t fs structs groups h = record {
  spelled = h.spelled;
  counted = heads_long name t fs structs h.fit ∙ h.counted;
  columns = first_from view.schema rows c name t fs structs h.columns;
  bounded = λ need.
      groups_first view.schema rows (starts_of_groups view.stride (length rows)) c name t fs structs groups.bounds.items h.fit
      (h.bounded (need_within view c c (c + width t) (c + widths (field name t fs)) (omega arith) (omega arith) need));
}

others_next : (view : Opened) (rows : List Cell) (c : ℕ) (name : List ℕ) (t : Shape) (fs : Fields) (structs : List (List Cell)) (groups : CellGroups) → FieldsComeNext view rows c (field name t fs) structs groups
    → FieldsComeNext view rows (c + width t) fs (map (drop 1) structs) groups
others_next view rows c name t fs structs groups h = record {
  spelled = h.spelled;
  counted = length-map structs (drop 1) ∙ h.counted;
  fit = tails_fit name t fs structs h.fit;
  columns = others_from view.schema rows c name t fs structs h.columns;
  bounded = λ need.
      groups_others view.schema rows (starts_of_groups view.stride (length rows)) c name t fs structs groups.bounds.items
      (h.bounded (need_within view c (c + width t) (c + width t + widths fs) (c + widths (field name t fs)) (omega arith) (omega arith) need));
}

-- so many fields are checked, and the others come next
pub record FieldsChecked (view : Opened) (told : List Stat) (number : ℕ) (fs : List Field) (first next : ℕ) (groups : CellGroups) (place : ℕ) (found : List Finding) (stats : List Stat) (mid : List Finding) (some : List Stat) : Type 0 where
  pub coming : (rows : List Cell) (structs : List (List Cell)) → FieldsComeNext view rows first (fields_view fs) structs groups
      → FieldsComeNext view rows next (fields_view (drop place fs)) (map (drop place) structs) groups
  pub checked : ChecksFields view told number first next (fields_view fs) groups found stats mid some

pub no_field_checked : (view : Opened) (told : List Stat) (number : ℕ) (fs : List Field) (first : ℕ) (groups : CellGroups) (found : List Finding) (stats : List Stat) → FieldsChecked view told number fs first first groups 0 found stats found stats
no_field_checked view told number fs first groups found stats = record {
  coming = λ rows structs h. subst (λ (xss : List (List Cell)). FieldsComeNext view rows first (fields_view fs) xss groups) (sym (nothing_dropped structs)) h;
  checked = λ rows structs before come h. h;
}

pub field_checked : (view : Opened) (told : List Stat) (number : ℕ) (fs : List Field) (f : Field) (first next next_after : ℕ) (groups : CellGroups) (place : ℕ) (found : List Finding) (stats : List Stat) (mid : List Finding) (some : List Stat)
    (after : List Finding) (more : List Stat) → place < length fs → f ≡ get_or fs place f → next_after ≡ next + width (shape f.tree) → FieldsChecked view told number fs first next groups place found stats mid some
    → Checks view told number next (next + width (shape f.tree)) (shape f.tree) groups mid some after more → FieldsChecked view told number fs first next_after groups (place + 1) found stats after more
field_checked view told number fs f first next next_after groups place found stats mid some after more lt is there h own =
    let name = string_bytes f.name in
    let t = shape f.tree in
    let others = fields_view (drop (place + 1) fs) in
    let e : fields_view (drop place fs) ≡ field name t others = fields_at fs place f lt is in
    let come : (rows : List Cell) (structs : List (List Cell)) → FieldsComeNext view rows first (fields_view fs) structs groups → FieldsComeNext view rows next (field name t others) (map (drop place) structs) groups = λ rows structs k.
    subst (λ (x : Fields). FieldsComeNext view rows next x (map (drop place) structs) groups) e (h.coming rows structs k) in
    record {
      coming = λ rows structs k.
          subst (λ (j : ℕ). FieldsComeNext view rows j others (map (drop (place + 1)) structs) groups) (sym there)
          (subst (λ (xss : List (List Cell)). FieldsComeNext view rows (next + width t) others xss groups) (dropped_more place structs) (others_next view rows next name t others (map (drop place) structs) groups (come rows structs k)));
      checked = λ rows structs before k so_far.
          subst (λ (j : ℕ). AreColumnsChecked view told number rows j before after more) (sym there)
          (own rows (flat_map (take 1) (map (drop place) structs)) before (first_next view rows next name t others (map (drop place) structs) groups (come rows structs k)) (h.checked rows structs before k so_far));
    }

pub fields_checked : (view : Opened) (told : List Stat) (number : ℕ) (fs : List Field) (columns : ℕ → Streams) (first next : ℕ) (groups : CellGroups) (place : ℕ) (found : List Finding) (stats : List Stat) (mid : List Finding) (some : List Stat)
    → length fs ≤ place → FieldsRead fs columns first next groups.count place → FieldsChecked view told number fs first next groups place found stats mid some
    → ChecksFields view told number first (first + widths (fields_view fs)) (fields_view fs) groups found stats mid some
fields_checked view told number fs columns first next groups place found stats mid some all own h =
    let w : widths (fields_view (drop place fs)) ≡ 0 = ap widths (none_after fs place all) in
    let e : next ≡ first + widths (fields_view fs) = omega (arith, w, own.left) in
    subst (λ (j : ℕ). ChecksFields view told number first j (fields_view fs) groups found stats mid some) e h.checked

-- ---- a column that is read

pub columns_there : (stripe : OpenStripe) (footer : StripeFooter) (c : ℕ) → HasStripeParts stripe → footer ≡ stripe.view.now.footer → c < width stripe.view.now.schema → c < length footer.columns
columns_there stripe footer c out same lt = let e = ap (λ (f : StripeFooter). length f.columns) same in omega (arith, e, out.columns, lt)

pub located_there : (stripe : OpenStripe) (footer : StripeFooter) → HasStripeParts stripe → footer ≡ stripe.view.now.footer → AreLocated (length footer.columns) footer.streams stripe.located.bytes.now stripe.located.slices.items
located_there stripe footer out same = subst (λ (f : StripeFooter). AreLocated (length f.columns) f.streams stripe.located.bytes.now stripe.located.slices.items) (sym same) out.located

-- its own cells, as the stripe's bytes and footer have them
pub read_there : (stripe : OpenStripe) (footer : StripeFooter) (c : ℕ) (t : Shape) (count : ℕ) (bounds : List ℕ) (f : ColumnFound) → HasStripeParts stripe → footer ≡ stripe.view.now.footer
    → (own : List Cell) × IsOwnColumn t (columns_of footer stripe.located.bytes.now c) count own × IsColumnFound t own bounds f
    → (own : List Cell) × IsOwnColumn t (columns_of stripe.view.now.footer stripe.view.now.bytes c) count own × IsColumnFound t own bounds f
read_there stripe footer c t count bounds f out same h = (
  h.0,
  subst (λ (b : List ℕ). IsOwnColumn t (columns_of stripe.view.now.footer b c) count h.0) out.same (subst (λ (g : StripeFooter). IsOwnColumn t (columns_of g stripe.located.bytes.now c) count h.0) same h.1),
  h.2,
)

pub refused_there : (stripe : OpenStripe) (footer : StripeFooter) (c : ℕ) (t : Shape) (count : ℕ) (f : StripeFault) → HasStripeParts stripe → footer ≡ stripe.view.now.footer
    → (all : Bool) × SpellsNoCells t (columns_of footer stripe.located.bytes.now c) c all count f → (all : Bool) × SpellsNoCells t (columns_of stripe.view.now.footer stripe.view.now.bytes c) c all count f
refused_there stripe footer c t count f out same h = (
  h.0,
  subst (λ (b : List ℕ). SpellsNoCells t (columns_of stripe.view.now.footer b c) c h.0 count f) out.same (subst (λ (g : StripeFooter). SpellsNoCells t (columns_of g stripe.located.bytes.now c) c h.0 count f) same h.1),
)

pub below_of : (view : Opened) (c : ℕ) (t : Shape) (column : List Cell) (groups below : CellGroups) (bounds : List ℕ) (f : ColumnFound) → (NeedGroups view c (c + width t) → bounds ≡ groups.bounds.items) → IsColumnFound t column bounds f
    → below.count ≡ f.below → below.bounds.items ≡ f.bounds_below.items → AreChildGroups view c t column groups below
below_of view c t column groups below bounds f same h many are = (many ∙ h.below_is, λ need. are ∙ h.bounds_are ∙ ap (bounds_below t column) (same need))

pub column_more : (view : Opened) (told : List Stat) (number : ℕ) (rows : List Cell) (c : ℕ) (t : Shape) (here : List Cell) (groups : CellGroups) (own : List Cell) (bounds : List ℕ) (f : ColumnFound) (before old mid : List Finding) (stats more : List Stat) → AreGrouped groups
    → c < width view.schema → (NeedGroups view c (c + width t) → bounds ≡ groups.bounds.items) → IsOwnColumn t (columns_of view.footer view.bytes c) groups.count own → IsColumnFound t own bounds f
    → ((rs : List Cell) → IsFoundInRows view rs c t f → AddsFindings (OfColumn view told number rs c) old mid) → more ≡ stats ++ known_as (told_body (slice_get told c)) f.stat ∷ [] → ComesNext view rows c t here groups
    → AreColumnsChecked view told number rows c before old stats → AreColumnsChecked view told number rows (c + 1) before mid more
column_more view told number rows c t here groups own bounds f before old mid stats more grouped lt same is found adds put next h =
    let in_rows : IsFoundInRows view rows c t f = found_in_rows view rows c t here groups next bounds f grouped same (found_here view rows c t here groups next own bounds f lt is found) in
    let right = in_rows.stat_is ∙ ap (λ (u : Shape). stat (kind_of u) (cells view.schema c rows)) (sym in_rows.type) in
    subst (λ (xs : List Stat). AreColumnsChecked view told number rows (c + 1) before mid xs) (sym put) (column_checked view told number rows c before old mid stats f.stat h (adds rows in_rows) right)

-- ---- all columns

-- the root's groups are those of the rows, where some column's are needed
abbrev pub AreOfRows : Opened → CellGroups → Type 0
AreOfRows view groups = NeedGroups view 0 (width view.schema) → groups.bounds.items ≡ starts_of_groups view.stride groups.count

pub all_come_next : (view : Opened) (rows : List Cell) (t : Shape) (groups : CellGroups) → SpellsRows view rows → t ≡ view.schema → groups.count ≡ view.info.number_of_rows → AreOfRows view groups → ComesNext view rows 0 t rows groups
all_come_next view rows t groups spelled is many are =
    let long : length rows ≡ groups.count = spelled.counted ∙ sym many in
    let all = starts_of_groups view.stride (length rows) in
    record {
      spelled = spelled;
      counted = long;
      columns = subst (λ (u : Shape). AreColumnsFrom view.schema rows 0 u rows) (sym is) (all_columns_from view.schema rows);
      bounded = λ need.
          let w : width t ≡ width view.schema = ap width is in
          let whole : NeedGroups view 0 (width view.schema) = need_within view 0 0 (0 + width t) (width view.schema) (omega arith) (omega (arith, w)) need in
          let same : all ≡ groups.bounds.items = ap (starts_of_groups view.stride) long ∙ sym (are whole) in
          subst (λ (bs : List ℕ). AreGroupsFrom view.schema rows all 0 t rows bs) same (subst (λ (u : Shape). AreGroupsFrom view.schema rows all 0 u rows all) (sym is) (groups_at_root view.schema rows all));
    }

pub all_many : (view : Opened) (n : ℕ) → n ≡ view.info.number_of_rows → 2 ^ 31 - 1 < n → RowsFault view.schema (columns_of view.footer view.bytes) view.info.number_of_rows (TooMany 0)
all_many view n many lt = subst (λ (m : ℕ). RowsFault view.schema (columns_of view.footer view.bytes) m (TooMany 0)) many (too_many_rows view.schema (columns_of view.footer view.bytes) n lt)

-- what is found of all columns, wherever they begin
pub all_found : (view : Opened) (told : List Stat) (number : ℕ) (t : Shape) (groups : CellGroups) (before after : List Finding) (none stats : List Stat) → HasFooter view.schema view.info view.bytes view.footer → t ≡ view.schema
    → groups.count ≡ view.info.number_of_rows → AreOfRows view groups → none ≡ [] → OwnDown t (columns_of view.footer view.bytes) 0 groups.count
    → Checks view told number 0 (0 + width t) t groups before none after stats
    → (rows : List Cell) × IsStripe view.schema view.info view.bytes rows × AddsFindings (OfEach (OfColumn view told number rows) (width view.schema)) before after × HaveKnown view.schema told rows (width view.schema) stats
all_found view told number t groups before after none stats has is many are empty down checks =
    let x = columns_of view.footer view.bytes in
    let found = down_rows t x groups.count down in
    let spelled : SpellsRows view found.0 = subst (λ (n : ℕ). SpellRows view.schema x n found.0) many (subst (λ (u : Shape). SpellRows u x groups.count found.0) is found.1) in
    let start = subst (λ (xs : List Stat). AreColumnsChecked view told number found.0 0 before before xs) (sym empty) (none_checked view told number found.0 before) in
    let h = checks found.0 found.0 before (all_come_next view found.0 t groups spelled is many are) start in
    let whole : 0 + width t ≡ width t = omega arith in
    let e : 0 + width t ≡ width view.schema = whole ∙ ap width is in
    let all = subst (λ (n : ℕ). AreColumnsChecked view told number found.0 n before after stats) e h in
    (found.0, record { footer = view.footer; has_footer = has; spelled = spelled }, all.found, all.known)

pub all_refused : (view : Opened) (t : Shape) (n : ℕ) (f : StripeFault) → t ≡ view.schema → n ≡ view.info.number_of_rows → (all : Bool) × RefusedDown t (columns_of view.footer view.bytes) 0 all n f
    → RowsFault view.schema (columns_of view.footer view.bytes) view.info.number_of_rows f
all_refused view t n f is many h =
    let x = columns_of view.footer view.bytes in
    subst (λ (m : ℕ). RowsFault view.schema x m f) many (subst (λ (u : Shape). RowsFault u x n f) is (refused_rows t x h.0 n f h.1))

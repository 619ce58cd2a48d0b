-- A column of structs, whose marks say all that is counted.
use Rattle.std.proofs.Common.{◌≡◌, ◌<◌, ◌≤◌, ℕ, zero, suc, ◌+◌, ◌-◌, min, true, false, Bool, nat_lt, not, ltb, Some, List, [], ◌∷◌, ◌++◌, length, map, take, drop, replicate, refl, sym, ap, ◌∙◌, subst, arith, inl, inr, length-append, length-drop}
use Rattle.std.specs.Prelude.{slice_get}
use Rattle.std.proofs.lemmas.Bool.{cases_lt, lt-ltb, le-ltb}
use Rattle.std.proofs.lemmas.List.{length-take, length-replicate, take-append-drop, take_all}
use Rattle.std.proofs.lemmas.List.Sums.{sum_by-append, sum_by-cons}
use Rattle.orc_values.specs.Cells.{Cell, null, leaf, list, struct, pairs, is_value, values}
use Rattle.orc_values.specs.Childless.{childless_struct}
use Rattle.orc_values.specs.Shapes.{Shape, Fields, struct_of}
use Rattle.orc_values.proofs.Together.{values-append}
use Rattle.orc_row_groups.specs.Bounds.{AreBounds, bound_at, before_group, group_of, values_before}
use Rattle.orc_row_groups.specs.Counts.{octets_in, octets, AreCounted, most}
use Rattle.orc_row_groups.specs.declared.counts.Counts.{Counts}
use Rattle.orc_row_groups.proofs.Counted.{octets_of_values}
use Rattle.orc_row_groups.proofs.Groups.{bound_within, bound_up, cells_between, group_between}
use Rattle.orc_stats.specs.declared.kind.StatKind.TheVariants as kind
use Rattle.orc_stats.specs.declared.stat.Stat.{Stat}
use Rattle.orc_stats.specs.declared.stat.Body.TheVariants as body
use Rattle.orc_stats.specs.Kinds.{kind_of}
use Rattle.orc_stats.specs.Statistics.{stat, has_null}
use Rattle.orc_column_walk.specs.ColumnFound.{IsGroupFound, IsColumnFound}
use Rattle.orc_column_reader.specs.declared.column.ValueSource.{ValueSource}
use Rattle.orc_column_walk.specs.OwnLeft.{OwnValuesLeft}
use Rattle.orc_column_walk.specs.Passed.{HavePassedValues, AreValueBounds, AreGroupsFound}
use Rattle.orc_column_walk.specs.declared.found.ColumnFound.{ColumnFound}
use Rattle.orc_column_walk.specs.declared.found.GroupFound.{GroupFound}
use Rattle.orc_column_walk.proofs.GroupLemmas.{values_at, pushed_get}
use Rattle.orc_values.proofs.Lists.{values_few}
use Rattle.orc_row_groups.proofs.BoundLemmas.{bound_past}

both_more : (a b : ℕ) → nat_lt a b ≡ nat_lt (suc a) (suc b)
both_more a b =
    elim (cases_lt a b) [
      | inl less ↦ lt-ltb a b less ∙ sym (lt-ltb (suc a) (suc b) (omega (arith, less)))
      | inr ge ↦ le-ltb a b ge ∙ sym (le-ltb (suc a) (suc b) (omega (arith, ge)))
    ]

null_where_fewer : (cells : List Cell) → has_null cells ≡ nat_lt (length (values cells)) (length cells)
null_where_fewer [] = refl
null_where_fewer (null ∷ cells) = sym (lt-ltb (length (values cells)) (suc (length cells)) (omega (arith, values_few cells)))
null_where_fewer (leaf a ∷ cells) = null_where_fewer cells ∙ both_more (length (values cells)) (length cells)
null_where_fewer (list x ∷ cells) = null_where_fewer cells ∙ both_more (length (values cells)) (length cells)
null_where_fewer (struct x ∷ cells) = null_where_fewer cells ∙ both_more (length (values cells)) (length cells)
null_where_fewer (pairs x ∷ cells) = null_where_fewer cells ∙ both_more (length (values cells)) (length cells)

-- the statistic of structs, by how many there are, and how many cells
pub struct_stat_is : (found : Stat) (cells : List Cell) (count many : ℕ) → length cells ≡ count → length (values cells) ≡ many → found.count ≡ many → found.nulls ≡ Some (nat_lt many count) → found.body ≡ body.Plain → found ≡ stat kind.Plain cells
struct_stat_is found cells count many long as_many c n b =
    let counted : found.count ≡ length (values cells) = c ∙ sym as_many in
    let nulls : found.nulls ≡ Some (has_null cells) = n ∙ ap Some ((λ i. nat_lt (sym as_many i) (sym long i)) ∙ sym (null_where_fewer cells)) in
    λ i. record { count = counted i; nulls = nulls i; body = b i }

-- structs have no texts
no_octets : (n : ℕ) → octets (replicate n childless_struct) ≡ 0
no_octets zero = refl
no_octets (suc n) = sum_by-cons octets_in childless_struct (replicate n childless_struct) ∙ omega (arith, no_octets n)

none_before : (cells : List Cell) (n b : ℕ) → values cells ≡ replicate n childless_struct → octets (take b cells) ≡ 0
none_before cells n b is =
    let whole = sum_by-append octets_in (take b cells) (drop b cells) in
    let all = ap octets (take-append-drop b cells) in
    omega (arith, whole, all, octets_of_values cells, ap octets is, no_octets n)

group_values : (count : ℕ) (bounds : List ℕ) (values_count : ℕ) (value_bounds : List ℕ) (group : ℕ) (cells : List Cell) → length value_bounds ≡ length bounds → HavePassedValues count bounds value_bounds (replicate values_count childless_struct) cells
    → length (values (take (bound_at count bounds group) cells)) ≡ bound_at values_count value_bounds group
group_values count bounds values_count value_bounds group cells as_many h =
    elim (cases_lt group (length bounds)) [
      | inl less ↦ values_at count bounds values_count value_bounds cells group as_many less h.before
      | inr past ↦
          let end = bound_past count bounds group past in
          let last = bound_past values_count value_bounds group (omega (arith, past, as_many)) in
          ap (λ (k : ℕ). length (values (take k cells))) end ∙ ap (λ cs. length (values cs)) (take_all count cells (omega (arith, h.counted)))
          ∙ ap length h.values_are ∙ length-replicate values_count childless_struct ∙ sym last
    ]

-- one group more is found
pub struct_group : (s : Shape) (count : ℕ) (bounds : List ℕ) (values_count : ℕ) (value_bounds : List ℕ) (group : ℕ) (groups more : List GroupFound) (found : GroupFound) (start first n many : ℕ) (cells : List Cell)
    → (stat kind.Plain ≡ stat (kind_of s))
    → AreBounds count bounds → AreValueBounds count bounds values_count value_bounds → HavePassedValues count bounds value_bounds (replicate values_count childless_struct) cells
    → start ≡ bound_at count bounds group → first ≡ bound_at values_count value_bounds group
    → n ≡ bound_at count bounds (group + 1) - start → many ≡ bound_at values_count value_bounds (group + 1) - first
    → found.stat.count ≡ many → found.stat.nulls ≡ Some (nat_lt many n) → found.stat.body ≡ body.Plain
    → found.before.cells ≡ start → found.before.values ≡ first → found.before.octets ≡ 0
    → more ≡ groups ++ found ∷ [] → AreGroupsFound s cells bounds group groups → AreGroupsFound s cells bounds (group + 1) more
struct_group s count bounds values_count value_bounds group groups more found start first n many cells kind_is are of h start_is first_is n_is many_is stat_count stat_nulls stat_body before_cells before_values before_octets pushed old =
    let b = bound_at count bounds group in
    let e = bound_at count bounds (group + 1) in
    let up : b ≤ e = bound_up count bounds group are in
    let within : e ≤ count = bound_within count bounds (group + 1) are in
    let part = take (e - b) (drop b cells) in
    let both = cells_between cells b e up in
    let part_long : length part ≡ n = length-take (e - b) (drop b cells) ∙ omega (arith, length-drop b cells, h.counted, within, up, n_is, start_is) in
    let front_values = group_values count bounds values_count value_bounds group cells of.as_many h in
    let end_values = group_values count bounds values_count value_bounds (group + 1) cells of.as_many h in
    let sum = ap length (ap values both ∙ values-append (take b cells) part) ∙ length-append (values (take b cells)) (values part) in
    let part_many : length (values part) ≡ many = omega (arith, sum, front_values, end_values, many_is, first_is) in
    let bound_is : bound_at (length cells) bounds group ≡ b = ap (λ (k : ℕ). bound_at k bounds group) h.counted in
    let end_is : bound_at (length cells) bounds (group + 1) ≡ e = ap (λ (k : ℕ). bound_at k bounds (group + 1)) h.counted in
    let is_group : part ≡ group_of cells bounds group = group_between cells bounds group b e (subst (λ (k : ℕ). AreBounds k bounds) (sym h.counted) are) (sym bound_is) (sym end_is) in
    let mine : IsGroupFound s cells bounds group found = record {
      stat_is = struct_stat_is found.stat part n many part_long part_many stat_count stat_nulls stat_body ∙ ap (λ f. f part) kind_is ∙ ap (stat (kind_of s)) is_group;
      before = subst (λ (k : ℕ). AreCounted found.before (take k cells)) (sym bound_is) (record {
        cells_are = before_cells ∙ start_is ∙ sym (length-take b cells ∙ omega (arith, h.counted, within, up));
        values_are = before_values ∙ first_is ∙ sym front_values;
        octets_are = before_octets ∙ ap (λ k. min most k) (sym (none_before cells values_count b h.values_are));
      });
    } in
    record {
      counted = ap length pushed ∙ length-append groups (found ∷ []) ∙ omega (arith, old.counted);
      each = λ g group' got.
          elim (pushed_get groups found g group' (ap (λ gs. slice_get gs g) (sym pushed) ∙ got)) [
            | inl same ↦ old.each g group' same
            | inr last ↦ subst (λ (k : ℕ). IsGroupFound s cells bounds k group') (sym (last.0 ∙ old.counted)) (subst (λ f. IsGroupFound s cells bounds group f) last.1 mine)
          ];
    }

-- all groups of a column of structs
pub structs_found : (fields : Fields) (order : List ℕ) (count : ℕ) (bounds : List ℕ) (values_count : ℕ) (value_bounds : List ℕ) (found : ColumnFound) (cells : List Cell)
    → HavePassedValues count bounds value_bounds (replicate values_count childless_struct) cells
    → found.stat.count ≡ values_count → found.stat.nulls ≡ Some (nat_lt values_count count) → found.stat.body ≡ body.Plain
    → found.below ≡ values_count → found.bounds_below.items ≡ value_bounds
    → AreGroupsFound (struct_of fields order) cells bounds (length bounds) found.groups.items → IsColumnFound (struct_of fields order) cells bounds found
structs_found fields order count bounds values_count value_bounds found cells h stat_count stat_nulls stat_body below_is bounds_are groups =
    let many : length (values cells) ≡ values_count = ap length h.values_are ∙ length-replicate values_count childless_struct in
    record {
      stat_is = struct_stat_is found.stat cells count values_count h.counted many stat_count stat_nulls stat_body;
      counted = groups.counted;
      groups_are = groups.each;
      below_is = below_is ∙ sym many;
      bounds_are = bounds_are ∙ sym h.before;
    }

-- the same of a reader that has no values to read
pub struct_column : (s : Shape) (fields : Fields) (order : List ℕ) (source : ValueSource) (count : ℕ) (bounds : List ℕ) (values_count : ℕ) (value_bounds : List ℕ) (found : ColumnFound) → s ≡ struct_of fields order
    → ((cells : List Cell) (fs : Fields) (o : List ℕ) → HavePassedValues count bounds value_bounds (replicate values_count childless_struct) cells → IsColumnFound (struct_of fs o) cells bounds found)
    → (read : List Cell) × (length read ≡ values_count) × OwnValuesLeft s source read × ((cells : List Cell) → HavePassedValues count bounds value_bounds read cells → IsColumnFound s cells bounds found)
struct_column s fields order source count bounds values_count value_bounds found is h =
    let long = length-replicate values_count childless_struct in
    subst (λ z. (read : List Cell) × (length read ≡ values_count) × OwnValuesLeft z source read × ((cells : List Cell) → HavePassedValues count bounds value_bounds read cells → IsColumnFound z cells bounds found)) (sym is)
    (replicate values_count childless_struct, long, ap (λ (n : ℕ). replicate n childless_struct) (sym long), λ cells k. h cells fields order k)

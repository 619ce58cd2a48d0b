-- The groups of a column's cells, one after the other, while they are read.
use Rattle.std.proofs.Common.{◌≡◌, ◌<◌, ◌≤◌, ◌^◌, ℕ, zero, suc, ◌+◌, ◌-◌, min, false, Some, List, [], ◌∷◌, ◌++◌, length, map, take, drop, get_or, refl, sym, ap, ◌∙◌, subst, arith, inl, inr, ◌⊎◌, length-append, length-drop, append-nil}
use Rattle.std.specs.Prelude.{slice_get}
use Rattle.std.proofs.Math.ListN.{get_or-map}
use Rattle.std.proofs.lemmas.Grind.{get_or_default_zero}
use Rattle.std.proofs.lemmas.List.{take_all, drop_all, length-take, take-append-drop}
use Rattle.std.specs.List.{flat_map}
use Rattle.orc_values.specs.Cells.{Cell, parts, pairs_in, values}
use Rattle.orc_values.specs.Shapes.{Shape, scalar, list_of, map_of, struct_of}
use Rattle.orc_values.proofs.Together.{values-append}
use Rattle.orc_column_reader.specs.Fronts.{Leaves, Lacks}
use Rattle.orc_column_reader.specs.ReaderFaults.{ValuesMeet}
use Rattle.orc_column_reader.specs.declared.column.ValueSource.{ValueSource}
use Rattle.orc_directory.specs.declared.fault.StripeFault.{StripeFault}
use Rattle.orc_column_reader.proofs.Fronts.{one_after_other, lacks_after, lacks_more}
use Rattle.orc_row_groups.specs.Bounds.{AreBounds, bound_at, before_group, group_of, values_before}
use Rattle.orc_row_groups.specs.Counts.{AreCounted, most}
use Rattle.orc_row_groups.proofs.Groups.{bound_within, bound_up, cells_between, group_between, found_more}
use Rattle.orc_stats.specs.Kinds.{kind_of}
use Rattle.orc_stats.specs.Statistics.{stat}
use Rattle.orc_stats.specs.Tallies.{Measure, Kept, together, cells_kept, none_kept, stat_of_kept}
use Rattle.orc_stats.specs.laws.TallyLaws.{together_none, cells_kept-append}
use Rattle.orc_column_walk.specs.ColumnFound.{bounds_below, IsGroupFound, IsColumnFound}
use Rattle.orc_column_walk.specs.OwnLeft.{OwnValuesLeft, children}
use Rattle.orc_column_walk.specs.Passed.{IsPassed, HavePassedValues, AreValueBounds, AreGroupsFound, AreGroupsCounted, children_before}
use Rattle.orc_column_walk.specs.declared.found.ColumnFound.{ColumnFound}
use Rattle.orc_column_walk.specs.declared.found.GroupFound.{GroupFound}
use Rattle.orc_column_walk.specs.declared.passed.Passed.{Passed}
use Rattle.orc_column_walk.proofs.PassedLemmas.{ValuesMet, children_append}
use Rattle.orc_column_walk.proofs.RowsOf.{elements_sum, pairs_sum}
use Rattle.orc_column_walk.proofs.ReadLemmas.{AreRead, none_read}
use Rattle.orc_values.proofs.Lists.{values_few}
use Rattle.orc_row_groups.proofs.BoundLemmas.{bound_past}
use Rattle.orc_row_groups.specs.declared.counts.Counts.{Counts}

-- ---- lists

pub fronts_same : {X : Type 0} (a b c d : List X) → length a ≡ length c → a ++ b ≡ c ++ d → (a ≡ c) × (b ≡ d)
fronts_same [] b [] d l e = (refl, e)
fronts_same [] b (x ∷ c) d l e = absurd (omega (arith, l))
fronts_same (x ∷ a) b [] d l e = absurd (omega (arith, l))
fronts_same (x ∷ a) b (y ∷ c) d l e =
    let first : x ≡ y = cc in
    let others : a ++ b ≡ c ++ d = cc in
    let r = fronts_same a b c d (omega (arith, l)) others in
    ((λ i. first i ∷ r.0 i), r.1)

pub pushed_get : {X : Type 0} (xs : List X) (y : X) (i : ℕ) (r : X) → slice_get (xs ++ y ∷ []) i ≡ Some r → (slice_get xs i ≡ Some r) ⊎ ((i ≡ length xs) × (y ≡ r))
pushed_get [] y zero r e = let h : y ≡ r = cc in inr (refl, h)
pushed_get [] y (suc i) r e = cc
pushed_get (x ∷ xs) y zero r e = inl e
pushed_get (x ∷ xs) y (suc i) r e =
    elim (pushed_get xs y i r e) [
      | inl h ↦ inl h
      | inr h ↦ inr (ap suc h.0, h.1)
    ]

-- ---- one group more

-- these are cells with those bounds, whose first values are these
pub record BeginsWith (count : ℕ) (bounds value_bounds : List ℕ) (at : ℕ) (read cells : List Cell) : Type 0 where
  pub counted : length cells ≡ count
  pub before : map (values_before cells) bounds ≡ value_bounds
  pub values_are : values (take at cells) ≡ read

-- so much was found of the first groups of such cells
pub record IsFoundOf {P : Type 0} (m : Measure P) (s : Shape) (bounds : List ℕ) (group at : ℕ) (whole : Kept P) (passed : Passed)
    (groups : List GroupFound) (below : List ℕ) (cells : List Cell) : Type 0 where
  pub whole_is : whole ≡ cells_kept m (take at cells)
  pub passed_is : IsPassed s (take at cells) passed
  pub groups_are : AreGroupsFound s cells bounds group groups
  pub bounds_are : below ++ map (children_before s cells) (drop group bounds) ≡ map (children_before s cells) bounds

pub record GroupsRead {P : Type 0} (m : Measure P) (s : Shape) (before after : ValueSource) (count : ℕ) (bounds : List ℕ) (values_count : ℕ) (value_bounds : List ℕ)
    (group : ℕ) (whole : Kept P) (passed : Passed) (groups : List GroupFound) (below : List ℕ) : Type 0 where
  pub cells : List Cell
  pub read : AreRead (OwnValuesLeft s before) (OwnValuesLeft s after) (ValuesMet s before) (ValuesMet s after) (bound_at values_count value_bounds group) cells
  pub cells_are : passed.counts.cells ≡ bound_at count bounds group
  pub values_are : passed.counts.values ≤ bound_at values_count value_bounds group
  pub whole_counted : whole.count ≡ bound_at values_count value_bounds group
  pub found : (all : List Cell) → BeginsWith count bounds value_bounds (bound_at count bounds group) cells all
      → IsFoundOf m s bounds group (bound_at count bounds group) whole passed groups below all

pub no_groups_read : {P : Type 0} (m : Measure P) (s : Shape) (source : ValueSource) (count : ℕ) (bounds : List ℕ) (values_count : ℕ) (value_bounds : List ℕ) (whole : Kept P) (passed : Passed)
    → bound_at count bounds 0 ≡ 0 → AreValueBounds count bounds values_count value_bounds
    → whole ≡ none_kept m → ((t : Shape) → IsPassed t [] passed) → GroupsRead m s source source count bounds values_count value_bounds 0 whole passed [] []
no_groups_read m s source count bounds values_count value_bounds whole passed first of is nothing =
    let start = sym first in
    let none = none_read (OwnValuesLeft s source) (ValuesMet s source) in
    record {
      cells = [];
      read = subst (λ (k : ℕ). AreRead (OwnValuesLeft s source) (OwnValuesLeft s source) (ValuesMet s source) (ValuesMet s source) k []) (sym of.first) none;
      cells_are = omega (arith, first, (nothing s).counted.cells_are);
      values_are = omega (arith, (nothing s).counted.values_are);
      whole_counted = omega (arith, ap (λ k. k.count) is, of.first);
      found = λ all h. record {
        whole_is = is ∙ ap (λ (k : ℕ). cells_kept m (take k all)) start;
        passed_is = subst (λ (k : ℕ). IsPassed s (take k all) passed) start (nothing s);
        groups_are = record { counted = refl; each = λ g group e. cc };
        bounds_are = refl;
      };
    }

-- how many values come before a group, by its bound
pub values_at : (count : ℕ) (bounds : List ℕ) (values_count : ℕ) (value_bounds : List ℕ) (cells : List Cell) (group : ℕ) → length value_bounds ≡ length bounds → group < length bounds
    → map (values_before cells) bounds ≡ value_bounds → length (values (take (bound_at count bounds group) cells)) ≡ bound_at values_count value_bounds group
values_at count bounds values_count value_bounds cells group as_many lt is =
    sym (get_or-map (values_before cells) bounds group count)
    ∙ ap (λ (bs : List ℕ). get_or bs group (values_before cells count)) is
    ∙ get_or_default_zero value_bounds group (values_before cells count) (omega (arith, as_many, lt))
    ∙ sym (get_or_default_zero value_bounds group values_count (omega (arith, as_many, lt)))

-- a group is found behind those before
found_next : {P : Type 0} (m : Measure P) (s : Shape) (count : ℕ) (bounds : List ℕ) (values_count : ℕ) (value_bounds : List ℕ) (group : ℕ)
    (whole next tally : Kept P) (passed after : Passed) (groups more : List GroupFound) (below further : List ℕ) (found : GroupFound) (read part_values all : List Cell)
    → group < length bounds → AreBounds count bounds → AreValueBounds count bounds values_count value_bounds → length read ≡ bound_at values_count value_bounds group
    → ((cs : List Cell) → BeginsWith count bounds value_bounds (bound_at count bounds group) read cs → IsFoundOf m s bounds group (bound_at count bounds group) whole passed groups below cs)
    → ((part : List Cell) → values part ≡ part_values → length part ≡ bound_at count bounds (group + 1) - bound_at count bounds group
    → (tally ≡ together m (none_kept m) (cells_kept m part)) × ((front : List Cell) → IsPassed s front passed → IsPassed s (front ++ part) after))
    → ((cs : List Cell) → length cs ≤ 2 ^ 62 → stat_of_kept m (cells_kept m cs) ≡ stat (kind_of s) cs) → count ≤ 2 ^ 62
    → found.stat ≡ stat_of_kept m tally → found.before ≡ passed.counts → more ≡ groups ++ found ∷ [] → further ≡ below ++ passed.children ∷ [] → next ≡ together m whole tally
    → BeginsWith count bounds value_bounds (bound_at count bounds (group + 1)) (read ++ part_values) all
    → IsFoundOf m s bounds (group + 1) (bound_at count bounds (group + 1)) next after more further all
found_next m s count bounds values_count value_bounds group whole next tally passed after groups more below further found read part_values all lt are of long before step are_stat few stat_is before_is pushed pushed_below joined h =
    let start = bound_at count bounds group in
    let end = bound_at count bounds (group + 1) in
    let end_is : bound_at count bounds (suc group) ≡ end = ap (λ (n : ℕ). bound_at count bounds n) (omega arith) in
    let up : start ≤ end = omega (arith, are group, end_is) in
    let within : end ≤ count = bound_within count bounds (group + 1) are in
    let front = take start all in
    let part = take (end - start) (drop start all) in
    let both : take end all ≡ front ++ part = cells_between all start end up in
    let values_both : values front ++ values part ≡ read ++ part_values = sym (values-append front part) ∙ ap values (sym both) ∙ h.values_are in
    let apart = fronts_same (values front) (values part) read part_values (values_at count bounds values_count value_bounds all group of.as_many lt h.before ∙ sym long) values_both in
    let part_long : length part ≡ end - start = length-take (end - start) (drop start all) ∙ omega (arith, length-drop start all, h.counted, within, up) in
    let old = before all (record { counted = h.counted; before = h.before; values_are = apart.0 }) in
    let now = step part apart.1 part_long in
    let kept : tally ≡ cells_kept m part = now.0 ∙ together_none m (cells_kept m part) in
    let bound_is : bound_at (length all) bounds group ≡ start = ap (λ (n : ℕ). bound_at n bounds group) h.counted in
    let end_all : bound_at (length all) bounds (group + 1) ≡ end = ap (λ (n : ℕ). bound_at n bounds (group + 1)) h.counted in
    let is_group : part ≡ group_of all bounds group = group_between all bounds group start end (subst (λ (n : ℕ). AreBounds n bounds) (sym h.counted) are) (sym bound_is) (sym end_all) in
    let mine : IsGroupFound s all bounds group found = record {
      stat_is = stat_is ∙ ap (stat_of_kept m) kept ∙ are_stat part (omega (arith, part_long, within, few)) ∙ ap (stat (kind_of s)) is_group;
      before = subst (λ k. AreCounted k (before_group all bounds group)) (sym before_is) (subst (λ (n : ℕ). AreCounted passed.counts (take n all)) (sym bound_is) old.passed_is.counted);
    } in
    record {
      whole_is = joined ∙ (λ i. together m (old.whole_is i) (kept i)) ∙ sym (cells_kept-append m front part) ∙ ap (cells_kept m) (sym both);
      passed_is = subst (λ cs. IsPassed s cs after) (sym both) (now.1 front old.passed_is);
      groups_are = record {
        counted = ap length pushed ∙ length-append groups (found ∷ []) ∙ omega (arith, old.groups_are.counted);
        each = λ g group' got.
            elim (pushed_get groups found g group' (ap (λ gs. slice_get gs g) (sym pushed) ∙ got)) [
              | inl e ↦ old.groups_are.each g group' e
              | inr e ↦ subst (λ (n : ℕ). IsGroupFound s all bounds n group') (sym (e.0 ∙ old.groups_are.counted)) (subst (λ f. IsGroupFound s all bounds group f) e.1 mine)
            ];
      };
      bounds_are = found_more (children_before s all) bounds group passed.children below further lt
          (old.passed_is.children_are ∙ ap (children_before s all) (get_or_default_zero bounds group count lt)) pushed_below old.bounds_are;
    }

pub group_read : {P : Type 0} (m : Measure P) (s : Shape) (before between after : ValueSource) (count : ℕ) (bounds : List ℕ) (values_count : ℕ) (value_bounds : List ℕ) (group cells part : ℕ)
    (whole next tally : Kept P) (passed now : Passed) (groups more : List GroupFound) (below further : List ℕ) (found : GroupFound) (part_values : List Cell)
    → GroupsRead m s before between count bounds values_count value_bounds group whole passed groups below
    → group < length bounds → AreBounds count bounds → AreValueBounds count bounds values_count value_bounds
    → cells ≡ bound_at count bounds (group + 1) - bound_at count bounds group
    → part ≡ bound_at values_count value_bounds (group + 1) - bound_at values_count value_bounds group
    → length part_values ≡ part
    → Leaves (OwnValuesLeft s between) (OwnValuesLeft s after) part_values
    → ((all : _) (n : ℕ) (f : StripeFault) → ValuesMeet s after all n f → ValuesMeet s between all (part + n) f)
    → ((cs : List Cell) → values cs ≡ part_values → length cs ≡ cells
    → (tally ≡ together m (none_kept m) (cells_kept m cs)) × ((front : List Cell) → IsPassed s front passed → IsPassed s (front ++ cs) now))
    → tally.count ≡ part → now.counts.cells ≡ passed.counts.cells + cells → now.counts.values ≤ passed.counts.values + part
    → ((cs : List Cell) → length cs ≤ 2 ^ 62 → stat_of_kept m (cells_kept m cs) ≡ stat (kind_of s) cs) → count ≤ 2 ^ 62
    → found.stat ≡ stat_of_kept m tally → found.before ≡ passed.counts → more ≡ groups ++ found ∷ [] → further ≡ below ++ passed.children ∷ [] → next ≡ together m whole tally
    → GroupsRead m s before after count bounds values_count value_bounds (group + 1) next now more further
group_read m s before between after count bounds values_count value_bounds group cells part whole next tally passed now groups more below further found part_values r lt are of cells_is part_is long leave fault step counted cells_are values_are are_stat few stat_is before_is pushed pushed_below joined =
    let up : bound_at count bounds group ≤ bound_at count bounds (group + 1) = let n : suc group ≡ group + 1 = omega arith in subst (λ (k : ℕ). bound_at count bounds group ≤ bound_at count bounds k) n (are group) in
    let value_up : bound_at values_count value_bounds group ≤ bound_at values_count value_bounds (group + 1) =
    let n : suc group ≡ group + 1 = omega arith in subst (λ (k : ℕ). bound_at values_count value_bounds group ≤ bound_at values_count value_bounds k) n (of.ascending group) in
    let sum : bound_at values_count value_bounds group + part ≡ bound_at values_count value_bounds (group + 1) = omega (arith, part_is, value_up) in
    record {
      cells = r.cells ++ part_values;
      read = record {
        counted = omega (arith, length-append r.cells part_values, r.read.counted, long, sum);
        leave = one_after_other (OwnValuesLeft s before) (OwnValuesLeft s between) (OwnValuesLeft s after) r.cells part_values r.read.leave leave;
        fault = λ all n f h.
            let e : bound_at values_count value_bounds group + (part + n) ≡ bound_at values_count value_bounds (group + 1) + n = omega (arith, sum) in
            subst (λ (k : ℕ). ValuesMeet s before all k f) e (r.read.fault all (part + n) f (fault all n f h));
      };
      cells_are = omega (arith, cells_are, r.cells_are, cells_is, up);
      values_are = omega (arith, values_are, r.values_are, sum);
      whole_counted = omega (arith, ap (λ k. k.count) joined, r.whole_counted, counted, sum);
      found = λ all h. found_next m s count bounds values_count value_bounds group whole next tally passed now groups more below further found r.cells part_values all lt are of r.read.counted r.found
          (λ cs e l. step cs e (l ∙ sym cells_is)) are_stat few stat_is before_is pushed pushed_below joined h;
    }

-- a group has no more values than cells, and all groups no more values than the cells so far
pub fewer_values : (count : ℕ) (bounds : List ℕ) (values_count : ℕ) (value_bounds : List ℕ) (group : ℕ) → AreBounds count bounds → AreValueBounds count bounds values_count value_bounds
    → (bound_at values_count value_bounds (group + 1) + bound_at count bounds group ≤ bound_at values_count value_bounds group + bound_at count bounds (group + 1))
    × (bound_at values_count value_bounds (group + 1) ≤ bound_at count bounds (group + 1))
fewer_values count bounds values_count value_bounds zero are of = (of.fewer 0, omega (arith, of.fewer 0, of.first))
fewer_values count bounds values_count value_bounds (suc group) are of =
    let r = fewer_values count bounds values_count value_bounds group are of in
    let n : suc (suc group) ≡ suc group + 1 = omega arith in
    let m : suc group ≡ group + 1 = omega arith in
    let f = of.fewer (suc group) in
    let here : bound_at values_count value_bounds (suc group) ≤ bound_at count bounds (suc group) = subst (λ (k : ℕ). bound_at values_count value_bounds k ≤ bound_at count bounds k) (sym m) r.1 in
    let next = subst (λ (k : ℕ). bound_at values_count value_bounds k + bound_at count bounds (suc group) ≤ bound_at values_count value_bounds (suc group) + bound_at count bounds k) n f in
    (next, omega (arith, next, here))

-- ---- all groups

pub lacks_group : {P : Type 0} (m : Measure P) (s : Shape) (before between : ValueSource) (count : ℕ) (bounds : List ℕ) (values_count : ℕ) (value_bounds : List ℕ) (group part : ℕ) (whole : Kept P) (passed : Passed) (groups : List GroupFound) (below : List ℕ)
    → GroupsRead m s before between count bounds values_count value_bounds group whole passed groups below → AreBounds values_count value_bounds
    → part ≡ bound_at values_count value_bounds (group + 1) - bound_at values_count value_bounds group → Lacks (OwnValuesLeft s between) part → Lacks (OwnValuesLeft s before) values_count
lacks_group m s before between count bounds values_count value_bounds group part whole passed groups below r are is none =
    lacks_more (OwnValuesLeft s before) (length r.cells + part) values_count
    (omega (arith, r.read.counted, is, bound_within values_count value_bounds (group + 1) are, bound_up values_count value_bounds group are))
    (lacks_after (OwnValuesLeft s before) (OwnValuesLeft s between) r.cells part r.read.leave none)

pub fault_group : {P : Type 0} (m : Measure P) (s : Shape) (before between : ValueSource) (count : ℕ) (bounds : List ℕ) (values_count : ℕ) (value_bounds : List ℕ) (group part : ℕ) (whole : Kept P) (passed : Passed) (groups : List GroupFound) (below : List ℕ) (f : StripeFault)
    → GroupsRead m s before between count bounds values_count value_bounds group whole passed groups below → AreBounds values_count value_bounds
    → part ≡ bound_at values_count value_bounds (group + 1) - bound_at values_count value_bounds group → ((n : ℕ) → ValuesMeet s between false (part + n) f) → ValuesMeet s before false values_count f
fault_group m s before between count bounds values_count value_bounds group part whole passed groups below f r are is next =
    let more : ℕ = values_count - bound_at values_count value_bounds (group + 1) in
    let e : bound_at values_count value_bounds group + (part + more) ≡ values_count = omega (arith, is, bound_within values_count value_bounds (group + 1) are, bound_up values_count value_bounds group are) in
    subst (λ (k : ℕ). ValuesMeet s before false k f) e (r.read.fault false (part + more) f (next more))

pub groups_all : {P : Type 0} (m : Measure P) (s : Shape) (before after : ValueSource) (count : ℕ) (bounds : List ℕ) (values_count : ℕ) (value_bounds : List ℕ) (group : ℕ) (whole : Kept P) (passed : Passed) (found : ColumnFound)
    → GroupsRead m s before after count bounds values_count value_bounds group whole passed found.groups.items found.bounds_below.items → length bounds ≡ group → length value_bounds ≡ length bounds
    → ((cs : List Cell) → length cs ≤ 2 ^ 62 → stat_of_kept m (cells_kept m cs) ≡ stat (kind_of s) cs) → count ≤ 2 ^ 62
    → found.stat ≡ stat_of_kept m whole → found.below ≡ passed.children
    → (read : List Cell) × (length read ≡ values_count) × Leaves (OwnValuesLeft s before) (OwnValuesLeft s after) read
    × ((cells : List Cell) → HavePassedValues count bounds value_bounds read cells → AreGroupsCounted s cells bounds found)
groups_all m s before after count bounds values_count value_bounds group whole passed found r last as_many are_stat few stat_is below_is =
    let at = bound_at count bounds group in
    let end : at ≡ count = bound_past count bounds group (omega (arith, last)) in (
      r.cells,
      r.read.counted ∙ bound_past values_count value_bounds group (omega (arith, last, as_many)),
      r.read.leave,
      λ cells h.
          let all : take at cells ≡ cells = take_all at cells (omega (arith, end, h.counted)) in
          let f = r.found cells (record { counted = h.counted; before = h.before; values_are = ap values all ∙ h.values_are }) in
          record {
            stat_is = stat_is ∙ ap (stat_of_kept m) (f.whole_is ∙ ap (cells_kept m) all) ∙ are_stat cells (omega (arith, h.counted, few));
            groups_are = subst (λ (n : ℕ). AreGroupsFound s cells bounds n found.groups.items) (sym last) f.groups_are;
            below_is = below_is ∙ f.passed_is.children_are ∙ ap (λ cs. min most (children s (values cs))) all;
            bounds_are =
                let none : map (children_before s cells) (drop group bounds) ≡ [] = ap (map (children_before s cells)) (drop_all group bounds (omega (arith, last))) in
                sym (append-nil found.bounds_below.items) ∙ ap (λ (t : List ℕ). found.bounds_below.items ++ t) (sym none) ∙ f.bounds_are;
          },
    )

-- ---- no more children are counted than there are

few_children : (s : Shape) (a : ValueSource) (read : List Cell) → a.room ≤ most → length read ≤ most → OwnValuesLeft s a read → children s read ≤ most
few_children (scalar k o) a read room few h = omega arith
few_children (list_of t o) a read room few h = omega (arith, room, h.1.1, ap (λ cs. length (flat_map parts cs)) h.2, elements_sum h.0)
few_children (map_of k v o) a read room few h = omega (arith, room, h.1.1, ap (λ cs. length (flat_map pairs_in cs)) h.2, pairs_sum h.0)
few_children (struct_of fs o) a read room few h = few

children_within : (s : Shape) (cells : List Cell) (b : ℕ) → children s (values (take b cells)) ≤ children s (values cells)
children_within s cells b =
    let both : values (take b cells) ++ values (drop b cells) ≡ values cells = sym (values-append (take b cells) (drop b cells)) ∙ ap values (take-append-drop b cells) in
    omega (arith, children_append s (values (take b cells)) (values (drop b cells)), ap (children s) both)

exact_before : (s : Shape) (cells : List Cell) (bounds : List ℕ) → children s (values cells) ≤ most → map (children_before s cells) bounds ≡ map (λ b. children s (values (take b cells))) bounds
exact_before s cells [] few = refl
exact_before s cells (b ∷ bounds) few =
    let first : children_before s cells b ≡ children s (values (take b cells)) = omega (arith, few, children_within s cells b) in
    let others = exact_before s cells bounds few in
    λ i. first i ∷ others i

bounds_below_is : (s : Shape) (cells : List Cell) (bounds : List ℕ) → map (λ b. children s (values (take b cells))) bounds ≡ bounds_below s cells bounds
bounds_below_is (scalar k o) cells bounds = refl
bounds_below_is (list_of t o) cells bounds = refl
bounds_below_is (map_of k v o) cells bounds = refl
bounds_below_is (struct_of fs o) cells bounds = refl

pub counted_found : (s : Shape) (a : ValueSource) (read cells : List Cell) (bounds : List ℕ) (found : ColumnFound) → a.room ≤ most → length cells ≤ most → values cells ≡ read → OwnValuesLeft s a read
    → AreGroupsCounted s cells bounds found → IsColumnFound s cells bounds found
counted_found s a read cells bounds found room few is left h =
    let many : children s (values cells) ≤ most = subst (λ cs. children s cs ≤ most) (sym is) (few_children s a read room (omega (arith, few, values_few cells, ap length is)) left) in
    record {
      stat_is = h.stat_is;
      counted = h.groups_are.counted;
      groups_are = h.groups_are.each;
      below_is = omega (arith, h.below_is, many);
      bounds_are = h.bounds_are ∙ exact_before s cells bounds many ∙ bounds_below_is s cells bounds;
    }

pub mapped_get : (groups : List GroupFound) (g : ℕ) (k : Counts) → slice_get (map (λ (group : GroupFound). group.before) groups) g ≡ Some k → (group : GroupFound) × (slice_get groups g ≡ Some group) × (group.before ≡ k)
mapped_get [] g k h = cc
mapped_get (x ∷ xs) zero k h = (x, refl, cc)
mapped_get (x ∷ xs) (suc g) k h = mapped_get xs g k h

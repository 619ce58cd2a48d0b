-- Marks of the groups of a column's cells, one group after the other.
use Rattle.std.proofs.Common.{◌≡◌, ◌<◌, ◌≤◌, ℕ, zero, suc, ◌+◌, ◌-◌, Bool, true, false, Option, Some, None, List, [], ◌∷◌, ◌++◌, length, map, take, drop, get_or, replicate, refl, sym, ap, ◌∙◌, subst, arith, length-append, append-nil}
use Rattle.std.specs.Option.{is_some}
use Rattle.std.proofs.Math.Seq.{take-add}
use Rattle.std.proofs.Math.ListN.{get_or-map}
use Rattle.std.proofs.lemmas.Grind.{get_or_default_zero}
use Rattle.std.proofs.lemmas.List.{take-map, length-map, length-take, take_all, drop_all, length-replicate}
use Rattle.orc_values.specs.Cells.{Cell, is_value}
use Rattle.orc_values.specs.Trues.{trues}
use Rattle.orc_column_reader.specs.Columns.{MarksLeft}
use Rattle.orc_column_reader.specs.Fronts.{Leaves, Lacks}
use Rattle.orc_column_reader.specs.declared.bits.Bits.{Bits}
use Rattle.orc_directory.specs.declared.fault.StripeFault.{StripeFault}
use Rattle.orc_column_reader.proofs.Fronts.{length-values, one_after_other, lacks_after, lacks_more}
use Rattle.orc_row_groups.specs.Bounds.{AreBounds, bound_at, values_before}
use Rattle.orc_row_groups.proofs.Groups.{bound_within, bound_up, found_more}
use Rattle.orc_column_walk.specs.Passed.{AreValueBounds, trues_before}
use Rattle.orc_column_walk.proofs.GroupLemmas.{fronts_same}
use Rattle.orc_column_walk.proofs.MarkLemmas.{PresentMet, trues_all}
use Rattle.orc_column_walk.proofs.ReadLemmas.{AreRead, none_read}
use Rattle.orc_values.proofs.Lists.{trues_append}
use Rattle.orc_row_groups.proofs.BoundLemmas.{bound_past}

pub record GroupMarksRead (column : ℕ) (before after : Option Bits) (count : ℕ) (bounds : List ℕ) (group values : ℕ) (found : List ℕ) : Type 0 where
  pub marks : List Bool
  pub read : AreRead (MarksLeft before) (MarksLeft after) (PresentMet column before) (PresentMet column after) (bound_at count bounds group) marks
  pub counted : values ≡ trues marks
  pub few : values ≤ bound_at count bounds group
  pub bounds_are : (all : List Bool) → take (bound_at count bounds group) all ≡ marks
      → found ++ map (trues_before all) (drop group bounds) ≡ map (trues_before all) bounds

pub no_group_marks : (column : ℕ) (present : Option Bits) (count : ℕ) (bounds : List ℕ) → bound_at count bounds 0 ≡ 0 → GroupMarksRead column present present count bounds 0 0 []
no_group_marks column present count bounds first = record {
  marks = [];
  read = subst (λ (k : ℕ). AreRead (MarksLeft present) (MarksLeft present) (PresentMet column present) (PresentMet column present) k []) (sym first) (none_read (MarksLeft present) (PresentMet column present));
  counted = refl;
  few = omega arith;
  bounds_are = λ all e. refl;
}

pub group_marks : (column : ℕ) (before between after : Option Bits) (count : ℕ) (bounds : List ℕ) (group cells values more sum : ℕ) (found further : List ℕ) (marks : List Bool)
    → GroupMarksRead column before between count bounds group values found → group < length bounds → AreBounds count bounds
    → cells ≡ bound_at count bounds (group + 1) - bound_at count bounds group
    → length marks ≡ cells → Leaves (MarksLeft between) (MarksLeft after) marks
    → ((all : Bool) (n : ℕ) (f : StripeFault) → PresentMet column after all n f → PresentMet column between all (cells + n) f)
    → more ≡ trues marks → more ≤ cells → sum ≡ values + more → further ≡ found ++ values ∷ []
    → GroupMarksRead column before after count bounds (group + 1) sum further
group_marks column before between after count bounds group cells values more sum found further marks r lt are is long leave fault many few total pushed =
    let start = bound_at count bounds group in
    let end = bound_at count bounds (group + 1) in
    let up = bound_up count bounds group are in
    let both : start + cells ≡ end = omega (arith, is, up) in
    record {
      marks = r.marks ++ marks;
      read = record {
        counted = omega (arith, length-append r.marks marks, r.read.counted, long, both);
        leave = one_after_other (MarksLeft before) (MarksLeft between) (MarksLeft after) r.marks marks r.read.leave leave;
        fault = λ all n f h.
            let e : start + (cells + n) ≡ end + n = omega (arith, both) in
            subst (λ (k : ℕ). PresentMet column before all k f) e (r.read.fault all (cells + n) f (fault all n f h));
      };
      counted = omega (arith, r.counted, many, total, trues_append r.marks marks);
      few = omega (arith, r.few, few, total, both);
      bounds_are = λ all e.
          let parted : take end all ≡ take start all ++ take cells (drop start all) = ap (λ (n : ℕ). take n all) (sym both) ∙ take-add start cells all in
          let whole : length (take end all) ≡ end = ap length e ∙ length-append r.marks marks ∙ omega (arith, r.read.counted, long, both) in
          let there : length (take start all) ≡ length r.marks = omega (arith, ap length parted, length-append (take start all) (take cells (drop start all)), whole, length-take start all, length-take cells (drop start all), r.read.counted, both) in
          let front = (fronts_same (take start all) (take cells (drop start all)) r.marks marks there (sym parted ∙ e)).0 in
          found_more (trues_before all) bounds group values found further lt
          (r.counted ∙ ap trues (sym front) ∙ ap (trues_before all) (get_or_default_zero bounds group count lt)) pushed (r.bounds_are all front);
    }

pub lacks_group_marks : (column : ℕ) (before between : Option Bits) (count : ℕ) (bounds : List ℕ) (group cells values : ℕ) (found : List ℕ) → GroupMarksRead column before between count bounds group values found → AreBounds count bounds
    → cells ≡ bound_at count bounds (group + 1) - bound_at count bounds group → Lacks (MarksLeft between) cells → Lacks (MarksLeft before) count
lacks_group_marks column before between count bounds group cells values found r are is none =
    lacks_more (MarksLeft before) (length r.marks + cells) count (omega (arith, r.read.counted, is, bound_within count bounds (group + 1) are, bound_up count bounds group are))
    (lacks_after (MarksLeft before) (MarksLeft between) r.marks cells r.read.leave none)

pub fault_group_marks : (column : ℕ) (before between : Option Bits) (count : ℕ) (bounds : List ℕ) (group cells values : ℕ) (found : List ℕ) (f : StripeFault) → GroupMarksRead column before between count bounds group values found → AreBounds count bounds
    → cells ≡ bound_at count bounds (group + 1) - bound_at count bounds group → ((n : ℕ) → PresentMet column between false (cells + n) f) → PresentMet column before false count f
fault_group_marks column before between count bounds group cells values found f r are is next =
    let more : ℕ = count - bound_at count bounds (group + 1) in
    let e : bound_at count bounds group + (cells + more) ≡ count = omega (arith, is, bound_within count bounds (group + 1) are, bound_up count bounds group are) in
    subst (λ (k : ℕ). PresentMet column before false k f) e (r.read.fault false (cells + more) f (next more))

pub all_group_marks : (column : ℕ) (before after : Option Bits) (count : ℕ) (bounds : List ℕ) (group values : ℕ) (found : List ℕ) → GroupMarksRead column before after count bounds group values found → length bounds ≡ group
    → (marks : List Bool) × (length marks ≡ count) × Leaves (MarksLeft before) (MarksLeft after) marks × (values ≡ trues marks) × (found ≡ map (trues_before marks) bounds)
all_group_marks column before after count bounds group values found r last =
    let end : bound_at count bounds group ≡ count = bound_past count bounds group (omega (arith, last)) in
    let all : take (bound_at count bounds group) r.marks ≡ r.marks = take_all (bound_at count bounds group) r.marks (omega (arith, r.read.counted)) in
    let none : map (trues_before r.marks) (drop group bounds) ≡ [] = ap (map (trues_before r.marks)) (drop_all group bounds (omega (arith, last))) in
    (r.marks, r.read.counted ∙ end, r.read.leave, r.counted, sym (append-nil found) ∙ ap (λ (t : List ℕ). found ++ t) (sym none) ∙ r.bounds_are r.marks all)

-- ---- without PRESENT

trues_front : (n b : ℕ) → b ≤ n → trues (take b (replicate n true)) ≡ b
trues_front n zero le = refl
trues_front zero (suc b) le = absurd (omega (arith, le))
trues_front (suc n) (suc b) le = ap suc (trues_front n b (omega (arith, le)))

all_before : (n : ℕ) (bounds : List ℕ) → AreBounds n bounds → map (trues_before (replicate n true)) bounds ≡ bounds
all_before n [] are = refl
all_before n (b ∷ bounds) are =
    let first = trues_front n b (bound_within n (b ∷ bounds) 0 are) in
    let others = all_before n bounds (λ g. are (suc g)) in
    λ i. first i ∷ others i

pub all_marked_before : (present : Option Bits) (n : ℕ) (bounds copy : List ℕ) → is_some present ≡ false → AreBounds n bounds → copy ≡ bounds
    → (marks : List Bool) × (length marks ≡ n) × MarksLeft present marks × (n ≡ trues marks) × (copy ≡ map (trues_before marks) bounds)
all_marked_before None n bounds copy e are is =
    let long = length-replicate n true in
    (replicate n true, long, ap (λ (k : ℕ). replicate k true) (sym long), sym (trues_all n), is ∙ sym (all_before n bounds are))
all_marked_before (Some bits) n bounds copy e are is = cc

-- ---- what the marks say of bounds

trues_rise : (marks : List Bool) (a b : ℕ) → a ≤ b → (trues (take a marks) ≤ trues (take b marks)) × (trues (take b marks) + a ≤ trues (take a marks) + b)
trues_rise [] a b le =
    let first = ap trues (take_all a [] (omega arith)) in
    let second = ap trues (take_all b [] (omega arith)) in
    (omega (arith, first, second), omega (arith, first, second, le))
trues_rise (m ∷ marks) zero b le = (omega arith, omega (arith, few_in (m ∷ marks) b))
  where
    few_in : (ms : List Bool) (n : ℕ) → trues (take n ms) ≤ n
    few_in ms zero = omega arith
    few_in [] (suc n) = omega arith
    few_in (true ∷ ms) (suc n) = omega (arith, few_in ms n)
    few_in (false ∷ ms) (suc n) = omega (arith, few_in ms n)
trues_rise (true ∷ marks) (suc a) zero le = absurd (omega (arith, le))
trues_rise (true ∷ marks) (suc a) (suc b) le = let r = trues_rise marks a b (omega (arith, le)) in (omega (arith, r.0), omega (arith, r.1))
trues_rise (false ∷ marks) (suc a) zero le = absurd (omega (arith, le))
trues_rise (false ∷ marks) (suc a) (suc b) le = let r = trues_rise marks a b (omega (arith, le)) in (r.0, omega (arith, r.1))

pub value_bounds_are : (count : ℕ) (bounds : List ℕ) (values : ℕ) (value_bounds : List ℕ) (marks : List Bool) → AreBounds count bounds → bound_at count bounds 0 ≡ 0 → length marks ≡ count → values ≡ trues marks → value_bounds ≡ map (trues_before marks) bounds
    → AreValueBounds count bounds values value_bounds
value_bounds_are count bounds values value_bounds marks are first long counted is =
    let all : take count marks ≡ marks = take_all count marks (omega (arith, long)) in
    let at : (g : ℕ) → bound_at values value_bounds g ≡ trues_before marks (bound_at count bounds g) = λ g.
    ap (λ (bs : List ℕ). bound_at values bs g) is ∙ ap (λ (n : ℕ). get_or (map (trues_before marks) bounds) g n) (counted ∙ ap trues (sym all)) ∙ get_or-map (trues_before marks) bounds g count in
    record {
      as_many = ap length is ∙ length-map bounds (trues_before marks);
      ascending = λ g. omega (arith, at g, at (suc g), (trues_rise marks (bound_at count bounds g) (bound_at count bounds (suc g)) (are g)).0);
      first = at 0 ∙ ap (trues_before marks) first;
      fewer = λ g. omega (arith, at g, at (suc g), (trues_rise marks (bound_at count bounds g) (bound_at count bounds (suc g)) (are g)).1);
    }

-- how many values come before each bound, by the cells' marks
marks_before : (cells : List Cell) (marks : List Bool) (b : ℕ) → map is_value cells ≡ marks → values_before cells b ≡ trues_before marks b
marks_before cells marks b e = length-values (take b cells) ∙ ap trues (sym (take-map is_value b cells) ∙ ap (take b) e)

pub values_by_marks : (cells : List Cell) (marks : List Bool) (bounds : List ℕ) → map is_value cells ≡ marks → map (values_before cells) bounds ≡ map (trues_before marks) bounds
values_by_marks cells marks [] e = refl
values_by_marks cells marks (b ∷ bounds) e =
    let first = marks_before cells marks b e in
    let others = values_by_marks cells marks bounds e in
    λ i. first i ∷ others i

-- What the tally of each kind of column gives.
use Rattle.std.proofs.Common.{◌≡◌, refl, ◌∙◌, ap, arith, ℕ, suc, ◌+◌, ◌^◌, ◌≤◌, ℤ, pos, ◌+ℤ◌, Bool, true, false, List, [], ◌∷◌, length, map, Option, Some, None}
use Rattle.std.specs.List.{filter_map, cons_option}
use Rattle.std.specs.Option.{option_map, option_and_then, IfSome}
use Rattle.orc_values.specs.Cells.{Cell}
use Rattle.orc_stats.specs.declared.kind.StatKind.TheVariants as kind
use Rattle.orc_stats.specs.declared.stat.Stat.{Stat}
use Rattle.orc_stats.specs.declared.stat.Body.TheVariants as body
use Rattle.orc_stats.specs.Seen.{seen_of, known_of, value_seen}
use Rattle.orc_stats.specs.Orders.{int_sums, nat_sums, lower_ints, higher_ints, lower_texts, higher_texts, lower_nats, higher_nats}
use Rattle.orc_stats.specs.Statistics.{onto, reduce, total, lengths, in_64, in_u64, bit, int_of, date_of, bool_of, text_of, bytes_of, children_of, stat}
use Rattle.orc_stats.specs.Joining.{in_limit, least_int, greatest_int, least_date, greatest_date, least_text, greatest_text, trues_of, sum_of, least_children, greatest_children, total_children, joined}
use Rattle.orc_stats.specs.Tallies.{Joins, parts_together, cells_kept, stats_kept, stat_of_kept}
use Rattle.orc_stats.specs.Measures.{◌and◌, least_ints, greatest_ints, least_texts, greatest_texts, least_nats, greatest_nats, int_totals, nat_totals, ints, dates, texts, bools, bins, child_numbers, no_measure}
use Rattle.orc_stats.specs.laws.TallyLaws.{stat_of_kept_cells, stat_of_kept_stats, known_values, known_all, known_all_in, all-and}

pub picked_map : {X A B : Type 0} (f : A → B) (pick : X → Option A) (xs : List X)
    → filter_map (λ x. option_map f (pick x)) xs ≡ map f (filter_map pick xs)
picked_map f pick [] = refl
picked_map f pick (x ∷ xs) = ap (cons_option (option_map f (pick x))) (picked_map f pick xs) ∙ picked_one f (pick x) (filter_map pick xs)
  where
    picked_one : {A B : Type 0} (f : A → B) (p : Option A) (ys : List A)
        → cons_option (option_map f p) (map f ys) ≡ map f (cons_option p ys)
    picked_one f None ys = refl
    picked_one f (Some y) ys = refl

pub ints_is : {l m g h s t : Option ℤ} → l ≡ m → g ≡ h → s ≡ t → body.Ints l g s ≡ body.Ints m h t
ints_is e f d = λ i. body.Ints (e i) (f i) (d i)

pub dates_is : {l m g h : Option ℤ} → l ≡ m → g ≡ h → body.Dates l g ≡ body.Dates m h
dates_is e f = λ i. body.Dates (e i) (f i)

pub texts_is : {l m g h : Option (List ℕ)} {s t : Option ℤ}
    → l ≡ m
    → g ≡ h
    → s ≡ t
    → body.Texts l g s ≡ body.Texts m h t
texts_is e f d = λ i. body.Texts (e i) (f i) (d i)

pub children_is : {l m g h s t : Option ℕ} → l ≡ m → g ≡ h → s ≡ t → body.Children l g s ≡ body.Children m h t
children_is e f d = λ i. body.Children (e i) (f i) (d i)

-- three parts side by side
module _ {A B C X : Type 0} where
  pub three : (a : Joins A) (b : Joins B) (c : Joins C) (f : X → A) (g : X → B) (h : X → C) (xs : List X)
      → parts_together (a and b and c) (map (λ x. (f x, (g x, h x))) xs) ≡ (parts_together a (map f xs), (parts_together b (map g xs), parts_together c (map h xs)))
  three a b c f g h xs = all-and a (b and c) f (λ x. (g x, h x)) xs ∙ ap (λ q. (parts_together a (map f xs), q)) (all-and b c g h xs)

pub ints_cells : (cells : List Cell) → stat_of_kept ints (cells_kept ints cells) ≡ stat kind.Ints cells
ints_cells cells = stat_of_kept_cells ints kind.Ints cells
    (ap ints.body (three least_ints greatest_ints int_totals (λ c. value_seen (int_of c)) (λ c. value_seen (int_of c)) (λ c. value_seen (int_of c)) cells)
    ∙ ints_is (known_values _ lower_ints int_of cells) (known_values _ higher_ints int_of cells)
    (ap (option_and_then in_64) (known_values _ int_sums int_of cells)))

pub ints_stats : (ss : List Stat) → stat_of_kept ints (stats_kept ints ss) ≡ joined kind.Ints ss
ints_stats ss = stat_of_kept_stats ints kind.Ints ss λ bs.
    ap ints.body (three least_ints greatest_ints int_totals (λ b. seen_of (least_int b)) (λ b. seen_of (greatest_int b)) (λ b. seen_of (sum_of b)) bs)
    ∙ ints_is (known_all _ lower_ints least_int bs) (known_all _ higher_ints greatest_int bs) (known_all_in _ int_sums in_64 sum_of bs)

pub dates_cells : (cells : List Cell) → stat_of_kept dates (cells_kept dates cells) ≡ stat kind.Dates cells
dates_cells cells = stat_of_kept_cells dates kind.Dates cells
    (ap dates.body (all-and least_ints greatest_ints (λ c. value_seen (date_of c)) (λ c. value_seen (date_of c)) cells)
    ∙ dates_is (known_values _ lower_ints date_of cells) (known_values _ higher_ints date_of cells))

pub dates_stats : (ss : List Stat) → stat_of_kept dates (stats_kept dates ss) ≡ joined kind.Dates ss
dates_stats ss = stat_of_kept_stats dates kind.Dates ss λ bs.
    ap dates.body (all-and least_ints greatest_ints (λ b. seen_of (least_date b)) (λ b. seen_of (greatest_date b)) bs)
    ∙ dates_is (known_all _ lower_ints least_date bs) (known_all _ higher_ints greatest_date bs)

-- the total of lengths
abbrev length_of : Option (List ℕ) → Option ℤ
length_of p = option_map (λ t. pos (length t)) p

total_lengths : (pick : Cell → Option (List ℕ)) (cells : List Cell)
    → option_and_then in_64 (known_of (parts_together int_totals (map (λ c. value_seen (length_of (pick c))) cells)))
    ≡ total (lengths (filter_map pick cells))
total_lengths pick cells =
    ap (option_and_then in_64)
    (known_values _ int_sums (λ c. length_of (pick c)) cells ∙ ap (reduce ◌+ℤ◌) (picked_map (λ t. pos (length t)) pick cells))

pub texts_cells : (cells : List Cell) → stat_of_kept texts (cells_kept texts cells) ≡ stat kind.Texts cells
texts_cells cells = stat_of_kept_cells texts kind.Texts cells
    (ap texts.body (three least_texts greatest_texts int_totals (λ c. value_seen (text_of c)) (λ c. value_seen (text_of c)) (λ c. value_seen (length_of (text_of c))) cells)
    ∙ texts_is (known_values _ lower_texts text_of cells) (known_values _ higher_texts text_of cells)
    (total_lengths text_of cells))

pub texts_stats : (ss : List Stat) → stat_of_kept texts (stats_kept texts ss) ≡ joined kind.Texts ss
texts_stats ss = stat_of_kept_stats texts kind.Texts ss λ bs.
    ap texts.body (three least_texts greatest_texts int_totals (λ b. seen_of (least_text b)) (λ b. seen_of (greatest_text b)) (λ b. seen_of (sum_of b)) bs)
    ∙ texts_is (known_all _ lower_texts least_text bs) (known_all _ higher_texts greatest_text bs) (known_all_in _ int_sums in_64 sum_of bs)

pub bins_cells : (cells : List Cell) → stat_of_kept bins (cells_kept bins cells) ≡ stat kind.Bins cells
bins_cells cells = stat_of_kept_cells bins kind.Bins cells
    (ap body.Bins (total_lengths bytes_of cells))

pub bins_stats : (ss : List Stat) → stat_of_kept bins (stats_kept bins ss) ≡ joined kind.Bins ss
bins_stats ss = stat_of_kept_stats bins kind.Bins ss λ bs. ap body.Bins (known_all_in _ int_sums in_64 sum_of bs)

-- at most as many are true as there are
pub few_bits : (bs : List Bool) → IfSome (reduce ◌+◌ (map bit bs)) (λ n. n ≤ length bs)
few_bits [] = tt
few_bits (b ∷ bs) = bits_onto b (reduce ◌+◌ (map bit bs)) (length bs) (few_bits bs)
  where
    bits_onto : (b : Bool) (r : Option ℕ) (n : ℕ) → IfSome r (λ k. k ≤ n) → onto ◌+◌ (bit b) r ≤ suc n
    bits_onto true None n h = omega arith
    bits_onto true (Some k) n h = omega arith
    bits_onto false None n h = omega arith
    bits_onto false (Some k) n h = omega arith

pub few_picked : {X A : Type 0} (pick : X → Option A) (xs : List X) → length (filter_map pick xs) ≤ length xs
few_picked pick [] = omega arith
few_picked pick (x ∷ xs) = one_picked (pick x) (filter_map pick xs) (length xs) (few_picked pick xs)
  where
    one_picked : {A : Type 0} (p : Option A) (ys : List A) (n : ℕ) → length ys ≤ n → length (cons_option p ys) ≤ suc n
    one_picked None ys n h = omega arith
    one_picked (Some y) ys n h = omega arith

limit_kept : (n : ℕ) → n ≤ 2 ^ 62 → in_limit n ≡ Some n
limit_kept n h = grind arith

limits_kept : (r : Option ℕ) (n : ℕ) → IfSome r (λ k. k ≤ n) → n ≤ 2 ^ 62 → option_and_then in_limit r ≡ r
limits_kept None n few most = refl
limits_kept (Some k) n few most = limit_kept k (omega arith)

pub trues_kept : (cells : List Cell) → length cells ≤ 2 ^ 62
    → (let bits = map bit (filter_map bool_of cells) in option_and_then in_limit (reduce ◌+◌ bits) ≡ reduce ◌+◌ bits)
trues_kept cells most =
    let bs = filter_map bool_of cells in
    let few = few_picked bool_of cells in
    limits_kept (reduce ◌+◌ (map bit bs)) (length bs) (few_bits bs) (omega arith)

pub bools_cells : (cells : List Cell)
    → length cells ≤ 2 ^ 62
    → stat_of_kept bools (cells_kept bools cells) ≡ stat kind.Bools cells
bools_cells cells most = stat_of_kept_cells bools kind.Bools cells
    (ap (λ r. body.Bools (option_and_then in_limit r))
    (known_values _ nat_sums (λ c. option_map bit (bool_of c)) cells ∙ ap (reduce ◌+◌) (picked_map bit bool_of cells))
    ∙ ap body.Bools (trues_kept cells most))

pub bools_stats : (ss : List Stat) → stat_of_kept bools (stats_kept bools ss) ≡ joined kind.Bools ss
bools_stats ss = stat_of_kept_stats bools kind.Bools ss λ bs. ap body.Bools (known_all_in _ nat_sums in_limit trues_of bs)

pub children_cells : (cells : List Cell) → stat_of_kept child_numbers (cells_kept child_numbers cells) ≡ stat kind.Children cells
children_cells cells = stat_of_kept_cells child_numbers kind.Children cells
    (ap child_numbers.body
    (three least_nats greatest_nats nat_totals
    (λ c. value_seen (children_of c)) (λ c. value_seen (children_of c)) (λ c. value_seen (children_of c)) cells)
    ∙ children_is (known_values _ lower_nats children_of cells) (known_values _ higher_nats children_of cells)
    (ap (option_and_then in_u64) (known_values _ nat_sums children_of cells)))

pub children_stats : (ss : List Stat) → stat_of_kept child_numbers (stats_kept child_numbers ss) ≡ joined kind.Children ss
children_stats ss = stat_of_kept_stats child_numbers kind.Children ss λ bs.
    ap child_numbers.body
    (three least_nats greatest_nats nat_totals
    (λ b. seen_of (least_children b)) (λ b. seen_of (greatest_children b)) (λ b. seen_of (total_children b)) bs)
    ∙ children_is (known_all _ lower_nats least_children bs) (known_all _ higher_nats greatest_children bs)
    (known_all_in _ nat_sums in_u64 total_children bs)

pub plain_cells : (cells : List Cell) → stat_of_kept no_measure (cells_kept no_measure cells) ≡ stat kind.Plain cells
plain_cells cells = stat_of_kept_cells no_measure kind.Plain cells refl

pub plain_stats : (ss : List Stat) → stat_of_kept no_measure (stats_kept no_measure ss) ≡ joined kind.Plain ss
plain_stats ss = stat_of_kept_stats no_measure kind.Plain ss λ bs. refl

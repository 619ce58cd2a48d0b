-- The statistic of cells leaves room for each of them.
use Rattle.std.proofs.Common.{◌≡◌, refl, sym, ap, ◌∙◌, arith, ℕ, zero, suc, ◌+◌, ◌<◌, ◌≤◌, nat_le, nat_lt, leb-true, ltb-true, lt-ltb, eqb-true, ne_eqb, ◌==◌, ℤ, Bool, true, false, not, ◌||◌, if◌then◌else◌, Option, Some, None, List, [], ◌∷◌, length, map, subst, ◌↔◌}
use Rattle.std.specs.Prelude.{IfSome}
use Rattle.std.proofs.lemmas.Bool.{eqb-false}
use Rattle.std.specs.List.{filter_map, cons_option, AllByRecursion}
use Rattle.std.specs.Option.{option_map, option_map_or, is_none}
use Rattle.std.specs.Ordering.{is_gt, int_cmp, nat_cmp, flip_args}
use Rattle.std.specs.declared.cmp.Ordering.{Ordering}
use Rattle.orc_values.specs.Cells.{Atom, bool, int, date, text, bytes, Cell, null, leaf, list, struct, pairs, values, is_value}
use Rattle.orc_values.specs.Trues.{trues}
use Rattle.orc_stats.specs.declared.kind.StatKind.{StatKind}
use Rattle.orc_stats.specs.declared.kind.StatKind.TheVariants as kind
use Rattle.orc_stats.specs.declared.stat.Stat.{Stat}
use Rattle.orc_stats.specs.declared.stat.Body.{Body}
use Rattle.orc_stats.specs.declared.stat.Body.TheVariants as body
use Rattle.orc_stats.specs.Kinds.{is_of}
use Rattle.orc_stats.specs.Meanings.{IsLowest}
use Rattle.orc_stats.specs.Statistics.{reduce, onto, least, greatest, text_cmp, bit, int_of, date_of, bool_of, text_of, has_null, values_body, stat}
use Rattle.orc_stats.specs.Joining.{has_values}
use Rattle.orc_stats.proofs.Meanings.{least_numbers, greatest_numbers, least_texts, greatest_texts, true_counts}
use Rattle.orc_stats.proofs.Parts.{few_ints, few_dates, few_texts}
use Rattle.orc_skipping.specs.Predicates.{order}
use Rattle.orc_skipping.proofs.Alike.{IsAlike, admits_alike}
use Rattle.orc_skipping.specs.Rules.{least_in, greatest_in, lacks_bound, taken_boldly}
use Rattle.orc_skipping.specs.Right.{IsUpTo, Admits}

-- ---- lists
all_map : {X : Type 0} (P Q : X → Type 0) → ((x : X) → P x → Q x) → (xs : List X) → AllByRecursion P xs → AllByRecursion Q xs
all_map P Q f [] h = tt
all_map P Q f (x ∷ xs) h = (f x h.0, all_map P Q f xs h.1)

all_of : {X : Type 0} (P : X → Type 0) → ((x : X) → P x) → (xs : List X) → AllByRecursion P xs
all_of P f [] = tt
all_of P f (x ∷ xs) = (f x, all_of P f xs)

all_both : {X : Type 0} (P Q : X → Type 0) (xs : List X) → AllByRecursion P xs → AllByRecursion Q xs → AllByRecursion (λ x. P x × Q x) xs
all_both P Q [] h k = tt
all_both P Q (x ∷ xs) h k = ((h.0, k.0), all_both P Q xs h.1 k.1)

first_picked : {A : Type 0} (P : A → Type 0) (o : Option A) (xs : List A) → AllByRecursion P (cons_option o xs) → IfSome o P × AllByRecursion P xs
first_picked P None xs h = (tt, h)
first_picked P (Some x) xs h = h

-- what holds of the values that are picked holds of those of each cell
lifted : {A : Type 0} (pick : Cell → Option A) (P : A → Type 0) (cells : List Cell) → AllByRecursion P (filter_map pick cells)
    → AllByRecursion (λ c. IfSome (pick c) P) cells
lifted pick P [] h = tt
lifted pick P (c ∷ cells) h = let both = first_picked P (pick c) (filter_map pick cells) h in (both.0, lifted pick P cells both.1)

-- ---- null and values
nulls_seen : (seen : Bool) (cells : List Cell) → (has_null cells ≡ true → seen ≡ true) → AllByRecursion (λ c. is_value c ≡ false → seen ≡ true) cells
nulls_seen seen [] h = tt
nulls_seen seen (c ∷ cells) h = (first (is_value c) h, nulls_seen seen cells (λ e. h (second (is_value c) e)))
  where
    first : (b : Bool) → ((not b || has_null cells) ≡ true → seen ≡ true) → b ≡ false → seen ≡ true
    first true k e = cc
    first false k e = k refl

    second : (b : Bool) → has_null cells ≡ true → (not b || has_null cells) ≡ true
    second true e = e
    second false e = refl

some_value : (n : ℕ) → nat_lt 0 (suc n) ≡ true
some_value n = lt-ltb 0 (suc n) (omega arith)

values_seen : (seen : Bool) (cells : List Cell) → (nat_lt 0 (length (values cells)) ≡ true → seen ≡ true) → AllByRecursion (λ c. is_value c ≡ true → seen ≡ true) cells
values_seen seen [] h = tt
values_seen seen (c ∷ cells) h = (first (is_value c) h, values_seen seen cells (λ e. h (second (is_value c) e)))
  where
    first : (b : Bool) → (nat_lt 0 (length (if b then c ∷ values cells else values cells)) ≡ true → seen ≡ true) → b ≡ true → seen ≡ true
    first true k e = k (some_value (length (values cells)))
    first false k e = cc

    second : (b : Bool) → nat_lt 0 (length (values cells)) ≡ true → nat_lt 0 (length (if b then c ∷ values cells else values cells)) ≡ true
    second true e = some_value (length (values cells))
    second false e = e

-- ---- the least and the greatest
abbrev Above : Atom → Cell → Type 0
Above l (leaf v) = IsUpTo l v
Above l _ = Unit {0}

abbrev Below : Atom → Cell → Type 0
Below g (leaf v) = IsUpTo v g
Below g _ = Unit {0}

above_int : (l : ℤ) (c : Cell) → IfSome (int_of c) (λ z. is_gt (int_cmp l z) ≡ false) → Above (int l) c
above_int l (leaf (int z)) h = h
above_int l c h = tt

above_date : (l : ℤ) (c : Cell) → IfSome (date_of c) (λ z. is_gt (int_cmp l z) ≡ false) → Above (date l) c
above_date l (leaf (date z)) h = h
above_date l c h = tt

above_text : (l : List ℕ) (c : Cell) → IfSome (text_of c) (λ z. is_gt (text_cmp l z) ≡ false) → Above (text l) c
above_text l (leaf (text z)) h = h
above_text l c h = tt

below_int : (g : ℤ) (c : Cell) → IfSome (int_of c) (λ z. is_gt (int_cmp z g) ≡ false) → Below (int g) c
below_int g (leaf (int z)) h = h
below_int g c h = tt

below_date : (g : ℤ) (c : Cell) → IfSome (date_of c) (λ z. is_gt (int_cmp z g) ≡ false) → Below (date g) c
below_date g (leaf (date z)) h = h
below_date g c h = tt

below_text : (g : List ℕ) (c : Cell) → IfSome (text_of c) (λ z. is_gt (text_cmp z g) ≡ false) → Below (text g) c
below_text g (leaf (text z)) h = h
below_text g c h = tt

-- the lowest of the picked values, in an order, is one that each cell's value reaches
reached : {A : Type 0} (cmp : A → A → Ordering) (pick : Cell → Option A) (atom : A → Atom) (Side : Atom → Cell → Type 0)
    → ((xs : List A) (z : A) → (least cmp xs ≡ Some z) ↔ IsLowest cmp xs z)
    → ((l : A) (c : Cell) → IfSome (pick c) (λ z. is_gt (cmp l z) ≡ false) → Side (atom l) c)
    → (cells : List Cell) → IfSome (option_map atom (least cmp (filter_map pick cells))) (λ l. AllByRecursion (Side l) cells)
reached {A} cmp pick atom Side lowest each cells = by (least cmp (filter_map pick cells)) refl
  where
    by : (o : Option A) → least cmp (filter_map pick cells) ≡ o → IfSome (option_map atom o) (λ l. AllByRecursion (Side l) cells)
    by None e = tt
    by (Some l) e =
        all_map (λ c. IfSome (pick c) (λ z. is_gt (cmp l z) ≡ false)) (Side (atom l)) (each l) cells
        (lifted pick (λ z. is_gt (cmp l z) ≡ false) cells ((lowest (filter_map pick cells) l).0 e).1)

-- ---- booleans
abbrev bits : List Cell → ℕ
bits cells = trues (filter_map bool_of cells)

bits_few : (cells : List Cell) → bits cells ≤ length (values cells)
bits_few [] = omega arith
bits_few (null ∷ cells) = bits_few cells
bits_few (leaf (bool true) ∷ cells) = let h = bits_few cells in omega arith
bits_few (leaf (bool false) ∷ cells) = let h = bits_few cells in omega arith
bits_few (leaf (int z) ∷ cells) = let h = bits_few cells in omega arith
bits_few (leaf (date z) ∷ cells) = let h = bits_few cells in omega arith
bits_few (leaf (text z) ∷ cells) = let h = bits_few cells in omega arith
bits_few (leaf (bytes z) ∷ cells) = let h = bits_few cells in omega arith
bits_few (list cs ∷ cells) = let h = bits_few cells in omega arith
bits_few (struct cs ∷ cells) = let h = bits_few cells in omega arith
bits_few (pairs ps ∷ cells) = let h = bits_few cells in omega arith

summed : (cells : List Cell) (n : ℕ) → reduce ◌+◌ (map bit (filter_map bool_of cells)) ≡ Some n → n ≡ bits cells
summed cells n e = by (filter_map bool_of cells) e
  where
    inside : (x y : ℕ) → Some x ≡ Some y → x ≡ y
    inside x y e = cc

    by : (bs : List Bool) → reduce ◌+◌ (map bit bs) ≡ Some n → n ≡ trues bs
    by [] f = cc
    by (b ∷ bs) f = inside n (trues (b ∷ bs)) (sym f ∙ true_counts b bs)

abbrev IsTrueBool : Cell → Type 0
IsTrueBool (leaf (bool false)) = ⊥
IsTrueBool _ = Unit {0}

abbrev IsFalseBool : Cell → Type 0
IsFalseBool (leaf (bool true)) = ⊥
IsFalseBool _ = Unit {0}

all_true : (cells : List Cell) → length (values cells) ≤ bits cells → AllByRecursion IsTrueBool cells
all_true [] h = tt
all_true (null ∷ cells) h = (tt, all_true cells h)
all_true (leaf (bool true) ∷ cells) h = (tt, all_true cells (omega arith))
all_true (leaf (bool false) ∷ cells) h = let k = bits_few cells in absurd (omega arith)
all_true (leaf (int z) ∷ cells) h = let k = bits_few cells in absurd (omega arith)
all_true (leaf (date z) ∷ cells) h = let k = bits_few cells in absurd (omega arith)
all_true (leaf (text z) ∷ cells) h = let k = bits_few cells in absurd (omega arith)
all_true (leaf (bytes z) ∷ cells) h = let k = bits_few cells in absurd (omega arith)
all_true (list cs ∷ cells) h = let k = bits_few cells in absurd (omega arith)
all_true (struct cs ∷ cells) h = let k = bits_few cells in absurd (omega arith)
all_true (pairs ps ∷ cells) h = let k = bits_few cells in absurd (omega arith)

all_false : (cells : List Cell) → bits cells ≡ 0 → AllByRecursion IsFalseBool cells
all_false [] h = tt
all_false (null ∷ cells) h = (tt, all_false cells h)
all_false (leaf (bool true) ∷ cells) h = absurd (omega arith)
all_false (leaf (bool false) ∷ cells) h = (tt, all_false cells h)
all_false (leaf (int z) ∷ cells) h = (tt, all_false cells h)
all_false (leaf (date z) ∷ cells) h = (tt, all_false cells h)
all_false (leaf (text z) ∷ cells) h = (tt, all_false cells h)
all_false (leaf (bytes z) ∷ cells) h = (tt, all_false cells h)
all_false (list cs ∷ cells) h = (tt, all_false cells h)
all_false (struct cs ∷ cells) h = (tt, all_false cells h)
all_false (pairs ps ∷ cells) h = (tt, all_false cells h)

above_false : (c : Cell) → Above (bool false) c
above_false (leaf (bool true)) = refl
above_false (leaf (bool false)) = refl
above_false c = tt

above_true : (c : Cell) → IsTrueBool c → Above (bool true) c
above_true (leaf (bool true)) h = refl
above_true (leaf (bool false)) h = absurd h
above_true c h = tt

below_true : (c : Cell) → Below (bool true) c
below_true (leaf (bool true)) = refl
below_true (leaf (bool false)) = refl
below_true c = tt

below_false : (c : Cell) → IsFalseBool c → Below (bool false) c
below_false (leaf (bool true)) h = absurd h
below_false (leaf (bool false)) h = refl
below_false c h = tt

bools_above : (cells : List Cell) → IfSome (option_map (λ n. bool (nat_le (length (values cells)) n)) (reduce ◌+◌ (map bit (filter_map bool_of cells)))) (λ l. AllByRecursion (Above l) cells)
bools_above cells = by (reduce ◌+◌ (map bit (filter_map bool_of cells))) refl
  where
    by_test : (n : ℕ) → n ≡ bits cells → (b : Bool) → nat_le (length (values cells)) n ≡ b → AllByRecursion (Above (bool b)) cells
    by_test n e true h = let k = leb-true (length (values cells)) n h in all_map IsTrueBool (Above (bool true)) above_true cells (all_true cells (omega arith))
    by_test n e false h = all_of (Above (bool false)) above_false cells

    by : (o : Option ℕ) → reduce ◌+◌ (map bit (filter_map bool_of cells)) ≡ o → IfSome (option_map (λ n. bool (nat_le (length (values cells)) n)) o) (λ l. AllByRecursion (Above l) cells)
    by None e = tt
    by (Some n) e = by_test n (summed cells n e) (nat_le (length (values cells)) n) refl

bools_below : (cells : List Cell) → IfSome (option_map (λ n. bool (nat_lt 0 n)) (reduce ◌+◌ (map bit (filter_map bool_of cells)))) (λ g. AllByRecursion (Below g) cells)
bools_below cells = by (reduce ◌+◌ (map bit (filter_map bool_of cells))) refl
  where
    by_count : (n : ℕ) → n ≡ bits cells → AllByRecursion (Below (bool (nat_lt 0 n))) cells
    by_count zero e = all_map IsFalseBool (Below (bool false)) below_false cells (all_false cells (sym e))
    by_count (suc n) e = subst (λ b. AllByRecursion (Below (bool b)) cells) (sym (some_value n)) (all_of (Below (bool true)) below_true cells)

    by : (o : Option ℕ) → reduce ◌+◌ (map bit (filter_map bool_of cells)) ≡ o → IfSome (option_map (λ n. bool (nat_lt 0 n)) o) (λ g. AllByRecursion (Below g) cells)
    by None e = tt
    by (Some n) e = by_count n (summed cells n e)

-- ---- all kinds
all_above : (k : StatKind) (cells : List Cell) → IfSome (least_in (length (values cells)) (values_body k cells)) (λ l. AllByRecursion (Above l) cells)
all_above kind.Plain cells = tt
all_above kind.Ints cells = reached int_cmp int_of int Above least_numbers above_int cells
all_above kind.Bools cells = bools_above cells
all_above kind.Dates cells = reached int_cmp date_of date Above least_numbers above_date cells
all_above kind.Texts cells = reached text_cmp text_of text Above least_texts above_text cells
all_above kind.Bins cells = tt
all_above kind.Children cells = tt

all_below : (k : StatKind) (cells : List Cell) → IfSome (greatest_in (values_body k cells)) (λ g. AllByRecursion (Below g) cells)
all_below kind.Plain cells = tt
all_below kind.Ints cells = reached (flip_args int_cmp) int_of int Below greatest_numbers below_int cells
all_below kind.Bools cells = bools_below cells
all_below kind.Dates cells = reached (flip_args int_cmp) date_of date Below greatest_numbers below_date cells
all_below kind.Texts cells = reached (flip_args text_cmp) text_of text Below greatest_texts below_text cells
all_below kind.Bins cells = tt
all_below kind.Children cells = tt

-- side by side
each_side : (Side : Atom → Cell → Type 0) (o : Option Atom) (cells : List Cell) → IfSome o (λ l. AllByRecursion (Side l) cells)
    → AllByRecursion (λ c. IfSome o (λ l. Side l c)) cells
each_side Side None cells h = all_of _ (λ c. tt) cells
each_side Side (Some l) cells h = h

leaf_low : (o : Option Atom) (v : Atom) → IfSome o (λ l. Above l (leaf v)) → IfSome o (λ l. IsUpTo l v)
leaf_low None v h = tt
leaf_low (Some l) v h = h

leaf_high : (o : Option Atom) (v : Atom) → IfSome o (λ g. Below g (leaf v)) → IfSome o (λ g. IsUpTo v g)
leaf_high None v h = tt
leaf_high (Some g) v h = h

admitted : (s : Stat) (seen : Bool) → s.nulls ≡ Some seen → (c : Cell)
    → ((is_value c ≡ false → seen ≡ true) × (is_value c ≡ true → has_values s ≡ true))
    × (IfSome (least_in s.count s.body) (λ l. Above l c) × IfSome (greatest_in s.body) (λ g. Below g c))
    → Admits s c
admitted s seen e null h = λ f. some_seen (h.0.0 refl) (sym e ∙ f)
  where
    some_seen : {b : Bool} → b ≡ true → Some b ≡ Some false → ⊥
    some_seen f g = cc
admitted s seen e (leaf v) h = (h.0.1 refl, leaf_low (least_in s.count s.body) v h.1.0, leaf_high (greatest_in s.body) v h.1.1)
admitted s seen e (list cs) h = h.0.1 refl
admitted s seen e (struct cs) h = h.0.1 refl
admitted s seen e (pairs ps) h = h.0.1 refl

own_admitted : (k : StatKind) (cells : List Cell) → AllByRecursion (Admits (stat k cells)) cells
own_admitted k cells =
    let s = stat k cells in
    all_map _ (Admits s) (admitted s (has_null cells) refl) cells
    (all_both _ _ cells
    (all_both _ _ cells (nulls_seen (has_null cells) cells (λ e. e)) (values_seen (has_values s) cells (λ e. e)))
    (all_both _ _ cells (each_side Above (least_in s.count s.body) cells (all_above k cells))
    (each_side Below (greatest_in s.body) cells (all_below k cells))))

pub alike_admits : (k : StatKind) (cells : List Cell) (s : Stat) → IsAlike s (stat k cells) → AllByRecursion (Admits s) cells
alike_admits k cells s e = all_map (Admits (stat k cells)) (Admits s) (admits_alike s (stat k cells) e) cells (own_admitted k cells)

-- ---- the bold rule takes it as it is
no_values : {A : Type 0} (cmp : A → A → Ordering) (xs : List A) (n : ℕ) → n ≡ length xs → (is_none (least cmp xs) || is_none (greatest cmp xs)) ≡ true → n ≡ 0
no_values cmp [] n e h = e
no_values cmp (x ∷ xs) n e h = cc

zero_count : (b : Bool) (n : ℕ) → (b ≡ true → n ≡ 0) → (if b then 0 else n) ≡ n
zero_count true n h = sym (h refl)
zero_count false n h = refl

count_kept : (k : StatKind) (cells : List Cell) → AllByRecursion (λ c. is_of k c ≡ true) cells
    → lacks_bound (values_body k cells) ≡ true → length (values cells) ≡ 0
count_kept kind.Plain cells h e = cc
count_kept kind.Ints cells h e = no_values int_cmp (filter_map int_of cells) (length (values cells)) (few_ints cells h) e
count_kept kind.Bools cells h e = cc
count_kept kind.Dates cells h e = no_values int_cmp (filter_map date_of cells) (length (values cells)) (few_dates cells h) e
count_kept kind.Texts cells h e = no_values text_cmp (filter_map text_of cells) (length (values cells)) (few_texts cells h) e
count_kept kind.Bins cells h e = cc
count_kept kind.Children cells h e = cc

known_null : (o : Option Bool) (b : Bool) → o ≡ Some b → Some (option_map_or (λ n. n) o false) ≡ o
known_null None b e = cc
known_null (Some n) b e = refl

pub alike_full : (k : StatKind) (cells : List Cell) (s : Stat) → AllByRecursion (λ c. is_of k c ≡ true) cells
    → IsAlike s (stat k cells) → taken_boldly s ≡ s
alike_full k cells s h e =
    let none : lacks_bound s.body ≡ true → s.count ≡ 0 = λ f. e.count ∙ count_kept k cells h (sym e.lacks ∙ f) in
    λ i. record {
      count = zero_count (lacks_bound s.body) s.count none i;
      nulls = known_null s.nulls (has_null cells) e.nulls i;
      body = s.body;
    }

-- ---- null, by the number of cells
few_values : (cells : List Cell) → length (values cells) ≤ length cells
few_values [] = omega arith
few_values (c ∷ cells) = by (is_value c) (few_values cells)
  where
    by : (b : Bool) → length (values cells) ≤ length cells → length (if b then c ∷ values cells else values cells) ≤ length (c ∷ cells)
    by true h = omega arith
    by false h = omega arith

same_test : (a b c d : ℕ) → (a ≡ b → c ≡ d) → (c ≡ d → a ≡ b) → (a == b) ≡ (c == d)
same_test a b c d f g = by (a == b) (c == d) refl refl
  where
    by : (x y : Bool) → (a == b) ≡ x → (c == d) ≡ y → x ≡ y
    by true true e h = refl
    by true false e h = absurd (eqb-false c d h (f (eqb-true a b e)))
    by false true e h = absurd (eqb-false a b e (g (eqb-true c d h)))
    by false false e h = refl

pub null_counted : (cells : List Cell) → has_null cells ≡ not (length cells == length (values cells))
null_counted [] = refl
null_counted (c ∷ cells) = by (is_value c) (null_counted cells)
  where
    by : (b : Bool) → has_null cells ≡ not (length cells == length (values cells))
        → (not b || has_null cells) ≡ not (suc (length cells) == length (if b then c ∷ values cells else values cells))
    by true h = h ∙ ap not (same_test (length cells) (length (values cells)) (suc (length cells)) (suc (length (values cells))) (λ e. omega arith) (λ e. omega arith))
    by false h = let few = few_values cells in ap not (sym (ne_eqb (suc (length cells)) (length (values cells)) (λ e. omega arith)))

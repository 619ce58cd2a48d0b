-- What tallies give: the parts of statistics.
use Rattle.std.proofs.Common.{◌≡◌, refl, sym, ◌∙◌, ap, arith, ℕ, ◌+◌, Bool, true, false, if◌then◌else◌, List, [], ◌∷◌, ◌++◌, length, map, filter, sum_by, Option, Some, None, zero-add}
use Rattle.std.proofs.lemmas.List.Sums.{sum_by-cons}
use Rattle.std.specs.List.{filter_map, cons_option}
use Rattle.std.specs.Option.{option_map, option_and_then}
use Rattle.orc_values.specs.Cells.{Cell, null, leaf, list, struct, pairs, values}
use Rattle.orc_stats.specs.declared.kind.StatKind.{StatKind}
use Rattle.orc_stats.specs.declared.stat.Stat.{Stat}
use Rattle.orc_stats.specs.declared.stat.Body.{Body}
use Rattle.orc_stats.specs.declared.seen.Seen.{Seen}
use Rattle.orc_stats.specs.declared.seen.Seen.TheVariants.{Nothing, Known, Unknown}
use Rattle.orc_stats.specs.Seen.{both, seen_of, known_of, value_seen}
use Rattle.orc_stats.specs.Orders.{IsOrderly, or_known_orderly}
use Rattle.orc_stats.specs.Statistics.{onto, reduce, values_body, has_null, stat}
use Rattle.orc_stats.specs.Joining.{parts_if_known, of_known, or_known, nulls_joined, bodies_joined, has_values, valued_bodies, joined}
use Rattle.orc_stats.specs.Tallies.{Joins, parts_together, Measure, Kept, none_kept, together, cell_kept, stat_kept, all_kept, cells_kept, stats_kept, stat_of_kept}
use Rattle.orc_stats.specs.Measures.{seen_joins, ◌and◌}

-- ---- tallies in any order and grouping
module _ {P : Type 0} (m : Measure P) where
  pub kept_is : {a c : ℕ} {n o : Option Bool} {p q : P} → a ≡ c → n ≡ o → p ≡ q
      → (let x : Kept P = record { count = a; nulls = n; parts = p } in
      let y : Kept P = record { count = c; nulls = o; parts = q } in x ≡ y)
  kept_is e f g = λ i. record { count = e i; nulls = f i; parts = g i }

  pub together_comm : (a b : Kept P) → together m a b ≡ together m b a
  together_comm a b = kept_is (omega arith) (or_known_orderly.comm a.nulls b.nulls) (m.joins.orderly.comm a.parts b.parts)

  pub together_assoc : (a b c : Kept P) → together m (together m a b) c ≡ together m a (together m b c)
  together_assoc a b c = kept_is (omega arith) (or_known_orderly.assoc a.nulls b.nulls c.nulls) (m.joins.orderly.assoc a.parts b.parts c.parts)

  pub together_none : (a : Kept P) → together m (none_kept m) a ≡ a
  together_none a = kept_is (omega arith) refl (m.joins.unit a.parts)

  pub none_together : (a : Kept P) → together m a (none_kept m) ≡ a
  none_together a = together_comm a (none_kept m) ∙ together_none a

  -- null adds only that there is a null
  pub null_added : (n : ℕ) (o r : Option Bool) (p : P) (c : Cell) → c ≡ null → r ≡ or_known o (Some true)
      → (let x : Kept P = record { count = n; nulls = r; parts = p } in
      let y : Kept P = record { count = n; nulls = o; parts = p } in x ≡ together m y (cell_kept m c))
  null_added n o r p c e f =
      kept_is (rw e (omega arith)) (rw e f) (rw e (sym (ap (m.joins.join p) m.of_null ∙ m.joins.orderly.comm p m.joins.none ∙ m.joins.unit p)))

  pub all_kept-append : (xs ys : List (Kept P)) → all_kept m (xs ++ ys) ≡ together m (all_kept m xs) (all_kept m ys)
  all_kept-append [] ys = sym (together_none (all_kept m ys))
  all_kept-append (x ∷ xs) ys = ap (together m x) (all_kept-append xs ys) ∙ sym (together_assoc x (all_kept m xs) (all_kept m ys))

  pub cells_kept-append : (a b : List Cell) → cells_kept m (a ++ b) ≡ together m (cells_kept m a) (cells_kept m b)
  cells_kept-append [] b = sym (together_none (cells_kept m b))
  cells_kept-append (c ∷ a) b = ap (together m (cell_kept m c)) (cells_kept-append a b) ∙ sym (together_assoc (cell_kept m c) (cells_kept m a) (cells_kept m b))

  pub stats_kept-append : (a b : List Stat) → stats_kept m (a ++ b) ≡ together m (stats_kept m a) (stats_kept m b)
  stats_kept-append [] b = sym (together_none (stats_kept m b))
  stats_kept-append (s ∷ a) b = ap (together m (stat_kept m s)) (stats_kept-append a b) ∙ sym (together_assoc (stat_kept m s) (stats_kept m a) (stats_kept m b))

  -- the parts of the tally of cells
  pub cells_kept_parts : (cells : List Cell) → (cells_kept m cells).parts ≡ parts_together m.joins (map m.of_cell cells)
  cells_kept_parts [] = refl
  cells_kept_parts (c ∷ cells) = ap (m.joins.join (m.of_cell c)) (cells_kept_parts cells)

  pub cells_kept_nulls : (cells : List Cell) → (cells_kept m cells).nulls ≡ Some (has_null cells)
  cells_kept_nulls [] = refl
  cells_kept_nulls (null ∷ cells) = refl
  cells_kept_nulls (leaf a ∷ cells) = cells_kept_nulls cells
  cells_kept_nulls (list cs ∷ cells) = cells_kept_nulls cells
  cells_kept_nulls (struct cs ∷ cells) = cells_kept_nulls cells
  cells_kept_nulls (pairs ps ∷ cells) = cells_kept_nulls cells

  pub cells_kept_count : (cells : List Cell) → (cells_kept m cells).count ≡ length (values cells)
  cells_kept_count [] = refl
  cells_kept_count (null ∷ cells) = zero-add _ ∙ cells_kept_count cells
  cells_kept_count (leaf a ∷ cells) = let e = cells_kept_count cells in omega arith
  cells_kept_count (list cs ∷ cells) = let e = cells_kept_count cells in omega arith
  cells_kept_count (struct cs ∷ cells) = let e = cells_kept_count cells in omega arith
  cells_kept_count (pairs ps ∷ cells) = let e = cells_kept_count cells in omega arith

  pub stat_is : {a c : ℕ} {n o : Option Bool} {p q : Body} → a ≡ c → n ≡ o → p ≡ q
      → (let x : Stat = record { count = a; nulls = n; body = p } in
      let y : Stat = record { count = c; nulls = o; body = q } in x ≡ y)
  stat_is e f g = λ i. record { count = e i; nulls = f i; body = g i }

  -- the tally of cells gives their statistic, if it gives its body
  pub stat_of_kept_cells : (k : StatKind) (cells : List Cell)
      → m.body (parts_together m.joins (map m.of_cell cells)) ≡ values_body k cells → stat_of_kept m (cells_kept m cells) ≡ stat k cells
  stat_of_kept_cells k cells e = stat_is (cells_kept_count cells) (cells_kept_nulls cells) (ap m.body (cells_kept_parts cells) ∙ e)

  pub stats_kept_count : (ss : List Stat) → (stats_kept m ss).count ≡ sum_by (λ s. s.count) ss
  stats_kept_count [] = refl
  stats_kept_count (s ∷ ss) = ap (λ n. s.count + n) (stats_kept_count ss) ∙ sym (sum_by-cons (λ t. t.count) s ss)

  pub stats_kept_nulls : (ss : List Stat) → (stats_kept m ss).nulls ≡ nulls_joined (map (λ s. s.nulls) ss)
  stats_kept_nulls [] = refl
  stats_kept_nulls (s ∷ ss) = ap (or_known s.nulls) (stats_kept_nulls ss)

  stats_kept_more : (b : Bool) (o : Body) (p : P) (bs : List Body) → p ≡ parts_together m.joins (map m.of_body bs)
      → m.joins.join (if b then m.of_body o else m.joins.none) p
      ≡ parts_together m.joins (map m.of_body (if b then o ∷ bs else bs))
  stats_kept_more true o p bs e = ap (m.joins.join (m.of_body o)) e
  stats_kept_more false o p bs e = m.joins.unit p ∙ e

  with_values : (b : Bool) (s : Stat) (ss : List Stat)
      → map (λ t. t.body) (if b then s ∷ ss else ss)
      ≡ (if b then s.body ∷ map (λ t. t.body) ss else map (λ t. t.body) ss)
  with_values true s ss = refl
  with_values false s ss = refl

  stats_kept_parts : (ss : List Stat) → (stats_kept m ss).parts ≡ parts_together m.joins (map m.of_body (valued_bodies ss))
  stats_kept_parts [] = refl
  stats_kept_parts (s ∷ ss) =
      stats_kept_more (has_values s) s.body (stats_kept m ss).parts (map (λ t. t.body) (filter has_values ss)) (stats_kept_parts ss)
      ∙ ap (λ bs. parts_together m.joins (map m.of_body bs)) (sym (with_values (has_values s) s (filter has_values ss)))

  -- the tally of statistics gives what they join to, if it gives its body
  pub stat_of_kept_stats : (k : StatKind) (ss : List Stat)
      → ((bs : List Body) → m.body (parts_together m.joins (map m.of_body bs)) ≡ bodies_joined k bs)
      → stat_of_kept m (stats_kept m ss) ≡ joined k ss
  stat_of_kept_stats k ss e = stat_is (stats_kept_count ss) (stats_kept_nulls ss) (ap m.body (stats_kept_parts ss) ∙ e (valued_bodies ss))

-- ---- one part, joined by one operation
module _ {A : Type 0} (op : A → A → A) (o : IsOrderly op) where
  pub value_onto : (x : A) (r : Option A) → both op (Known x) (value_seen r) ≡ Known (onto op x r)
  value_onto x None = refl
  value_onto x (Some y) = refl

  value_more : (v : Option A) (vs : List A)
      → both op (value_seen v) (value_seen (reduce op vs)) ≡ value_seen (reduce op (cons_option v vs))
  value_more None vs = refl
  value_more (Some x) vs = value_onto x (reduce op vs)

  pub seen_values : {X : Type 0} (pick : X → Option A) (xs : List X)
      → parts_together (seen_joins op o) (map (λ x. value_seen (pick x)) xs) ≡ value_seen (reduce op (filter_map pick xs))
  seen_values pick [] = refl
  seen_values pick (x ∷ xs) = ap (both op (value_seen (pick x))) (seen_values pick xs) ∙ value_more (pick x) (filter_map pick xs)

  -- what was seen of parts that are all known, or unknown
  pub parts_seen : Option (List A) → Seen A
  parts_seen None = Unknown
  parts_seen (Some xs) = value_seen (reduce op xs)

  pub unknown_stays : (q : Seen A) → both op Unknown q ≡ Unknown
  unknown_stays Nothing = refl
  unknown_stays (Known y) = refl
  unknown_stays Unknown = refl

  parts_onto : (x : A) (p : Option (List A))
      → both op (Known x) (parts_seen p) ≡ parts_seen (option_map (λ xs. x ∷ xs) p)
  unfolding parts_seen
  parts_onto x None = refl
  parts_onto x (Some xs) = value_onto x (reduce op xs)

  parts_more : (p : Option A) (ps : List (Option A))
      → both op (seen_of p) (parts_seen (parts_if_known ps)) ≡ parts_seen (parts_if_known (p ∷ ps))
  unfolding parts_seen
  parts_more None ps = unknown_stays (parts_seen (parts_if_known ps))
  parts_more (Some x) ps = parts_onto x (parts_if_known ps)

  pub seen_parts : {X : Type 0} (part : X → Option A) (xs : List X)
      → parts_together (seen_joins op o) (map (λ x. seen_of (part x)) xs) ≡ parts_seen (parts_if_known (map part xs))
  unfolding parts_seen
  seen_parts part [] = refl
  seen_parts part (x ∷ xs) = ap (both op (seen_of (part x))) (seen_parts part xs) ∙ parts_more (part x) (map part xs)

  pub known_value : (r : Option A) → known_of (value_seen r) ≡ r
  known_value None = refl
  known_value (Some x) = refl

  -- what is known of parts, with a function of what was combined
  pub known_parts : {B : Type 0} (f : A → Option B) (p : Option (List A))
      → option_and_then f (known_of (parts_seen p)) ≡ option_and_then (λ xs. option_and_then f (reduce op xs)) p
  unfolding parts_seen
  known_parts f None = refl
  known_parts f (Some xs) = ap (option_and_then f) (known_value (reduce op xs))

  pub known_reduced : (p : Option (List A)) → known_of (parts_seen p) ≡ option_and_then (reduce op) p
  unfolding parts_seen
  known_reduced None = refl
  known_reduced (Some xs) = known_value (reduce op xs)

  pub known_values : {X : Type 0} (pick : X → Option A) (xs : List X)
      → known_of (parts_together (seen_joins op o) (map (λ x. value_seen (pick x)) xs)) ≡ reduce op (filter_map pick xs)
  known_values pick xs = ap known_of (seen_values pick xs) ∙ known_value (reduce op (filter_map pick xs))

  pub known_all : {X : Type 0} (part : X → Option A) (xs : List X)
      → known_of (parts_together (seen_joins op o) (map (λ x. seen_of (part x)) xs)) ≡ of_known (reduce op) (map part xs)
  known_all part xs = ap known_of (seen_parts part xs) ∙ known_reduced (parts_if_known (map part xs))

  pub known_all_in : (f : A → Option A) {X : Type 0} (part : X → Option A) (xs : List X)
      → option_and_then f (known_of (parts_together (seen_joins op o) (map (λ x. seen_of (part x)) xs)))
      ≡ of_known (λ ys. option_and_then f (reduce op ys)) (map part xs)
  known_all_in f part xs = ap (λ s. option_and_then f (known_of s)) (seen_parts part xs) ∙ known_parts f (parts_if_known (map part xs))

-- ---- parts side by side
module _ {P Q X : Type 0} (a : Joins P) (b : Joins Q) (f : X → P) (g : X → Q) where
  pub all-and : (xs : List X) → parts_together (a and b) (map (λ x. (f x, g x)) xs) ≡ (parts_together a (map f xs), parts_together b (map g xs))
  all-and [] = refl
  all-and (x ∷ xs) = ap (λ p. (a.join (f x) p.0, b.join (g x) p.1)) (all-and xs)

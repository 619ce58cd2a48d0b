-- What is counted of the values of each kind of column (ORC specification, "Column Statistics").
use Rattle.std.specs.Prelude.{refl, ◌+◌, ℕ, ℤ, ◌+ℤ◌, pos, List, length}
use Rattle.std.specs.Option.{option_map, option_and_then}
use Rattle.std.specs.Ordering.{int_cmp, nat_cmp, flip_args}
use Rattle.orc_stats.specs.declared.stat.Body.TheVariants as body
use Rattle.orc_stats.specs.declared.seen.Seen.{Seen}
use Rattle.orc_stats.specs.declared.seen.Seen.TheVariants.{Nothing}
use Rattle.orc_stats.specs.Statistics.{lower, text_cmp, in_64, in_u64, bit, int_of, date_of, bool_of, text_of, bytes_of, children_of}
use Rattle.orc_stats.specs.Joining.{in_limit, least_int, greatest_int, least_date, greatest_date, least_text, greatest_text, trues_of, sum_of, least_children, greatest_children, total_children}
use Rattle.orc_stats.specs.Seen.{both, seen_of, known_of, value_seen}
use Rattle.orc_stats.specs.Orders.{both_orderly, pairs_orderly, pair_is, int_sums, nat_sums, lower_ints, higher_ints, lower_texts, higher_texts, lower_nats, higher_nats, IsOrderly}
use Rattle.orc_stats.specs.Tallies.{Joins, Measure}

-- how two seen parts join, by the operation on two known ones
abbrev pub seen_joins : {A : Type 0} (op : A → A → A) → IsOrderly op → Joins (Seen A)
seen_joins op o = record { none = Nothing; join = both op; unit = λ p. refl; orderly = both_orderly op o }

-- the least integer of both
abbrev pub least_ints : Joins (Seen ℤ)
least_ints = seen_joins (lower int_cmp) lower_ints

-- the greatest integer of both
abbrev pub greatest_ints : Joins (Seen ℤ)
greatest_ints = seen_joins (lower (flip_args int_cmp)) higher_ints

-- the least text of both
abbrev pub least_texts : Joins (Seen (List ℕ))
least_texts = seen_joins (lower text_cmp) lower_texts

-- the greatest text of both
abbrev pub greatest_texts : Joins (Seen (List ℕ))
greatest_texts = seen_joins (lower (flip_args text_cmp)) higher_texts

-- the least number of both
abbrev pub least_nats : Joins (Seen ℕ)
least_nats = seen_joins (lower nat_cmp) lower_nats

-- the greatest number of both
abbrev pub greatest_nats : Joins (Seen ℕ)
greatest_nats = seen_joins (lower (flip_args nat_cmp)) higher_nats

-- the sum of integers of both
abbrev pub int_totals : Joins (Seen ℤ)
int_totals = seen_joins ◌+ℤ◌ int_sums

-- the sum of numbers of both
abbrev pub nat_totals : Joins (Seen ℕ)
nat_totals = seen_joins ◌+◌ nat_sums

infixr 5 ◌and◌
-- two measures kept side by side
abbrev pub ◌and◌ : {P Q : Type 0} → Joins P → Joins Q → Joins (P × Q)
a and b = record {
  none = (a.none, b.none);
  join = λ p q. (a.join p.0 q.0, b.join p.1 q.1);
  unit = λ p. pair_is (a.unit p.0) (b.unit p.1);
  orderly = pairs_orderly a.orderly b.orderly;
}

-- BYTE, SHORT, INT and LONG: the least, the greatest and the sum
abbrev pub ints : Measure (Seen ℤ × (Seen ℤ × Seen ℤ))
ints = record {
  joins = least_ints and greatest_ints and int_totals;
  of_cell = λ c. (value_seen (int_of c), (value_seen (int_of c), value_seen (int_of c)));
  of_null = refl;
  of_body = λ b. (seen_of (least_int b), (seen_of (greatest_int b), seen_of (sum_of b)));
  body = λ p. body.Ints (known_of p.0) (known_of p.1.0) (option_and_then in_64 (known_of p.1.1));
}

-- DATE: the least and the greatest
abbrev pub dates : Measure (Seen ℤ × Seen ℤ)
dates = record {
  joins = least_ints and greatest_ints;
  of_cell = λ c. (value_seen (date_of c), value_seen (date_of c));
  of_null = refl;
  of_body = λ b. (seen_of (least_date b), seen_of (greatest_date b));
  body = λ p. body.Dates (known_of p.0) (known_of p.1);
}

-- STRING: the least, the greatest and the sum of the lengths
abbrev pub texts : Measure (Seen (List ℕ) × (Seen (List ℕ) × Seen ℤ))
texts = record {
  joins = least_texts and greatest_texts and int_totals;
  of_cell = λ c.
      (value_seen (text_of c), (value_seen (text_of c), value_seen (option_map (λ t. pos (length t)) (text_of c))));
  of_null = refl;
  of_body = λ b. (seen_of (least_text b), (seen_of (greatest_text b), seen_of (sum_of b)));
  body = λ p. body.Texts (known_of p.0) (known_of p.1.0) (option_and_then in_64 (known_of p.1.1));
}

-- BOOLEAN: how many are true
abbrev pub bools : Measure (Seen ℕ)
bools = record {
  joins = nat_totals;
  of_cell = λ c. value_seen (option_map bit (bool_of c));
  of_null = refl;
  of_body = λ b. seen_of (trues_of b);
  body = λ p. body.Bools (option_and_then in_limit (known_of p));
}

-- BINARY: the sum of the lengths
abbrev pub bins : Measure (Seen ℤ)
bins = record {
  joins = int_totals;
  of_cell = λ c. value_seen (option_map (λ s. pos (length s)) (bytes_of c));
  of_null = refl;
  of_body = λ b. seen_of (sum_of b);
  body = λ p. body.Bins (option_and_then in_64 (known_of p));
}

-- LIST and MAP: the least, the greatest and the total of the numbers of children
abbrev pub child_numbers : Measure (Seen ℕ × (Seen ℕ × Seen ℕ))
child_numbers = record {
  joins = least_nats and greatest_nats and nat_totals;
  of_cell = λ c. (value_seen (children_of c), (value_seen (children_of c), value_seen (children_of c)));
  of_null = refl;
  of_body = λ b. (seen_of (least_children b), (seen_of (greatest_children b), seen_of (total_children b)));
  body = λ p. body.Children (known_of p.0) (known_of p.1.0) (option_and_then in_u64 (known_of p.1.1));
}

-- STRUCT: only what every column has
abbrev pub no_measure : Measure (Unit {0})
no_measure = record {
  joins = record {
    none = tt;
    join = λ p q. tt;
    unit = λ p. refl;
    orderly = record { comm = λ p q. refl; assoc = λ p q r. refl };
  };
  of_cell = λ c. tt;
  of_null = refl;
  of_body = λ b. tt;
  body = λ p. body.Plain;
}

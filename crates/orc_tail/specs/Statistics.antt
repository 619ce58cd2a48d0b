-- Statistics of columns, as a tail has them (ORC specification, "Column Statistics", "File Tail"): one per column, in
-- the order of the columns, each of its column's kind.
use Rattle.std.specs.Prelude.{ℕ, ◌+◌, ◌≤◌, nat_le, Bool, true, ◌&&◌, ◌||◌, ◌==◌, if◌then◌else◌, Option, Some, None, List, [], ◌∷◌, length, map, zero, suc, take, drop}
use Rattle.std.specs.List.{flat_map}
use Rattle.orc_wire.specs.declared.column_stats.ColumnStats.{ColumnStats}
use Rattle.orc_wire.specs.declared.column_stats.StripeStatistics.{StripeStatistics}
use Rattle.orc_values.specs.declared.kind.Scalar.{Scalar}
use Rattle.orc_values.specs.Kinds.{scalar_of, list_number, map_number}
use Rattle.orc_values.specs.Shapes.{Shape, width, shape_at}
use Rattle.orc_stats.specs.declared.kind.StatKind.{StatKind}
use Rattle.orc_stats.specs.declared.stat.Stat.{Stat}
use Rattle.orc_stats.specs.declared.kind.StatKind.TheVariants as kind
use Rattle.orc_stats.specs.Kinds.{kind_of, kind_of_scalar}
use Rattle.orc_stats.specs.Messages.{stat_read, message_of, IsStat}
use Rattle.orc_stats.specs.Joining.{joined}

-- the kind of statistics of a type: of a type without children by its kind; of the others only LIST and MAP count
-- something
abbrev pub kind_of_scalars : ℕ → Option Scalar → StatKind
kind_of_scalars n None = if (n == list_number) || (n == map_number) then kind.Children else kind.Plain
kind_of_scalars n (Some k) = kind_of_scalar k

-- the kind of statistics of a column whose type has this number
abbrev pub kind_of_number : ℕ → StatKind
kind_of_number n = kind_of_scalars n (scalar_of n)

-- the kind of statistics of a column
abbrev pub kind_at : Shape → ℕ → StatKind
kind_at s column = kind_of (shape_at s column)

-- the statistics that messages give the columns from this one on
abbrev pub stats_read : Shape → ℕ → List ColumnStats → List Stat
stats_read s column [] = []
stats_read s column (m ∷ ms) = stat_read (kind_at s column) m ∷ stats_read s (column + 1) ms

-- no stripe has statistics of more than `columns` columns
abbrev pub have_few : ℕ → List StripeStatistics → Bool
have_few columns [] = true
have_few columns (m ∷ ms) = nat_le (length m.col_stats) columns && have_few columns ms

-- the statistics that messages give the columns of each stripe
abbrev pub stripe_stats_read : Shape → List StripeStatistics → List (List Stat)
stripe_stats_read s ms = map (λ m. stats_read s 0 m.col_stats) ms

-- each is a statistic of its column; the first one belongs to this column
abbrev pub AreOfColumns : Shape → ℕ → List Stat → Type 0
AreOfColumns s column [] = Unit {0}
AreOfColumns s column (x ∷ xs) = IsStat (kind_at s column) x × AreOfColumns s (column + 1) xs

-- statistics of a schema's columns, at most one for each; the first one belongs to the root
pub record AreStats (s : Shape) (stats : List Stat) : Type 0 where
  pub few : length stats ≤ width s
  pub kinds : AreOfColumns s 0 stats

-- a stripe's statistics as a message
abbrev pub stripe_message : List Stat → StripeStatistics
stripe_message stats = record { col_stats = map message_of stats }

-- what f gives for n columns, from column c on
abbrev pub of_columns : (ℕ → Stat) → ℕ → ℕ → List Stat
of_columns f c zero = []
of_columns f c (suc n) = f c ∷ of_columns f (suc c) n

-- the statistics of a column from each stripe that has one
abbrev pub column_stats : ℕ → List (List Stat) → List Stat
column_stats c stats = flat_map (λ (xs : List Stat). take 1 (drop c xs)) stats

-- the statistics of the file's columns, each joined from those of the stripes
abbrev pub file_stats : Shape → List (List Stat) → List Stat
file_stats s stats = of_columns (λ c. joined (kind_at s c) (column_stats c stats)) 0 (width s)

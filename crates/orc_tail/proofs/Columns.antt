-- What is counted of a schema's columns, by the list of types and by the tree; and the columns'
-- statistics, one after the other.
use Rattle.std.proofs.Common.{◌≡◌, ℕ, zero, suc, ◌+◌, ◌-◌, ◌<◌, ◌≤◌, List, [], ◌∷◌, ◌++◌, length, get_or, map, drop, Bool, true, false, ltb, ◌&&◌, refl, sym, ap, ◌∙◌, arith, add-one, drop-cons, append_assoc, inl, inr, nat_le}
use Rattle.std.specs.List.{list_all}
use Rattle.std.proofs.lemmas.Bool.{lt-ltb, le-ltb, cases_lt, and_parts}
use Rattle.std.proofs.lemmas.Bool.Decides.{nat_tests}
use Rattle.std.proofs.lemmas.List.{get_or_append_left, get_or-append_right}
use Rattle.orc_wire.specs.declared.type_msg.TypeMsg.{TypeMsg}
use Rattle.orc_wire.specs.declared.column_stats.ColumnStats.{ColumnStats}
use Rattle.orc_wire.specs.declared.column_stats.StripeStatistics.{StripeStatistics}
use Rattle.orc_values.specs.declared.kind.Scalar.{Scalar}
use Rattle.orc_values.specs.declared.kind.Scalar.TheVariants as scalar_kind
use Rattle.orc_values.specs.Kinds.{number}
use Rattle.orc_values.specs.Shapes.{Shape, scalar, list_of, map_of, struct_of, Fields, no_field, field, width, widths, shape_at, shape_within}
use Rattle.orc_wire.specs.Types.{types, fields_types}
use Rattle.orc_types.proofs.Trees.{length-types}
use Rattle.orc_stats.specs.declared.stat.Stat.{Stat}
use Rattle.orc_stats.specs.declared.kind.StatKind.{StatKind}
use Rattle.orc_stats.specs.Kinds.{kind_of, kind_of_scalar}
use Rattle.orc_stats.specs.Messages.{stat_read, in_limits}
use Rattle.orc_tail.specs.Statistics.{kind_of_number, kind_at, stats_read, have_few}

number_kind : (k : Scalar) → kind_of_number (number k) ≡ kind_of_scalar k
number_kind scalar_kind.Boolean = refl
number_kind scalar_kind.Byte = refl
number_kind scalar_kind.Short = refl
number_kind scalar_kind.Int = refl
number_kind scalar_kind.Long = refl
number_kind scalar_kind.String = refl
number_kind scalar_kind.Binary = refl
number_kind scalar_kind.Date = refl

mutual
  pub type_kind : (s : Shape) (n c : ℕ) (d : TypeMsg) → c < width s → kind_of_number (get_or (types s n) c d).kind ≡ kind_of (shape_at s c)
  type_kind (scalar k o) n zero d lt = number_kind k
  type_kind (scalar k o) n (suc c) d lt = absurd (omega (arith, lt))
  type_kind (list_of s o) n zero d lt = refl
  type_kind (list_of s o) n (suc c) d lt = type_kind s (n + 1) c d (omega (arith, lt))
  type_kind (map_of k v o) n zero d lt = refl
  type_kind (map_of k v o) n (suc c) d lt = elim (cases_lt c (width k)) [
    | inl less ↦
        let t : ltb c (width k) ≡ true = lt-ltb _ _ less in
        rw (t, get_or_append_left (types k (n + 1)) (types v (n + 1 + width k)) d c (omega (arith, less, length-types k (n + 1)))) (type_kind k (n + 1) c d less)
    | inr least ↦
        let t : ltb c (width k) ≡ false = le-ltb _ _ least in
        rw (t, get_or-append_right (types k (n + 1)) (types v (n + 1 + width k)) (width k) c d (length-types k (n + 1)) least) (type_kind v (n + 1 + width k) (c - width k) d (omega (arith, least, lt)))
  ]
  type_kind (struct_of fs o) n zero d lt = refl
  type_kind (struct_of fs o) n (suc c) d lt = fields_kind fs (n + 1) c d (omega (arith, lt))

  fields_kind : (fs : Fields) (n c : ℕ) (d : TypeMsg) → c < widths fs → kind_of_number (get_or (fields_types fs n) c d).kind ≡ kind_of (shape_within fs c)
  fields_kind no_field n c d lt = absurd (omega (arith, lt))
  fields_kind (field name s fs) n c d lt = elim (cases_lt c (width s)) [
    | inl less ↦
        let t : ltb c (width s) ≡ true = lt-ltb _ _ less in
        rw (t, get_or_append_left (types s n) (fields_types fs (n + width s)) d c (omega (arith, less, length-types s n))) (type_kind s n c d less)
    | inr least ↦
        let t : ltb c (width s) ≡ false = le-ltb _ _ least in
        rw (t, get_or-append_right (types s n) (fields_types fs (n + width s)) (width s) c d (length-types s n) least) (fields_kind fs (n + width s) (c - width s) d (omega (arith, least, lt)))
  ]

-- a column's kind, by its type
pub column_kind : (s : Shape) (ts : List TypeMsg) (i : ℕ) (t : TypeMsg) (k : StatKind) → ts ≡ types s 0 → i < width s → k ≡ kind_of_number t.kind → t ≡ get_or ts i t → k ≡ kind_at s i
column_kind s ts i t k are lt kind is =
    kind
    ∙ ap (λ (x : TypeMsg). kind_of_number x.kind) is
    ∙ ap (λ (xs : List TypeMsg). kind_of_number (get_or xs i t).kind) are
    ∙ type_kind s 0 i t lt

-- ---- the columns' statistics

module _ (s : Shape) (ms : List ColumnStats) (i : ℕ) (m : ColumnStats) (lt : i < length ms) (is : m ≡ get_or ms i m) where
  left : drop i ms ≡ m ∷ drop (i + 1) ms
  left = rw add-one (drop-cons ms i m lt ∙ ap (λ (x : ColumnStats). x ∷ drop (suc i) ms) (sym is))

  pub stats_next : (old new : List Stat) (whole : List Stat) → new ≡ old ++ stat_read (kind_at s i) m ∷ [] → old ++ stats_read s i (drop i ms) ≡ whole
      → new ++ stats_read s (i + 1) (drop (i + 1) ms) ≡ whole
  stats_next old new whole e h =
      ap (λ (t : List Stat). t ++ stats_read s (i + 1) (drop (i + 1) ms)) e
      ∙ append_assoc old (stat_read (kind_at s i) m ∷ []) (stats_read s (i + 1) (drop (i + 1) ms))
      ∙ ap (λ (t : List ColumnStats). old ++ stats_read s i t) (sym left)
      ∙ h

  pub limits_next : (b : Bool) → in_limits (stat_read (kind_at s i) m) ≡ true → list_all in_limits (stats_read s i (drop i ms)) ≡ b
      → list_all in_limits (stats_read s (i + 1) (drop (i + 1) ms)) ≡ b
  limits_next b good h =
      ap (λ (t : Bool). t && list_all in_limits (stats_read s (i + 1) (drop (i + 1) ms))) (sym good)
      ∙ ap (λ (t : List ColumnStats). list_all in_limits (stats_read s i t)) (sym left)
      ∙ h

  pub limits_fail : (b : Bool) → in_limits (stat_read (kind_at s i) m) ≡ false → list_all in_limits (stats_read s i (drop i ms)) ≡ b → b ≡ false
  limits_fail b bad h =
      sym h
      ∙ ap (λ (t : List ColumnStats). list_all in_limits (stats_read s i t)) left
      ∙ ap (λ (t : Bool). t && list_all in_limits (stats_read s (i + 1) (drop (i + 1) ms))) bad

-- ---- those of the stripes

module _ {X Y : Type 0} (f : X → Y) (xs : List X) (i : ℕ) (x : X) (lt : i < length xs) (is : x ≡ get_or xs i x) where
  pub rest_is : drop i xs ≡ x ∷ drop (i + 1) xs
  rest_is = rw add-one (drop-cons xs i x lt ∙ ap (λ (y : X). y ∷ drop (suc i) xs) (sym is))

  pub map_next : (old new whole : List Y) → new ≡ old ++ f x ∷ [] → old ++ map f (drop i xs) ≡ whole → new ++ map f (drop (i + 1) xs) ≡ whole
  map_next old new whole e h =
      ap (λ (t : List Y). t ++ map f (drop (i + 1) xs)) e
      ∙ append_assoc old (f x ∷ []) (map f (drop (i + 1) xs))
      ∙ ap (λ (t : List X). old ++ map f t) (sym rest_is)
      ∙ h

  pub all_next : (test : Y → Bool) (b : Bool) → test (f x) ≡ true → list_all test (map f (drop i xs)) ≡ b → list_all test (map f (drop (i + 1) xs)) ≡ b
  all_next test b good h =
      ap (λ (t : Bool). t && list_all test (map f (drop (i + 1) xs))) (sym good)
      ∙ ap (λ (t : List X). list_all test (map f t)) (sym rest_is)
      ∙ h

  pub all_fail : (test : Y → Bool) (b : Bool) → test (f x) ≡ false → list_all test (map f (drop i xs)) ≡ b → b ≡ false
  all_fail test b bad h =
      sym h
      ∙ ap (λ (t : List X). list_all test (map f t)) rest_is
      ∙ ap (λ (t : Bool). t && list_all test (map f (drop (i + 1) xs))) bad

pub le_is : (m n : ℕ) → nat_le m n ≡ true → m ≤ n
le_is m n e = grind (arith, nat_tests)

-- the next stripe has few, and so have the others
pub few_next : (n : ℕ) (ms : List StripeStatistics) (i : ℕ) (m : StripeStatistics) → i < length ms → m ≡ get_or ms i m → have_few n (drop i ms) ≡ true
    → (length m.col_stats ≤ n) × (have_few n (drop (i + 1) ms) ≡ true)
few_next n ms i m lt is h =
    let e = and_parts (nat_le (length m.col_stats) n) (have_few n (drop (i + 1) ms)) (sym (ap (have_few n) (rest_is (λ (x : StripeStatistics). x) ms i m lt is)) ∙ h) in
    (le_is (length m.col_stats) n e.0, e.1)

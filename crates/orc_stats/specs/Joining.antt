-- The statistic that several statistics join to (this project's: unknown parts, and the limit of true values).
use Rattle.std.specs.Prelude.{ℕ, ◌+◌, ◌^◌, nat_lt, nat_le, ℤ, Bool, true, false, if◌then◌else◌, List, [], ◌∷◌, map, filter, sum_by, Option, Some, None}
use Rattle.std.specs.Option.{option_map, option_and_then}
use Rattle.std.specs.Ordering.{int_cmp, nat_cmp}
use Rattle.orc_stats.specs.declared.kind.StatKind.{StatKind}
use Rattle.orc_stats.specs.declared.kind.StatKind.TheVariants as kind
use Rattle.orc_stats.specs.declared.stat.Stat.{Stat}
use Rattle.orc_stats.specs.declared.stat.Body.{Body}
use Rattle.orc_stats.specs.declared.stat.Body.TheVariants as body
use Rattle.orc_stats.specs.Statistics.{reduce, least, greatest, text_cmp, total, children_total}

-- all the parts, if each is known
abbrev pub parts_if_known : {A : Type 0} → List (Option A) → Option (List A)
parts_if_known [] = Some []
parts_if_known (p ∷ ps) = option_and_then (λ x. option_map (λ xs. x ∷ xs) (parts_if_known ps)) p

-- what a function gives for the parts, if each is known
abbrev pub of_known : {A : Type 0} → (List A → Option A) → List (Option A) → Option A
of_known f ps = option_and_then f (parts_if_known ps)

-- true if one is true, else unknown if one is unknown, else false
abbrev pub or_known : Option Bool → Option Bool → Option Bool
or_known (Some true) b = Some true
or_known (Some false) b = b
or_known None (Some true) = Some true
or_known None (Some false) = None
or_known None None = None

-- whether any of the parts has a null: unknown if none is known to have one and it is unknown for one of them
abbrev pub nulls_joined : List (Option Bool) → Option Bool
nulls_joined [] = Some false
nulls_joined (n ∷ ns) = or_known n (nulls_joined ns)

-- a number of true values, if it is within the limit
abbrev pub in_limit : ℕ → Option ℕ
in_limit n = if nat_le n (2 ^ 62) then Some n else None

-- the sum of the numbers of true values, if it is within the limit
abbrev pub trues_total : List ℕ → Option ℕ
trues_total ns = option_and_then in_limit (reduce ◌+◌ ns)

-- the least integer, if a body knows it
abbrev pub least_int : Body → Option ℤ
least_int (body.Ints l g s) = l
least_int _ = None

-- the greatest integer, if a body knows it
abbrev pub greatest_int : Body → Option ℤ
greatest_int (body.Ints l g s) = g
greatest_int _ = None

-- the least date, if a body knows it
abbrev pub least_date : Body → Option ℤ
least_date (body.Dates l g) = l
least_date _ = None

-- the greatest date, if a body knows it
abbrev pub greatest_date : Body → Option ℤ
greatest_date (body.Dates l g) = g
greatest_date _ = None

-- the least text, if a body knows it
abbrev pub least_text : Body → Option (List ℕ)
least_text (body.Texts l g s) = l
least_text _ = None

-- the greatest text, if a body knows it
abbrev pub greatest_text : Body → Option (List ℕ)
greatest_text (body.Texts l g s) = g
greatest_text _ = None

-- how many are true, if a body knows it
abbrev pub trues_of : Body → Option ℕ
trues_of (body.Bools t) = t
trues_of _ = None

-- the sum of integers or of lengths, if a body knows it
abbrev pub sum_of : Body → Option ℤ
sum_of (body.Ints l g s) = s
sum_of (body.Texts l g s) = s
sum_of (body.Bins s) = s
sum_of _ = None

-- the least number of children, if a body knows it
abbrev pub least_children : Body → Option ℕ
least_children (body.Children l g t) = l
least_children _ = None

-- the greatest number of children, if a body knows it
abbrev pub greatest_children : Body → Option ℕ
greatest_children (body.Children l g t) = g
greatest_children _ = None

-- the total number of children, if a body knows it
abbrev pub total_children : Body → Option ℕ
total_children (body.Children l g t) = t
total_children _ = None

-- the body that bodies of one kind join to
abbrev pub bodies_joined : StatKind → List Body → Body
bodies_joined kind.Plain bs = body.Plain
bodies_joined kind.Ints bs =
    body.Ints
    (of_known (least int_cmp) (map least_int bs))
    (of_known (greatest int_cmp) (map greatest_int bs))
    (of_known total (map sum_of bs))
bodies_joined kind.Bools bs = body.Bools (of_known trues_total (map trues_of bs))
bodies_joined kind.Dates bs =
    body.Dates (of_known (least int_cmp) (map least_date bs)) (of_known (greatest int_cmp) (map greatest_date bs))
bodies_joined kind.Texts bs =
    body.Texts
    (of_known (least text_cmp) (map least_text bs))
    (of_known (greatest text_cmp) (map greatest_text bs))
    (of_known total (map sum_of bs))
bodies_joined kind.Bins bs = body.Bins (of_known total (map sum_of bs))
bodies_joined kind.Children bs =
    body.Children
    (of_known (least nat_cmp) (map least_children bs))
    (of_known (greatest nat_cmp) (map greatest_children bs))
    (of_known children_total (map total_children bs))

-- whether a statistic counts a value
abbrev pub has_values : Stat → Bool
has_values s = nat_lt 0 s.count

-- the bodies of the statistics that count a value
abbrev pub valued_bodies : List Stat → List Body
valued_bodies ss = map (λ s. s.body) (filter has_values ss)

-- the statistic that statistics of columns of one kind join to: the counts add up, and each part is that of the
-- bodies with values, if all of them know it
abbrev pub joined : StatKind → List Stat → Stat
joined k ss = record {
  count = sum_by (λ s. s.count) ss;
  nulls = nulls_joined (map (λ s. s.nulls) ss);
  body = bodies_joined k (valued_bodies ss);
}

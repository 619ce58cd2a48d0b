-- What several statistics know of children. Each part of CollectionStatistics, field 12 of ColumnStatistics, may be
-- missing, and files that are older than the field have none (ORC specification, "Column Statistics"). What they know
-- together is this project's definition.
use Rattle.std.specs.Prelude.{◌≡◌, ℕ, if◌then◌else◌, List, [], ◌∷◌, map, filter, Option, Some, None}
use Rattle.std.specs.List.{list_all, AllZip}
use Rattle.std.specs.Option.{is_some}
use Rattle.orc_values.specs.Cells.{Cell}
use Rattle.orc_stats.specs.declared.kind.StatKind.{StatKind}
use Rattle.orc_stats.specs.declared.stat.Stat.{Stat}
use Rattle.orc_stats.specs.declared.stat.Body.{Body}
use Rattle.orc_stats.specs.declared.stat.Body.TheVariants as body
use Rattle.orc_stats.specs.Statistics.{stat}
use Rattle.orc_stats.specs.Joining.{least_children, greatest_children, total_children, has_values}
use Rattle.orc_stats.specs.Whole.{whole}

-- a part, if each of several parts is known
abbrev pub where_known : {A B : Type 0} → List (Option A) → Option B → Option B
where_known ps y = if list_all is_some ps then y else None

-- a body with only those numbers of children that each of several other bodies knows; all other parts stay
abbrev pub known_in : List Body → Body → Body
known_in bs body.Plain = body.Plain
known_in bs (body.Ints l g s) = body.Ints l g s
known_in bs (body.Bools t) = body.Bools t
known_in bs (body.Dates l g) = body.Dates l g
known_in bs (body.Texts l g s) = body.Texts l g s
known_in bs (body.Bins s) = body.Bins s
known_in bs (body.Children l g t) =
    body.Children
    (where_known (map least_children bs) l)
    (where_known (map greatest_children bs) g)
    (where_known (map total_children bs) t)

-- a statistic with only those numbers of children that a body knows
abbrev pub known_as : Body → Stat → Stat
known_as o s = record s { body = known_in (o ∷ []) s.body }

-- The first statistic is the same as the second, except that numbers of children may be unknown in the first.
abbrev pub Agrees : Stat → Stat → Type 0
Agrees x y = x ≡ known_as x.body y

-- a part that is unknown, or is the right one
abbrev pub IsPart : Option ℕ → Option ℕ → Type 0
IsPart None right = Unit {0}
IsPart (Some n) right = Some n ≡ right

-- the body of the stored statistic; if there is none, a body that knows nothing of children
abbrev pub told_body : Option Stat → Body
told_body None = body.Plain
told_body (Some s) = s.body

-- a part of a column, such as that in one stripe: the stored statistic of it, if there is one, and its cells
pub record Part : Type 0 where
  pub told : Option Stat
  pub cells : List Cell

-- the cells of each part
abbrev pub part_cells : List Part → List (List Cell)
part_cells parts = map (λ (part : Part). part.cells) parts

-- each part's cells with its stored statistic; if there are fewer of these than parts, the last parts have none
abbrev pub parts_of : List (Option Stat) → List (List Cell) → List Part
parts_of told [] = []
parts_of [] (p ∷ ps) = record { told = None; cells = p } ∷ parts_of [] ps
parts_of (t ∷ ts) (p ∷ ps) = record { told = t; cells = p } ∷ parts_of ts ps

-- the stored bodies of those parts that have a value
abbrev pub told_of : StatKind → List Part → List Body
told_of k parts =
    map (λ (part : Part). told_body part.told) (filter (λ (part : Part). has_values (stat k part.cells)) parts)

-- the statistic of all the cells, as `whole`, but with only those numbers of children that the stored statistic of
-- each part with a value knows
abbrev pub known_whole : StatKind → List Part → Stat
known_whole k parts =
    let all = whole k (part_cells parts) in record all { body = known_in (told_of k parts) all.body }

-- the parts' statistics, each with only those numbers of children that its stored statistic knows
abbrev pub known_stats : StatKind → List Part → List Stat
known_stats k parts = map (λ (part : Part). known_as (told_body part.told) (stat k part.cells)) parts

-- each statistic agrees with that of the cells of its part
abbrev pub AllAgree : StatKind → List Stat → List (List Cell) → Type 0
AllAgree k = AllZip (λ (s : Stat) (part : List Cell). Agrees s (stat k part))

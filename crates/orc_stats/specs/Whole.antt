-- The statistic of a column that was counted part by part, as that of a file is by stripes (this project's).
use Rattle.std.specs.Prelude.{Bool, true, not, ◌||◌, if◌then◌else◌, List, None}
use Rattle.std.specs.List.{flat_map, list_all}
use Rattle.std.specs.Option.{is_some}
use Rattle.orc_values.specs.Cells.{Cell}
use Rattle.orc_stats.specs.declared.kind.StatKind.{StatKind}
use Rattle.orc_stats.specs.declared.stat.Stat.{Stat}
use Rattle.orc_stats.specs.declared.stat.Body.{Body}
use Rattle.orc_stats.specs.declared.stat.Body.TheVariants as body
use Rattle.orc_stats.specs.Statistics.{stat}
use Rattle.orc_stats.specs.Joining.{has_values}

-- Whether a body has its sum; one of a kind without sums counts as having it. A total of children is no sum in this
-- sense: if that of a part doesn't fit, that of the whole doesn't.
abbrev pub has_sum : Body → Bool
has_sum (body.Ints l g s) = is_some s
has_sum (body.Texts l g s) = is_some s
has_sum (body.Bins s) = is_some s
has_sum body.Plain = true
has_sum (body.Bools t) = true
has_sum (body.Dates l g) = true
has_sum (body.Children l g t) = true

-- a body without its sum
abbrev pub without_sum : Body → Body
without_sum body.Plain = body.Plain
without_sum (body.Ints l g s) = body.Ints l g None
without_sum (body.Bools t) = body.Bools t
without_sum (body.Dates l g) = body.Dates l g
without_sum (body.Texts l g s) = body.Texts l g None
without_sum (body.Bins s) = body.Bins None
without_sum (body.Children l g t) = body.Children l g t

-- whether a statistic with values has its sum
abbrev pub keeps_sum : Stat → Bool
keeps_sum s = not (has_values s) || has_sum s.body

-- the statistic of all the cells, except that the sum is unknown if the total of some part doesn't fit
abbrev pub whole : StatKind → List (List Cell) → Stat
whole k parts =
    let all = stat k (flat_map (λ p. p) parts) in
    record all { body = if list_all (λ p. keeps_sum (stat k p)) parts then all.body else without_sum all.body }

-- How many cells the columns have in the rows that a writer keeps, and its limits (this project's).
use Rattle.std.specs.Prelude.{◌≡◌, ℕ, ◌+◌, ◌≤◌, ◌⊎◌, Bool, true, false, ◌&&◌, ◌||◌, ◌==◌, nat_lt, List, [], ◌∷◌, length}
use Rattle.std.specs.List.{list_all}
use Rattle.std.specs.Option.{is_none}
use Rattle.orc_wire.specs.declared.stripe_info.StripeInfo.{StripeInfo}
use Rattle.orc_values.specs.Shapes.{Shape, width}
use Rattle.orc_values.specs.Cells.{Cell}
use Rattle.orc_values.specs.Columns.{cells}
use Rattle.orc_stats.specs.declared.kind.StatKind.{StatKind}
use Rattle.orc_stats.specs.declared.stat.Stat.{Stat}
use Rattle.orc_stats.specs.declared.stat.Body.{Body}
use Rattle.orc_stats.specs.declared.stat.Body.TheVariants as body
use Rattle.orc_stats.specs.Kinds.{body_is_of}
use Rattle.orc_stats.specs.Messages.{in_limits}
use Rattle.orc_values.specs.Limits.{cell_limit}
use Rattle.orc_tail.specs.Statistics.{kind_at}
use Rattle.orc_tail.specs.Stripes.{stripe_end, most_stripes, most_rows}

-- ---- cells

-- the counts of the columns from this one on, with the cells of one row more
abbrev pub with_row : Shape → ℕ → Cell → List ℕ → List ℕ
with_row s c row [] = []
with_row s c row (n ∷ ns) = (n + length (cells s c (row ∷ []))) ∷ with_row s (c + 1) row ns

-- whether all counts are below the limit of a column's cells in a stripe
abbrev pub are_few : List ℕ → Bool
are_few counts = list_all (λ n. nat_lt n (cell_limit)) counts

-- With this row a limit would be exceeded: of stripes, of a file's rows, or of a column's cells in a stripe.
abbrev pub PassesLimit : Shape → List StripeInfo → ℕ → List ℕ → Cell → Type 0
PassesLimit s infos total counts row = (most_stripes ≤ length infos)
    ⊎ ((most_rows ≤ total) ⊎ (are_few (with_row s 0 row counts) ≡ false))

-- ---- tests that a value may keep

-- whether the stripes lie one after the other from a place on, without gaps, each with fewer rows than the limit
abbrev pub are_laid_with_few_rows : ℕ → List StripeInfo → Bool
are_laid_with_few_rows place [] = true
are_laid_with_few_rows place (i ∷ is) =
    (i.offset == place) && (nat_lt i.number_of_rows (cell_limit) && are_laid_with_few_rows (stripe_end i) is)

-- whether nothing is known of the values
abbrev pub is_unknown : Body → Bool
is_unknown body.Plain = true
is_unknown (body.Ints l g t) = is_none l && (is_none g && is_none t)
is_unknown (body.Bools t) = is_none t
is_unknown (body.Dates l g) = is_none l && is_none g
is_unknown (body.Texts l g t) = is_none l && (is_none g && is_none t)
is_unknown (body.Bins t) = is_none t
is_unknown (body.Children l g t) = is_none l && (is_none g && is_none t)

-- whether this may be the statistic of a stripe's column of this kind
abbrev pub is_column_stat : StatKind → Stat → Bool
is_column_stat k x =
    body_is_of k x.body && (in_limits x && (nat_lt x.count (cell_limit) && (nat_lt 0 x.count || is_unknown x.body)))

-- whether these may be the statistics of a stripe's columns from this one on
abbrev pub are_column_stats : Shape → ℕ → List Stat → Bool
are_column_stats s c [] = true
are_column_stats s c (x ∷ xs) = is_column_stat (kind_at s c) x && are_column_stats s (c + 1) xs

-- whether these may be the statistics of a stripe, one for each column
abbrev pub are_stripe_stats : Shape → List Stat → Bool
are_stripe_stats s xs = (length xs == width s) && are_column_stats s 0 xs

-- whether each stripe has a statistic for each column, of its kind
abbrev pub are_all_stats : Shape → List (List Stat) → Bool
are_all_stats s xss = list_all (are_stripe_stats s) xss

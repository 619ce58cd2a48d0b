-- Which columns' groups are needed: those of columns whose row index may have an entry for each group (this project's;
-- ORC specification, "Row Group Index").
use Rattle.std.specs.Prelude.{ℕ, ◌<◌, ◌≤◌, Option, Some, None, List, length}
use Rattle.orc_row_groups.specs.Groups.{group_count}
use Rattle.orc_stripe_reader.specs.IndexTexts.{listed}
use Rattle.orc_stripe_reader.specs.Opened.{Opened}

-- there are bytes, and at least as many as `entries`
abbrev pub HasRoom : ℕ → Option (List ℕ) → Type 0
HasRoom entries None = ⊥
HasRoom entries (Some bytes) = entries ≤ length bytes

-- The stride is above 0, and column c has a row index with at least one byte for each group of the stripe's rows.
abbrev pub MayBeWhole : Opened → ℕ → Type 0
MayBeWhole view c =
    (0 < view.stride)
    × HasRoom (group_count view.stride view.info.number_of_rows) (listed c view.footer.streams view.bytes)

-- some column from number c on and before `end` may have a row index with an entry for each group
abbrev pub NeedGroups : Opened → ℕ → ℕ → Type 0
NeedGroups view c end = (d : ℕ) × (c ≤ d) × (d < end) × MayBeWhole view d

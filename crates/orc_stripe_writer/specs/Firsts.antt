-- The rows with which the row groups of a stripe begin (ORC specification, "Row Group Index").
use Rattle.std.specs.Prelude.{ℕ, zero, suc, List, []}
use Rattle.orc_row_groups.specs.Groups.{starts_of_groups}

-- how many rows come before each group; with the stride 0 a stripe has no row indexes and no groups
abbrev pub firsts_of : ℕ → ℕ → List ℕ
firsts_of zero rows = []
firsts_of (suc k) rows = starts_of_groups (suc k) rows

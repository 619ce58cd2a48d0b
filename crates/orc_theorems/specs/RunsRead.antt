-- The number of runs that were read to reach the positions of a column (own).
use Rattle.std.specs.Prelude.{ℕ, ◌≤◌}
use Rattle.orc_theorems.specs.declared.seeking.Sought.{Sought}
use Rattle.orc_theorems.specs.declared.seeking.Sought.TheVariants as sought
use Rattle.orc_theorems.specs.declared.seeking.ColumnSought.{ColumnSought}

-- the number of runs that were read in one stream
abbrev pub runs_read : Sought → ℕ
runs_read sought.Nothing = 0
runs_read (sought.Bytes run) = run.count
runs_read (sought.Numbers run) = run.count

-- at most one run was read in each stream of a column
abbrev pub ReadOneEach : ColumnSought → Type 0
ReadOneEach c = (runs_read c.present ≤ 1) × (runs_read c.own ≤ 1)

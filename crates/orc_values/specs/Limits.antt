-- How many cells a column of a stripe may have (this project's limit).
use Rattle.std.specs.Prelude.{ℕ, ◌-◌, ◌^◌}

-- a column of a stripe has fewer cells than this
abbrev pub cell_limit : ℕ
cell_limit = 2 ^ 31

-- the most cells that a column of a stripe may have
abbrev pub most_cells : ℕ
most_cells = cell_limit - 1

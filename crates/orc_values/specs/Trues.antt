-- How many booleans are true (ORC specification, "Column Statistics", BucketStatistics; "Column Encodings", PRESENT).
use Rattle.std.specs.Prelude.{ℕ, suc, Bool, true, false, List, [], ◌∷◌}

-- how many of the booleans are true
abbrev pub trues : List Bool → ℕ
trues [] = 0
trues (false ∷ bs) = trues bs
trues (true ∷ bs) = suc (trues bs)

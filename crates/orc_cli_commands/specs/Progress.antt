-- How progress is shown: whole numbers of one unit, and a share.
use Rattle.std.specs.Prelude.{ℕ, ◌*◌, ◌/◌, ◌==◌, min, nat_lt, if◌then◌else◌, List, ◌∷◌, ◌++◌, codes, decimal}

-- the number of bytes in the unit in which this number of bytes is shown
abbrev pub unit_size : ℕ → ℕ
unit_size n = if nat_lt n 10000000 then 1000 else 1000000

-- the name of the unit in which this number of bytes is shown
abbrev pub unit_name : ℕ → List ℕ
unit_name n = if nat_lt n 10000000 then codes "kB" else codes "MB"

-- the share of the bytes that are done, in whole per cent, at most 100
abbrev pub share : ℕ → ℕ → ℕ
share done all = if nat_lt done all then done * 100 / all else 100

-- The line: the number of bytes that are done and that of all bytes, both in the unit of all, and the share. If the
-- number of all bytes is unknown, which is 0, the line has only the number of bytes that are done.
abbrev pub line_text : ℕ → ℕ → List ℕ
line_text done all =
    if all == 0 then codes "orcm: " ++ (decimal (done / unit_size done) ++ 32 ∷ unit_name done)
    else codes "orcm: " ++ (decimal (min done all / unit_size all)
    ++ (codes " of " ++ (decimal (all / unit_size all)
    ++ 32 ∷ (unit_name all
    ++ (codes ", " ++ (decimal (share done all) ++ codes " %"))))))

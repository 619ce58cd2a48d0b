-- Days as dates of the calendar (ORC specification, "Types": a date is the days since 1970-01-01; RFC 3339, full-date).
use Rattle.std.specs.Prelude.{◌≡◌, ℕ, zero, suc, ◌+◌, ◌-◌, ◌++◌, List, [], ◌∷◌, ℤ, pos, negsuc, ◌+ℤ◌, Bool, true, nat_lt, nat_le, if◌then◌else◌}
use Rattle.std.specs.Fmt.{signed_decimal}
use Rattle.jiff_core.specs.Calendar.{days_in_month}
use Rattle.jiff_fmt.specs.Temporal.{DateParts}
use Rattle.jiff_fmt.specs.Text.{year_text, pad2}

-- the day after: of the same month, the first of the next month, or the first of the next year
abbrev pub next_date : DateParts → DateParts
next_date d =
    if nat_lt d.day (days_in_month d.year d.month) then record { year = d.year; month = d.month; day = d.day + 1 }
    else (if nat_lt d.month 12 then record { year = d.year; month = d.month + 1; day = 1 }
    else record { year = d.year +ℤ pos 1; month = 1; day = 1 })

-- the date so many days after 0001-01-01
unfoldable pub date_after : ℕ → DateParts
date_after zero = record { year = pos 1; month = 1; day = 1 }
date_after (suc n) = next_date (date_after n)

-- the days from 0001-01-01, which is day -719162, to a day
abbrev pub from_first : ℤ → ℕ
from_first (pos n) = n + 719162
from_first (negsuc n) = 719161 - n

-- the days of the years 0001 to 9999
abbrev pub has_text : ℤ → Bool
has_text (pos n) = nat_le n 2932896
has_text (negsuc n) = nat_lt n 719162

-- `YYYY-MM-DD`
abbrev pub date_parts_text : DateParts → List ℕ
date_parts_text d = year_text d.year ++ 45 ∷ [] ++ pad2 d.month ++ 45 ∷ [] ++ pad2 d.day

-- a day as its text, from its number since 1970-01-01
abbrev pub day_text : ℤ → List ℕ
day_text n = date_parts_text (date_after (from_first n))

-- a day as that text in those years, and as its number in others
abbrev pub date_text : ℤ → List ℕ
date_text n = if has_text n then day_text n else signed_decimal n

-- the text of a day of those years
abbrev pub IsDayText : List ℕ → ℤ → Type 0
IsDayText s n = (has_text n ≡ true) × (s ≡ day_text n)

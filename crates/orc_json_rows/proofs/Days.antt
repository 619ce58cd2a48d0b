-- The calendar's dates, one after the other, are those of the days in order.
use Rattle.std.proofs.Common.{◌≡◌, ℕ, zero, suc, ◌+◌, ◌<◌, ◌≤◌, List, ℤ, pos, negsuc, neg_ℤ, ◌+ℤ◌, ◌≤ℤ◌, Bool, true, false, Ok, nat_lt, cond, refl, sym, ap, ◌∙◌, arith}
use Rattle.std.specs.Int.{IsInRange}
use Rattle.std.specs.Prelude.{◌↔◌}
use Rattle.std.proofs.lemmas.Bool.Decides.{nat_tests}
use Rattle.std.proofs.lemmas.Int.{by_lt_z}
use Rattle.jiff_core.specs.declared.civil.date.Date.{Date}
use Rattle.jiff_core.specs.Calendar.{days_in_month, day_count, days_from_civil}
use Rattle.jiff_core.specs.Date.{epoch_day}
use Rattle.jiff_core.proofs.CalendarLemmas.{day_count-day, day_count-next_month, day_count-next_year, day_count-last_of_year, day_count-later_year, day_count-day_of_year, day_count-end, days_from_civil-day_count, days_in_month_bounds}
use Rattle.jiff_core.proofs.MarchLemmas.{day_count-early}
use Rattle.jiff_core.proofs.DateLemmas.{epoch_day_injective, epoch_day_range}
use Rattle.jiff_core.proofs.SignedLemmas.{signed_arith}
use Rattle.jiff_fmt.specs.Temporal.{DateParts, date_parts, parse_date}
use Rattle.jiff_fmt.specs.Text.{date_text}
use Rattle.jiff_fmt.proofs.RoundTrip.{parse_date-date_text}
use Rattle.orc_json_rows.specs.Days.{next_date, date_after, from_first, has_text, date_parts_text, day_text, IsDayText}

-- a date of the calendar, so many days after 0001-01-01
pub record IsDated (d : DateParts) (k : ℕ) : Type 0 where
  pub year : pos 1 ≤ℤ d.year
  pub month : IsInRange 1 12 d.month
  pub day : IsInRange 1 (days_in_month d.year d.month) d.day
  pub count : day_count d.year d.month d.day ≡ k + 3652791

first_count : day_count (pos 1) 1 1 ≡ 3652791
first_count = day_count-early (pos 1) 10000 1 1 refl (omega arith) (omega arith) (omega arith)

-- the three steps from a date to the next
within_month : (d : DateParts) (k : ℕ) → IsDated d k → d.day < days_in_month d.year d.month → IsDated (record { year = d.year; month = d.month; day = d.day + 1 }) (suc k)
within_month d k h lt = record {
  year = h.year;
  month = h.month;
  day = (omega arith, omega arith);
  count = omega (arith, h.count, h.day.0, day_count-day d.year d.month d.day (d.day + 1) h.day.0 (omega arith));
}

to_month : (d : DateParts) (k : ℕ) → IsDated d k → days_in_month d.year d.month ≤ d.day → d.month < 12 → IsDated (record { year = d.year; month = d.month + 1; day = 1 }) (suc k)
to_month d k h last lt =
    let first = days_in_month_bounds d.year (d.month + 1) in record {
      year = h.year;
      month = (omega arith, omega arith);
      day = (omega arith, omega (arith, first));
      count = omega (arith, h.count, h.day, h.month, day_count-next_month d.year d.month h.month.0, day_count-day d.year d.month d.day 1 h.day.0 (omega arith));
    }

december : (y : ℤ) (m : ℕ) → m ≡ 12 → days_in_month y m ≡ 31
december y m e = rw e refl

to_year : (d : DateParts) (k : ℕ) → IsDated d k → days_in_month d.year d.month ≤ d.day → 12 ≤ d.month → IsDated (record { year = d.year +ℤ pos 1; month = 1; day = 1 }) (suc k)
to_year d k h last le =
    let twelve : d.month ≡ 12 = omega (arith, h.month) in
    let low = h.year in
    let same = rw twelve at h.count in
    let day : d.day ≡ 31 = omega (arith, h.day, december d.year d.month twelve) in
    let end = rw day at same in
    record {
      year = omega (arith, signed_arith);
      month = (omega arith, omega arith);
      day = (omega arith, omega (arith, days_in_month_bounds (d.year +ℤ pos 1) 1));
      count = omega (arith, end, day_count-last_of_year d.year, day_count-next_year d.year (d.year +ℤ pos 1) (omega (arith, signed_arith)) refl);
    }

later : (n m : ℕ) → nat_lt n m ≡ true → n < m
later n m e = grind (arith, nat_tests)

not_later : (n m : ℕ) → nat_lt n m ≡ false → m ≤ n
not_later n m e = grind (arith, nat_tests)

stepped : (d : DateParts) (k : ℕ) (a b : Bool) → IsDated d k → nat_lt d.day (days_in_month d.year d.month) ≡ a → nat_lt d.month 12 ≡ b
    → IsDated (cond a (record { year = d.year; month = d.month; day = d.day + 1 }) (cond b (record { year = d.year; month = d.month + 1; day = 1 }) (record { year = d.year +ℤ pos 1; month = 1; day = 1 }))) (suc k)
stepped d k true b h e f = within_month d k h (later _ _ e)
stepped d k false true h e f = to_month d k h (not_later _ _ e) (later _ _ f)
stepped d k false false h e f = to_year d k h (not_later _ _ e) (not_later _ _ f)

next_dated : (d : DateParts) (k : ℕ) → IsDated d k → IsDated (next_date d) (suc k)
next_dated d k h = stepped d k (nat_lt d.day (days_in_month d.year d.month)) (nat_lt d.month 12) h refl refl

dated : (k : ℕ) → IsDated (date_after k) k
unfolding date_after
dated zero = record { year = omega (arith, signed_arith); month = (omega arith, omega arith); day = (omega arith, omega (arith, days_in_month_bounds (pos 1) 1)); count = first_count }
dated (suc k) = next_dated (date_after k) k (dated k)

-- the dates of the years 0001 to 9999
before_end : (d : DateParts) (k : ℕ) → IsDated d k → k < 3652059 → d.year ≤ℤ pos 9999
before_end d k h lt =
    by_lt_z (pos 9999) d.year
    (λ late. absurd (omega (arith, h.count, h.day.0, day_count-later_year (pos 9999) d.year (omega (arith, signed_arith)) late, day_count-next_year (pos 9999) (pos 10000) (omega (arith, signed_arith)) refl, day_count-end, day_count-day_of_year d.year d.month d.day h.day.0)))
    (λ le. le)

abbrev date_from : (p : DateParts) (k : ℕ) → IsDated p k → k < 3652059 → Date
date_from p k h lt =
    let low = h.year in
    let high = before_end p k h lt in
    record { year = p.year; month = p.month; day = p.day; year_in = omega (arith, signed_arith); month_in = h.month; day_in = h.day }

before_last : (n : ℤ) → has_text n ≡ true → from_first n < 3652059
before_last (pos n) h = grind (arith, nat_tests)
before_last (negsuc n) h = grind (arith, nat_tests)

from_first-is : (n : ℤ) → has_text n ≡ true → pos (from_first n) ≡ n +ℤ pos 719162
from_first-is (pos n) h = omega (arith, signed_arith)
from_first-is (negsuc n) h = let lt : n < 719162 = later n 719162 h in omega (arith, signed_arith)

-- the date of a day
record HasDate (n : ℤ) : Type 0 where
  date : Date
  day : epoch_day date ≡ n
  year : pos 1 ≤ℤ date.year
  text : date_text date ≡ day_text n

date_of : (n : ℤ) → has_text n ≡ true → HasDate n
date_of n h =
    let k = from_first n in
    let is = dated k in
    let lt = before_last n h in
    let d = date_from (date_after k) k is lt in
    record {
      date = d;
      day = omega (arith, signed_arith, days_from_civil-day_count (date_after k).year (date_after k).month (date_after k).day, is.count, from_first-is n h);
      year = is.year;
      text = refl;
    }

-- each day with a text is a date's
pub day_dated : (n : ℤ) → has_text n ≡ true → (d : Date) × (epoch_day d ≡ n)
day_dated n h = let found = date_of n h in (found.date, found.day)

pub same_text : (d e : Date) → date_parts d ≡ date_parts e → date_text d ≡ date_text e
same_text d e h = ap date_parts_text h

pub same_day : (d e : Date) → date_parts d ≡ date_parts e → epoch_day d ≡ epoch_day e
same_day d e h = ap (λ (p : DateParts). days_from_civil p.year p.month p.day) h

parts_of : (d e : Date) → (d.year ≡ e.year) × (d.month ≡ e.month) × (d.day ≡ e.day) → date_parts d ≡ date_parts e
parts_of d e h = rw (h.0, h.1, h.2) refl

-- a date's text is its day's
pub day_text-date : (d : Date) → has_text (epoch_day d) ≡ true → date_text d ≡ day_text (epoch_day d)
day_text-date d h =
    let found = date_of (epoch_day d) h in
    same_text d found.date (parts_of d found.date (epoch_day_injective d found.date (sym found.day))) ∙ found.text

above_first : (n : ℤ) → neg_ℤ (pos 719162) ≤ℤ n → n ≤ℤ pos 2932896 → has_text n ≡ true
above_first (pos n) low high = let le : n ≤ 2932896 = omega (arith, signed_arith) in grind (arith, nat_tests)
above_first (negsuc n) low high = let lt : n < 719162 = omega (arith, signed_arith) in grind (arith, nat_tests)

from_year_one : (d : Date) → pos 1 ≤ℤ d.year → 3652791 ≤ day_count d.year d.month d.day
from_year_one d h =
    by_lt_z (pos 1) d.year
    (λ later. omega (arith, first_count, day_count-later_year (pos 1) d.year (omega (arith, signed_arith)) later, day_count-day_of_year d.year d.month d.day d.day_in.0))
    (λ le. let one : d.year ≡ pos 1 = omega (arith, signed_arith) in
    rw one (omega (arith, first_count, day_count-day_of_year (pos 1) d.month d.day d.day_in.0)))

-- the days that have a text are those of the years from 0001 on
pub has_text-year : (d : Date) → (has_text (epoch_day d) ≡ true) ↔ (pos 1 ≤ℤ d.year)
has_text-year d = (
  λ h.
      let found = date_of (epoch_day d) h in
      let same = epoch_day_injective d found.date (sym found.day) in
      rw same.0 found.year,
  λ h. above_first (epoch_day d) (omega (arith, signed_arith, days_from_civil-day_count d.year d.month d.day, from_year_one d h)) (epoch_day_range d).1,
)

-- a date has the parts that its text is read as
pub parts_read : (s : List ℕ) (n : ℤ) → IsDayText s n → (d : Date) × (epoch_day d ≡ n) × (s ≡ date_text d) × (parse_date s ≡ Ok (date_parts d))
parts_read s n h =
    let found = date_of n h.0 in
    let is : s ≡ date_text found.date = h.1 ∙ sym found.text in
    (found.date, found.day, is, ap parse_date is ∙ parse_date-date_text found.date)

-- a text is one day's
pub one_day : (s : List ℕ) (m n : ℤ) → IsDayText s m → IsDayText s n → m ≡ n
one_day s m n a b =
    let x = parts_read s m a in
    let y = parts_read s n b in
    let same : date_parts x.0 ≡ date_parts y.0 = cc in
    sym x.1 ∙ same_day x.0 y.0 same ∙ y.1

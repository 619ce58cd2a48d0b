use Rattle.std.proofs.Common.{sym}
use Rattle.orc_json_rows.proofs.Days.{one_day, day_dated, day_text-date, has_text-year}
use Rattle.orc_json_rows.proofs.laws.day_laws.Goals as goal

pub returns-clause-one : goal.returns-clause-one
returns-clause-one c = one_day

pub returns-clause-calendar : goal.returns-clause-calendar
returns-clause-calendar c = λ d h. sym (day_text-date d h)

pub returns-clause-years : goal.returns-clause-years
returns-clause-years c = has_text-year

pub returns-clause-dates : goal.returns-clause-dates
returns-clause-dates c = day_dated

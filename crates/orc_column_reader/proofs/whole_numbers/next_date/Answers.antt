use Rattle.std.proofs.Common.{suc, false, inl, rules, ◌≡◌, ◌∙◌, ap, w32, w64, to_z, of_z}
use Rattle.std.proofs.lemmas.Int.{to_z-of_z}
use Rattle.std.proofs.lemmas.Result.{err_from_is_err_and}
use Rattle.orc_values.specs.Cells.{leaf, date}
use Rattle.orc_column_reader.specs.Numbers.{NumbersLeft}
use Rattle.orc_column_reader.specs.Columns.{IsDate}
use Rattle.orc_column_reader.proofs.Fronts.{standing_lacks}
use Rattle.orc_column_reader.proofs.ReaderLemmas.{one_stands, nothing_stands, one_date}
use Rattle.orc_column_reader.proofs.Sizes.{day_fits, fits_day}
use Rattle.orc_column_reader.proofs.OwnKinds.{date_kind}
use Rattle.orc_values.specs.Fits.{signed_fits}
use Rattle.orc_column_reader.proofs.MetLemmas.{ints_before, ints_now}
use Rattle.orc_column_reader.proofs.whole_numbers.next_date.Goals as goal

pub returns-in-Ok-clause-found : goal.returns-in-Ok-clause-found
returns-in-Ok-clause-found c =
    let z : to_z w64 (of_z w64 c.in_ok-number.number) ≡ c.in_ok-number.number = to_z-of_z w64 c.in_ok-number.number (search rules) in
    let e = c.in-Ok.ensures in
    let f = rw z at e in
    let d : to_z w32 (of_z w32 c.in-Ok.day) ≡ c.in_ok-number.number = ap (λ n. to_z w32 (of_z w32 n)) f.1 ∙ to_z-of_z w32 c.in_ok-number.number f.0 in
    one_stands IsDate one_date (NumbersLeft c.args.numbers.now) (NumbersLeft c.next_number.new.numbers) c.in_ok-number.number _
    (fits_day c.in_ok-number.number f.0, ap (λ n. leaf (date n)) d) c.in_ok-number.ensures.found

pub returns-in-Err-clause-none : goal.returns-in-Err-clause-none
returns-in-Err-clause-none c =
    let z : to_z w64 (of_z w64 c.in_ok-number.number) ≡ c.in_ok-number.number = to_z-of_z w64 c.in_ok-number.number (search rules) in
    let e = c.in-Err.ensures in
    let f = rw z at e in
    nothing_stands IsDate (NumbersLeft c.args.numbers.now) (NumbersLeft c.next_number.new.numbers) c.in_ok-number.number c.in_ok-number.ensures.found (λ y h. f (day_fits c.in_ok-number.number h.0))

pub returns-in_err-number-clause-none : goal.returns-in_err-number-clause-none
returns-in_err-number-clause-none c =
    let p = err_from_is_err_and c.from_residual.result c.from_residual.ensures.1 in
    rw p.1 (standing_lacks IsDate (NumbersLeft c.args.numbers.now) 1 c.in_err-number.ensures.none)

pub returns-in-Err-clause-fault : goal.returns-in-Err-clause-fault
returns-in-Err-clause-fault c =
    λ memory m.
    let z : to_z w64 (of_z w64 c.in_ok-number.number) ≡ c.in_ok-number.number = to_z-of_z w64 c.in_ok-number.number (search rules) in
    let e = c.in-Err.ensures in
    let f = rw z at e in
    ints_now (signed_fits 31) c.args.numbers.now c.next_number.new.numbers false (suc m) c.args.column c.in_ok-number.number c.in_ok-number.ensures.first (λ h. f (day_fits c.in_ok-number.number h))

pub returns-in-Ok-clause-before : goal.returns-in-Ok-clause-before
returns-in-Ok-clause-before c =
    λ all m f.
    ints_before (signed_fits 31) c.args.numbers.now c.next_number.new.numbers all m c.args.column c.in_ok-number.number f c.in_ok-number.ensures.before c.in_ok-number.ensures.first

pub returns-in_err-number-clause-fault : goal.returns-in_err-number-clause-fault
returns-in_err-number-clause-fault c =
    let p = err_from_is_err_and c.from_residual.result c.from_residual.ensures.1 in
    rw (p.1, p.2) (λ memory m. inl (c.in_err-number.ensures.fault memory m))

pub returns-in-Ok-clause-kind : goal.returns-in-Ok-clause-kind
returns-in-Ok-clause-kind c =
    let z : to_z w64 (of_z w64 c.in_ok-number.number) ≡ c.in_ok-number.number = to_z-of_z w64 c.in_ok-number.number (search rules) in
    let e = c.in-Ok.ensures in
    let f = rw z at e in
    let d : to_z w32 (of_z w32 c.in-Ok.day) ≡ c.in_ok-number.number = ap (λ n. to_z w32 (of_z w32 n)) f.1 ∙ to_z-of_z w32 c.in_ok-number.number f.0 in
    date_kind c.in_ok-number.number _ (fits_day c.in_ok-number.number f.0, ap (λ n. leaf (date n)) d)

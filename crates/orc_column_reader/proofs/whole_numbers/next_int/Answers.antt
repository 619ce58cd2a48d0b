use Rattle.std.proofs.Common.{◌≡◌, refl, suc, true, false, sym, ◌∙◌, inl, rules, w64, to_z, of_z}
use Rattle.std.proofs.lemmas.Int.{to_z-of_z}
use Rattle.std.proofs.lemmas.Result.{err_from_is_err_and}
use Rattle.orc_values.specs.Fits.{int_fits}
use Rattle.orc_column_reader.specs.Numbers.{NumbersLeft}
use Rattle.orc_column_reader.specs.Columns.{IsInt}
use Rattle.orc_column_reader.proofs.Fronts.{standing_lacks}
use Rattle.orc_column_reader.proofs.ReaderLemmas.{one_stands, nothing_stands, one_int}
use Rattle.orc_column_reader.proofs.Sizes.{true_false}
use Rattle.orc_column_reader.proofs.OwnKinds.{int_kind}
use Rattle.orc_column_reader.proofs.MetLemmas.{ints_before, ints_now}
use Rattle.orc_column_reader.proofs.whole_numbers.next_int.Goals as goal

pub returns-then-not-int_fits-clause-none : goal.returns-then-not-int_fits-clause-none
returns-then-not-int_fits-clause-none c =
    let z : to_z w64 (of_z w64 c.in_ok-number.number) ≡ c.in_ok-number.number = to_z-of_z w64 c.in_ok-number.number (search rules) in
    nothing_stands (IsInt c.args.kind) (NumbersLeft c.args.numbers.now) (NumbersLeft c.next_number.new.numbers) c.in_ok-number.number c.in_ok-number.ensures.found
    (λ y h. let a = h.0 in let b = c.int_fits.ensures in let d = c.if-not-int_fits.true in let w = rw z at b in let e : true ≡ false = sym a ∙ sym w ∙ d in absurd (true_false e))

pub returns-clause-found : goal.returns-clause-found
returns-clause-found c =
    let z : to_z w64 (of_z w64 c.in_ok-number.number) ≡ c.in_ok-number.number = to_z-of_z w64 c.in_ok-number.number (search rules) in
    let fit : int_fits c.args.kind c.in_ok-number.number ≡ true = let b = c.int_fits.ensures in let d = c.if-not-int_fits.false in cc in
    rw z (one_stands (IsInt c.args.kind) (one_int c.args.kind) (NumbersLeft c.args.numbers.now) (NumbersLeft c.next_number.new.numbers) c.in_ok-number.number _ (fit, refl) c.in_ok-number.ensures.found)

pub returns-in_err-number-clause-none : goal.returns-in_err-number-clause-none
returns-in_err-number-clause-none c =
    let p = err_from_is_err_and c.from_residual.result c.from_residual.ensures.1 in
    rw p.1 (standing_lacks (IsInt c.args.kind) (NumbersLeft c.args.numbers.now) 1 c.in_err-number.ensures.none)

pub returns-then-not-int_fits-clause-fault : goal.returns-then-not-int_fits-clause-fault
returns-then-not-int_fits-clause-fault c =
    λ memory m.
    let z : to_z w64 (of_z w64 c.in_ok-number.number) ≡ c.in_ok-number.number = to_z-of_z w64 c.in_ok-number.number (search rules) in
    ints_now (int_fits c.args.kind) c.args.numbers.now c.next_number.new.numbers false (suc m) c.args.column c.in_ok-number.number c.in_ok-number.ensures.first
    (λ a. let b = c.int_fits.ensures in let d = c.if-not-int_fits.true in let w = rw z at b in let e : true ≡ false = sym a ∙ sym w ∙ d in true_false e)

pub returns-clause-before : goal.returns-clause-before
returns-clause-before c =
    λ all m f.
    ints_before (int_fits c.args.kind) c.args.numbers.now c.next_number.new.numbers all m c.args.column c.in_ok-number.number f c.in_ok-number.ensures.before c.in_ok-number.ensures.first

pub returns-in_err-number-clause-fault : goal.returns-in_err-number-clause-fault
returns-in_err-number-clause-fault c =
    let p = err_from_is_err_and c.from_residual.result c.from_residual.ensures.1 in
    rw (p.1, p.2) (λ memory m. inl (c.in_err-number.ensures.fault memory m))

pub returns-clause-kind : goal.returns-clause-kind
returns-clause-kind c =
    let z : to_z w64 (of_z w64 c.in_ok-number.number) ≡ c.in_ok-number.number = to_z-of_z w64 c.in_ok-number.number (search rules) in
    let fit : int_fits c.args.kind c.in_ok-number.number ≡ true = let b = c.int_fits.ensures in let d = c.if-not-int_fits.false in cc in
    rw z (int_kind c.args.kind c.in_ok-number.number _ (fit, refl))

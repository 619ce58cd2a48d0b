use Rattle.std.proofs.Common.{◌≡◌, refl, rules, w64, to_z, of_z}
use Rattle.std.proofs.lemmas.Int.{to_z-of_z}
use Rattle.std.proofs.lemmas.Result.{err_from_is_err_and}
use Rattle.orc_values.specs.declared.kind.Scalar.TheVariants as kind
use Rattle.orc_column_reader.specs.Numbers.{NumbersLeft}
use Rattle.orc_column_reader.specs.Columns.{IsInt}
use Rattle.orc_directory.specs.declared.fault.StreamKind.TheVariants as stream
use Rattle.orc_column_reader.proofs.Fronts.{standing_lacks}
use Rattle.orc_column_reader.proofs.NeedLemmas.{runs_more}
use Rattle.orc_column_reader.specs.RunsMet.{NumbersMeet}
use Rattle.orc_column_reader.proofs.ReaderLemmas.{one_stands, one_int}
use Rattle.orc_column_reader.proofs.Sizes.{fits_long}
use Rattle.orc_column_reader.proofs.OwnKinds.{int_kind}
use Rattle.orc_column_reader.proofs.whole_numbers.next_long.Goals as goal

pub returns-clause-found : goal.returns-clause-found
returns-clause-found c =
    let z : to_z w64 (of_z w64 c.in_ok-number.number) ≡ c.in_ok-number.number = to_z-of_z w64 c.in_ok-number.number (search rules) in
    rw z (one_stands (IsInt kind.Long) (one_int kind.Long) (NumbersLeft c.args.numbers.now) (NumbersLeft c.next_number.new.numbers) c.in_ok-number.number _ (fits_long c.in_ok-number.number (search rules), refl) c.in_ok-number.ensures.found)

pub returns-in_err-number-clause-none : goal.returns-in_err-number-clause-none
returns-in_err-number-clause-none c =
    let p = err_from_is_err_and c.from_residual.result c.from_residual.ensures.1 in
    rw p.1 (standing_lacks (IsInt kind.Long) (NumbersLeft c.args.numbers.now) 1 c.in_err-number.ensures.none)

pub returns-clause-before : goal.returns-clause-before
returns-clause-before c =
    λ all n f. runs_more stream.Data c.args.column all n (NumbersMeet c.next_number.new.numbers) (NumbersMeet c.args.numbers.now) f c.in_ok-number.ensures.before

pub returns-clause-kind : goal.returns-clause-kind
returns-clause-kind c =
    let z : to_z w64 (of_z w64 c.in_ok-number.number) ≡ c.in_ok-number.number = to_z-of_z w64 c.in_ok-number.number (search rules) in
    rw z (int_kind kind.Long c.in_ok-number.number _ (fits_long c.in_ok-number.number (search rules), refl))

use Rattle.std.proofs.Common.{pos, get_or, rules, take, take_all, subst, refl, List, ℤ}
use Rattle.std.specs.Prelude.{FitsSigned}
use Rattle.std.specs.Int.{w64}
use Rattle.std.proofs.lemmas.Int.{to_z-of_z}
use Rattle.std.proofs.lemmas.List.{take_more}
use Rattle.orc_rle.specs.Values.{InRange, AllInRange}
use Rattle.orc_rle.proofs.ValuesLemmas.{AllInRange-push}
use Rattle.orc_column_tests.proofs.runs.in_range.Goals as goal

pub loop-value-preserved : goal.loop-value-preserved
loop-value-preserved c =
    let values = c.args.values.now in
    let i = c.loop-value.value-index in
    let fits : FitsSigned w64 (get_or values i (pos 0)) = search rules in
    let held : InRange c.args.sign (get_or values i (pos 0)) = rw (to_z-of_z w64 _ fits) at c.if-not-holds.ensures.0 refl in
    rw (take_more values i (pos 0) c.loop-value-test.true) (AllInRange-push c.args.sign (take i values) _ c.loop-value.invariant held)

pub returns : goal.returns
returns c =
    subst (λ (t : List ℤ). AllInRange c.args.sign t) (take_all c.loop-value.value-index c.args.values.now c.loop-value-test.false) c.loop-value.invariant

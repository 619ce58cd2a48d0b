use Rattle.std.proofs.Common.{arith, [], ◌∷◌, ◌++◌}
use Rattle.std.proofs.lemmas.Result.{err_from_is_err_and}
use Rattle.orc_values.specs.Own.{own_cell}
use Rattle.orc_column_reader.specs.Columns.{ScalarLeft}
use Rattle.orc_column_walk.proofs.ReadLemmas.{none_read, one_read, read_lacks, read_fault, read_on}
use Rattle.orc_column_walk.proofs.ScalarLemmas.{ScalarMet}
use Rattle.orc_column_walk.proofs.scalars.skip_scalars.Goals as goal

pub loop-init : goal.loop-init
loop-init c = ([], none_read (ScalarLeft c.args.kind c.args.source.now) (ScalarMet c.args.kind c.args.source.now))

pub loop-preserved : goal.loop-preserved
loop-preserved c =
    let value = own_cell c.in_ok-next_scalar.field-0 in
    let k = c.args.kind in (
      c.loop.invariant.0 ++ value ∷ [],
      one_read (ScalarLeft k c.args.source.now) (ScalarLeft k c.loop.source) (ScalarLeft k c.next_scalar.new.self) (ScalarMet k c.args.source.now) (ScalarMet k c.loop.source) (ScalarMet k c.next_scalar.new.self) c.loop.counter c.loop.invariant.0 value c.loop.invariant.1
          c.in_ok-next_scalar.ensures.found c.in_ok-next_scalar.ensures.before,
    )

pub returns-in_err-next_scalar-clause-none : goal.returns-in_err-next_scalar-clause-none
returns-in_err-next_scalar-clause-none c =
    let p = err_from_is_err_and c.from_residual.result c.from_residual.ensures.1 in
    rw p.1 (let k = c.args.kind in
    read_lacks (ScalarLeft k c.args.source.now) (ScalarLeft k c.loop.source) (ScalarMet k c.args.source.now) (ScalarMet k c.loop.source) c.loop.counter c.args.count c.loop.invariant.0 c.loop.invariant.1 c.loop-test.true c.in_err-next_scalar.ensures.none)

pub returns-in_err-next_scalar-clause-fault : goal.returns-in_err-next_scalar-clause-fault
returns-in_err-next_scalar-clause-fault c =
    let p = err_from_is_err_and c.from_residual.result c.from_residual.ensures.1 in
    rw (p.1, p.2) (λ memory.
    let k = c.args.kind in
    read_fault (ScalarLeft k c.args.source.now) (ScalarLeft k c.loop.source) (ScalarMet k c.args.source.now) (ScalarMet k c.loop.source) c.loop.counter c.args.count c.loop.invariant.0 c.in_err-next_scalar.field-0.0 c.loop.invariant.1 c.loop-test.true (c.in_err-next_scalar.ensures.fault memory))

pub returns-clause-found : goal.returns-clause-found
returns-clause-found c =
    let r = c.loop.invariant in (r.0, omega (arith, r.1.counted, c.loop-test.false, c.loop.auto.counter-end), r.1.leave)

pub returns-clause-before : goal.returns-clause-before
returns-clause-before c =
    let k = c.args.kind in
    read_on (ScalarLeft k c.args.source.now) (ScalarLeft k c.loop.source) (ScalarMet k c.args.source.now) (ScalarMet k c.loop.source) c.loop.counter c.args.count c.loop.invariant.0 c.loop.invariant.1
    (omega (arith, c.loop-test.false, c.loop.auto.counter-end))

use Rattle.std.proofs.Common.{true, false}
use Rattle.std.proofs.lemmas.Result.{err_from_is_err_and}
use Rattle.orc_column_reader.specs.Columns.{ScalarLeft}
use Rattle.orc_column_walk.proofs.ReadLemmas.{lack_read, over_fault}
use Rattle.orc_column_walk.proofs.ScalarLemmas.{ScalarMet}
use Rattle.orc_column_walk.proofs.scalars.read_scalars.Goals as goal

pub returns-then-not-scalar_end-clause-fault : goal.returns-then-not-scalar_end-clause-fault
returns-then-not-scalar_end-clause-fault c =
    λ memory.
    let k = c.args.kind in
    (true, over_fault (ScalarMet k c.args.source.now) (ScalarMet k c.skip_scalars.new.source) c.args.count c.scalar_left.result c.in_ok-skip_scalars.ensures.before c.scalar_left.ensures)

pub returns-in_err-skip_scalars-clause-none : goal.returns-in_err-skip_scalars-clause-none
returns-in_err-skip_scalars-clause-none c =
    let p = err_from_is_err_and c.from_residual.result c.from_residual.ensures.1 in
    rw (p.1, p.2) (λ memory values h e. lack_read (ScalarLeft c.args.kind c.args.source.now) c.args.count c.in_err-skip_scalars.ensures.none values h e)

pub returns-in_err-skip_scalars-clause-fault : goal.returns-in_err-skip_scalars-clause-fault
returns-in_err-skip_scalars-clause-fault c =
    let p = err_from_is_err_and c.from_residual.result c.from_residual.ensures.1 in
    rw (p.1, p.2) (λ memory. (false, c.in_err-skip_scalars.ensures.fault memory))

use Rattle.std.proofs.Common.{◌≡◌, ◌+◌, ℕ, true, false, subst, arith}
use Rattle.std.proofs.lemmas.Result.{err_from_is_err_and}
use Rattle.orc_column_reader.specs.Columns.{MarksLeft}
use Rattle.orc_column_reader.specs.RunsMet.{MarksMeet}
use Rattle.orc_column_reader.proofs.NeedLemmas.{always_end}
use Rattle.orc_column_walk.proofs.ReadLemmas.{lack_read, over_fault}
use Rattle.orc_column_walk.proofs.MarkLemmas.{PresentMet, all_marked}
use Rattle.orc_column_walk.proofs.marks.count_values.Goals as goal

pub returns-then-is_none-clause-found : goal.returns-then-is_none-clause-found
returns-then-is_none-clause-found c = all_marked c.args.present.now c.args.count c.if-is_none.ensures

pub returns-then-not-marks_end-clause-fault : goal.returns-then-not-marks_end-clause-fault
returns-then-not-marks_end-clause-fault c =
    λ memory.
    let e = c.marks_left.ensures in (
      true,
      over_fault (PresentMet c.args.column c.args.present.now) (PresentMet c.args.column c.read_marks.new.present) c.args.count c.run_fault.result c.in_ok-values.ensures.before
          (c.marks_left.result, c.run_fault.ensures.same e.no_memory, e.no_memory, always_end (MarksMeet c.read_marks.new.present) c.marks_left.result e.met),
    )

pub returns-in_err-values-clause-none : goal.returns-in_err-values-clause-none
returns-in_err-values-clause-none c =
    let p = err_from_is_err_and c.from_residual.result c.from_residual.ensures.1 in
    rw (p.1, p.2) (λ memory marks h e. lack_read (MarksLeft c.args.present.now) c.args.count c.in_err-values.ensures.none marks h e)

pub returns-in_err-values-clause-fault : goal.returns-in_err-values-clause-fault
returns-in_err-values-clause-fault c =
    let p = err_from_is_err_and c.from_residual.result c.from_residual.ensures.1 in
    rw (p.1, p.2) (λ memory.
    let e : c.args.count + 0 ≡ c.args.count = omega arith in
    (false, subst (λ (k : ℕ). PresentMet c.args.column c.args.present.now false k c.in_err-values.field-0.0) e (c.in_err-values.ensures.fault memory 0)))

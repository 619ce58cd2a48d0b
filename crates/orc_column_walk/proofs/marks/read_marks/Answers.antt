use Rattle.std.proofs.Common.{◌+◌, refl, arith}
use Rattle.std.proofs.lemmas.Result.{err_from_is_err_and}
use Rattle.orc_column_reader.specs.Columns.{MarksLeft}
use Rattle.orc_column_reader.specs.RunsMet.{MarksMeet}
use Rattle.orc_directory.specs.declared.fault.StreamKind.TheVariants.{Present}
use Rattle.orc_column_reader.proofs.NeedLemmas.{runs_now}
use Rattle.orc_column_walk.proofs.ReadLemmas.{read_lacks, read_fault, read_on}
use Rattle.orc_column_walk.proofs.MarkLemmas.{PresentMet, no_marks_read, mark_read}
use Rattle.orc_column_walk.proofs.marks.read_marks.Goals as goal

pub loop-init : goal.loop-init
loop-init c = no_marks_read c.args.column c.args.present.now

pub loop-preserved : goal.loop-preserved
loop-preserved c =
    mark_read c.args.column c.args.present.now c.loop.present c.next_mark.new.present c.loop.counter c.loop.values c.value_count.result _ c.in_ok-next_mark.field-0 c.loop.invariant
    c.in_ok-next_mark.ensures.found c.in_ok-next_mark.ensures.before c.value_count.ensures refl

pub returns-in_err-next_mark-clause-none : goal.returns-in_err-next_mark-clause-none
returns-in_err-next_mark-clause-none c =
    let p = err_from_is_err_and c.from_residual.result c.from_residual.ensures.1 in
    rw p.1 (read_lacks (MarksLeft c.args.present.now) (MarksLeft c.loop.present) (PresentMet c.args.column c.args.present.now) (PresentMet c.args.column c.loop.present) c.loop.counter c.args.count c.loop.invariant.marks c.loop.invariant.read c.loop-test.true c.in_err-next_mark.ensures.none)

pub returns-in_err-next_mark-clause-fault : goal.returns-in_err-next_mark-clause-fault
returns-in_err-next_mark-clause-fault c =
    let p = err_from_is_err_and c.from_residual.result c.from_residual.ensures.1 in
    rw (p.1, p.2) (λ memory n.
    read_fault (MarksLeft c.args.present.now) (MarksLeft c.loop.present) (PresentMet c.args.column c.args.present.now) (PresentMet c.args.column c.loop.present) c.loop.counter (c.args.count + n) c.loop.invariant.marks c.in_err-next_mark.field-0.0 c.loop.invariant.read (omega (arith, c.loop-test.true))
    (λ k. runs_now Present c.args.column k (MarksMeet c.loop.present) c.in_err-next_mark.field-0.0 (c.in_err-next_mark.ensures.fault memory)))

pub returns-clause-before : goal.returns-clause-before
returns-clause-before c =
    read_on (MarksLeft c.args.present.now) (MarksLeft c.loop.present) (PresentMet c.args.column c.args.present.now) (PresentMet c.args.column c.loop.present) c.loop.counter c.args.count c.loop.invariant.marks c.loop.invariant.read
    (omega (arith, c.loop-test.false, c.loop.auto.counter-end))

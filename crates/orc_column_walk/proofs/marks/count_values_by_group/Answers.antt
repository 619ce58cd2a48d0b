use Rattle.std.proofs.Common.{true}
use Rattle.orc_column_reader.specs.Columns.{MarksLeft}
use Rattle.orc_column_reader.specs.RunsMet.{MarksMeet}
use Rattle.orc_column_reader.proofs.NeedLemmas.{always_end}
use Rattle.orc_column_walk.proofs.ReadLemmas.{all_read, over_fault}
use Rattle.orc_column_walk.proofs.GroupMarkLemmas.{all_marked_before}
use Rattle.orc_column_walk.proofs.MarkLemmas.{PresentMet}
use Rattle.orc_column_walk.proofs.marks.count_values_by_group.Goals as goal

pub returns-then-is_none-clause-found : goal.returns-then-is_none-clause-found
returns-then-is_none-clause-found c = all_marked_before c.args.present.now c.args.count c.args.bounds.now c.in_ok-copy_bounds.field-0.items c.if-is_none.ensures c.requires.bounds c.in_ok-copy_bounds.ensures

pub returns-then-not-marks_end-clause-fault : goal.returns-then-not-marks_end-clause-fault
returns-then-not-marks_end-clause-fault c = λ memory.
    let e = c.marks_left.ensures in (
      true,
      over_fault (PresentMet c.args.column c.args.present.now) (PresentMet c.args.column c.read_groups_marks.new.present) c.args.count c.run_fault.result c.in-Ok.ensures.before
          (c.marks_left.result, c.run_fault.ensures.same e.no_memory, e.no_memory, always_end (MarksMeet c.read_groups_marks.new.present) c.marks_left.result e.met),
    )

pub returns-else-not-marks_end-clause-found : goal.returns-else-not-marks_end-clause-found
returns-else-not-marks_end-clause-found c =
    let f = c.in-Ok.ensures.found in
    let e = c.marks_end.ensures in
    let ended = rw c.if-not-marks_end.false at e in
    (f.0, f.1, all_read (MarksLeft c.args.present.now) (MarksLeft c.read_groups_marks.new.present) f.0 f.2 ended, f.3, f.4)

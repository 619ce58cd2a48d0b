use Rattle.std.proofs.Common.{◌∙◌, ℕ, List, ap, subst}
use Rattle.orc_io.specs.Devices.{appended}
use Rattle.orc_file_reader.specs.FileRows.{rows_together}
use Rattle.orc_tail.specs.declared.tail.Tail.{Tail}
use Rattle.orc_merger.specs.Merging.{IsMerge}
use Rattle.orc_merge_laws.specs.Grouping.{merge, all_leaves, Wrote}
use Rattle.orc_theorems.proofs.SumLemmas.{honest_have_rows, sum_told}
use Rattle.orc_theorems.proofs.merging.merge_theorem.Goals as goal

pub returns-clause-bytes : goal.returns-clause-bytes
returns-clause-bytes c = λ groups tail out old new wrote at_once.
    let gave = c.grouping.ensures.wrote groups out wrote in
    let flat = c.grouping.ensures.back groups out gave.0 gave.1 in
    let same = c.outcomes.ensures.one (all_leaves groups) flat.0 tail out at_once.bytes flat.1 at_once.merge in
    at_once.told_is ∙ ap (λ (b : List ℕ). appended old b) same.1

pub returns-clause-alike : goal.returns-clause-alike
returns-clause-alike c = λ groups others out other wrote theirs same. c.grouping.ensures.alike groups others out other same wrote theirs

pub returns-clause-merged : goal.returns-clause-merged
returns-clause-merged c = λ groups out wrote.
    let gave = c.grouping.ensures.wrote groups out wrote in
    let flat = c.grouping.ensures.back groups out gave.0 gave.1 in
    (flat.0, flat.1, wrote.4)

pub returns-clause-answered : goal.returns-clause-answered
returns-clause-answered c = λ groups files tail old new below last.
    let wrote : Wrote (merge groups) last.bytes = (files, tail, below, last.merge, last.few) in
    let gave = c.grouping.ensures.wrote groups last.bytes wrote in
    let flat = c.grouping.ensures.back groups last.bytes gave.0 gave.1 in
    let opens = c.grouping.ensures.accepted (all_leaves groups) flat.0 last.bytes flat.1 last.few in
    let same = c.tail_laws.ensures.one last.bytes flat.0 tail opens (c.grouping.ensures.accepted files tail last.bytes last.merge last.few) in
    record {
      bytes = last.bytes;
      merge = subst (λ (t : Tail). IsMerge (all_leaves groups) t last.bytes) same flat.1;
      few = last.few;
      told_is = last.told_is;
    }

pub returns-clause-given : goal.returns-clause-given
returns-clause-given c = λ groups out short. (
  λ gave. c.grouping.ensures.back groups out short gave,
  λ flat. c.grouping.ensures.same groups flat.0 out short flat.1,
)

pub returns-clause-opens : goal.returns-clause-opens
returns-clause-opens c = c.grouping.ensures.accepted

pub returns-clause-rows : goal.returns-clause-rows
returns-clause-rows c = c.grouping.ensures.rows

pub returns-clause-order : goal.returns-clause-order
returns-clause-order c = λ files others tail its_tail out other is its some_order.
    c.orders.ensures.merged files others tail its_tail out other some_order is its

pub returns-clause-orders : goal.returns-clause-orders
returns-clause-orders c = λ files others tail out is some_order. c.orders.ensures.exists files others tail out some_order is

pub returns-clause-statistics : goal.returns-clause-statistics
returns-clause-statistics c = λ files tail out parts is honest.
    (c.orders.ensures.honest files tail out parts is honest, c.orders.ensures.whole files tail out parts is honest)

pub returns-clause-sums : goal.returns-clause-sums
returns-clause-sums c = λ files tail out parts column is few honest lt.
    let whole = c.orders.ensures.whole files tail out parts is honest in
    let rows = c.grouping.ensures.rows files tail out parts is few (honest_have_rows files parts honest) in
    let cut = c.row_laws.ensures.whole tail.stripes out tail.schema (rows_together parts) rows.has_rows in
    sum_told c.orders.ensures.sum tail (rows_together parts) cut whole column lt

pub returns-clause-refused : goal.returns-clause-refused
returns-clause-refused c = c.grouping.ensures.refused

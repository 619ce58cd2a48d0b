use Rattle.std.proofs.Common.{inl, inr}
use Rattle.std.proofs.lemmas.Result.{IfOk-at_ok, IfErr-at_err, err_from_is_err_and}
use Rattle.orc_merge_laws.specs.Grouping.{Wrote}
use Rattle.orc_merger.specs.declared.fault.MergeFault.{MergeFault}
use Rattle.orc_theorems.specs.Groupings.{first_two, last_two, IsStepAnswer}
use Rattle.orc_theorems.specs.declared.memory.FileInMemory.{FileInMemory}
use Rattle.orc_theorems.proofs.merging_calls.both_gave.Goals as goal

pub returns-then-left-clause-gave : goal.returns-then-left-clause-gave
returns-then-left-clause-gave c =
    let one = c.in_ok-left.ensures.gave in
    let other = c.in_ok-right.ensures.gave in
    let left = IfOk-at_ok (λ (done : FileInMemory). Wrote (first_two c.args.first.now c.args.second.now c.args.third.now) done.bytes.items) one.1 c.join_in_steps.ensures.wrote in
    let right = IfOk-at_ok (λ (done : FileInMemory). Wrote (last_two c.args.first.now c.args.second.now c.args.third.now) done.bytes.items) other.1 c.join_from_the_last.ensures.wrote in
    (one.0.bytes.items, other.0.bytes.items, left, right, (λ yes. (one.2.0 c.if-left.true, other.2.0 yes), λ same. other.2.1 same.1))

pub returns-else-left-clause-gave : goal.returns-else-left-clause-gave
returns-else-left-clause-gave c =
    let one = c.in_ok-left.ensures.gave in
    let other = c.in_ok-right.ensures.gave in
    let left = IfOk-at_ok (λ (done : FileInMemory). Wrote (first_two c.args.first.now c.args.second.now c.args.third.now) done.bytes.items) one.1 c.join_in_steps.ensures.wrote in
    let right = IfOk-at_ok (λ (done : FileInMemory). Wrote (last_two c.args.first.now c.args.second.now c.args.third.now) done.bytes.items) other.1 c.join_from_the_last.ensures.wrote in
    (one.0.bytes.items, other.0.bytes.items, left, right, (λ yes. let is = yes in let no = c.if-left.false in cc, λ same. one.2.1 same.0))

pub returns-in_err-left-clause-refused : goal.returns-in_err-left-clause-refused
returns-in_err-left-clause-refused c =
    let p = err_from_is_err_and c.from_residual.result c.from_residual.ensures.1 in
    rw (p.1, p.2) (inl (IfErr-at_err (λ (e : MergeFault). IsStepAnswer (first_two c.args.first.now c.args.second.now c.args.third.now) e) c.in_err-left.ensures.fault c.join_in_steps.ensures.step))

pub returns-in_err-right-clause-refused : goal.returns-in_err-right-clause-refused
returns-in_err-right-clause-refused c =
    let p = err_from_is_err_and c.from_residual-in_err-right.result c.from_residual-in_err-right.ensures.1 in
    rw (p.1, p.2) (inr (IfErr-at_err (λ (e : MergeFault). IsStepAnswer (last_two c.args.first.now c.args.second.now c.args.third.now) e) c.in_err-right.ensures.fault c.join_from_the_last.ensures.step))

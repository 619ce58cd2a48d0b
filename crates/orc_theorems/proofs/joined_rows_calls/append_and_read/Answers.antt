use Rattle.std.proofs.Common.{◌≡◌, List, [], ◌∷◌, ◌++◌, inr, subst}
use Rattle.std.proofs.lemmas.Result.{IfOk-weaker, IfErr-weaker, err_from_is_err_and}
use Rattle.orc_values.specs.Cells.{Cell}
use Rattle.orc_values.specs.Views.{views}
use Rattle.orc_merge_laws.specs.Grouping.{HaveRows}
use Rattle.orc_theorems.specs.declared.joined_rows_calls.JoinedRows.{JoinedRows}
use Rattle.orc_theorems.proofs.ReadLemmas.{read_back}
use Rattle.orc_theorems.proofs.RefusalLemmas.{file_there, was_written, append_fault, both_ok}
use Rattle.orc_theorems.proofs.joined_rows_calls.append_and_read.Goals as goal

pub returns-clause-before : goal.returns-clause-before
returns-clause-before c = IfOk-weaker c.join_and_read.result _ _ (λ done have. have.0) c.join_and_read.ensures.before

pub returns-clause-written : goal.returns-clause-written
returns-clause-written c =
    let file = c.in_ok-written.written in
    IfOk-weaker c.join_and_read.result _ _ (λ done have.
    (read_back c.written_files_read_back.ensures.read c.args.options c.args.schema file.tail file.bytes.items c.deref.result.now (views c.args.rows.now)
    have.1.0.0 (views done.second.items) c.in_ok-written.ensures.wrote c.deref.ensures.value have.1.0.1).1) c.join_and_read.ensures.before

pub returns-clause-after : goal.returns-clause-after
returns-clause-after c = c.join_and_read.ensures.after

pub returns-clause-joined : goal.returns-clause-joined
returns-clause-joined c =
    let file = c.in_ok-written.written in
    let rows = views c.args.rows.now in
    both_ok c.join_and_read.result
    (λ (done : JoinedRows). HaveRows (c.args.file.now ∷ c.deref.result.now ∷ []) (views done.first.items ∷ views done.second.items ∷ []))
    (λ (done : JoinedRows). views done.rows.items ≡ views done.first.items ++ views done.second.items)
    (λ (done : JoinedRows). views done.rows.items ≡ views done.first.items ++ rows)
    (λ done have all.
    let back = read_back c.written_files_read_back.ensures.read c.args.options c.args.schema file.tail file.bytes.items c.deref.result.now rows
    have.1.0.0 (views done.second.items) c.in_ok-written.ensures.wrote c.deref.ensures.value have.1.0.1 in
    subst (λ (l : List Cell). views done.rows.items ≡ views done.first.items ++ l) back.1 all) c.join_and_read.ensures.before c.join_and_read.ensures.joined

pub returns-clause-refused : goal.returns-clause-refused
returns-clause-refused c =
    let file = c.in_ok-written.written in
    let rows = views c.args.rows.now in
    let there = c.deref.result.now in
    let is = file_there c.written_files_read_back.ensures.written c.args.options c.args.schema file.tail file.bytes.items there rows c.in_ok-written.ensures.wrote c.deref.ensures.value in
    let was = was_written c.args.options c.args.schema file.tail file.bytes.items there rows c.in_ok-written.ensures.wrote c.deref.ensures.value in
    IfErr-weaker c.join_and_read.result _ _ (λ e why. append_fault c.tail_laws.ensures.none c.row_laws.ensures.none c.tail_laws.ensures.one c.args.file.now there
    c.args.options c.args.schema file.tail rows e is was why) c.join_and_read.ensures.refused

pub returns-in_err-written-clause-refused : goal.returns-in_err-written-clause-refused
returns-in_err-written-clause-refused c =
    let p = err_from_is_err_and c.from_residual.result c.from_residual.ensures.1 in
    rw (p.1, p.2) (inr c.in_err-written.ensures.refused)

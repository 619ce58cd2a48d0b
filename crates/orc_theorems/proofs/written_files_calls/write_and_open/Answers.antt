use Rattle.std.proofs.Common.{ℕ, List, [], Some, inr, sym, subst}
use Rattle.std.proofs.lemmas.Result.{err_from_is_err_and}
use Rattle.orc_values.specs.Views.{views}
use Rattle.orc_file_reader.specs.Honest.{Honest, HasWholeStats}
use Rattle.orc_tail.specs.Tails.{IsTail}
use Rattle.orc_tail.specs.declared.tail.Tail.{Tail}
use Rattle.orc_theorems.proofs.RefusalLemmas.{file_there, source_or_write}
use Rattle.orc_theorems.proofs.ReadLemmas.{opened_back}
use Rattle.orc_theorems.proofs.written_files_calls.write_and_open.Goals as goal

pub returns-clause-opened : goal.returns-clause-opened
returns-clause-opened c = subst (λ (b : List ℕ). IsTail b c.in_ok-tail.tail) c.deref.ensures.value c.in_ok-tail.ensures.found

pub returns-clause-same : goal.returns-clause-same
returns-clause-same c =
    let file = c.in_ok-written.written in
    opened_back c.written_files_read_back.ensures.opened c.args.options c.args.schema file.tail file.bytes.items c.deref.result.now (views c.args.rows.now) c.in_ok-tail.tail
    c.in_ok-written.ensures.wrote c.deref.ensures.value c.in_ok-tail.ensures.found

pub returns-clause-statistics : goal.returns-clause-statistics
returns-clause-statistics c =
    let file = c.in_ok-written.written in
    let rows = views c.args.rows.now in
    let same = opened_back c.written_files_read_back.ensures.opened c.args.options c.args.schema file.tail file.bytes.items c.deref.result.now rows c.in_ok-tail.tail
    c.in_ok-written.ensures.wrote c.deref.ensures.value c.in_ok-tail.ensures.found in
    subst (λ (t : Tail). Honest t rows × HasWholeStats t rows) (sym same)
    (c.written_files_read_back.ensures.statistics c.args.options c.args.schema file.tail (Some []) (Some file.bytes.items) rows c.in_ok-written.ensures.wrote)

pub returns-in_err-written-clause-refused : goal.returns-in_err-written-clause-refused
returns-in_err-written-clause-refused c =
    let p = err_from_is_err_and c.from_residual.result c.from_residual.ensures.1 in
    rw (p.1, p.2) (inr c.in_err-written.ensures.refused)

pub returns-in_err-tail-clause-refused : goal.returns-in_err-tail-clause-refused
returns-in_err-tail-clause-refused c =
    let p = err_from_is_err_and c.from_residual-in_err-tail.result c.from_residual-in_err-tail.ensures.1 in
    let file = c.in_ok-written.written in
    let rows = views c.args.rows.now in
    let is = file_there c.written_files_read_back.ensures.written c.args.options c.args.schema file.tail file.bytes.items c.deref.result.now rows c.in_ok-written.ensures.wrote c.deref.ensures.value in
    rw (p.1, p.2) (source_or_write c.args.options c.args.schema rows c.in_err-tail.field-0.0 (c.in_err-tail.ensures.only file.tail is.tail_is))

use Rattle.std.proofs.Common.{inr}
use Rattle.std.proofs.lemmas.Result.{err_from_is_err_and}
use Rattle.orc_values.specs.Views.{views}
use Rattle.orc_theorems.proofs.ReadLemmas.{read_back, file_back, nothing_back}
use Rattle.orc_theorems.proofs.RefusalLemmas.{file_there, source_or_write}
use Rattle.orc_theorems.proofs.written_files_calls.write_and_read.Goals as goal

pub returns-clause-read : goal.returns-clause-read
returns-clause-read c =
    let read = c.in_ok-read.ensures.found in
    file_back c.written_files_read_back.ensures.read c.args.options c.args.schema c.in_ok-file.file.tail c.in_ok-file.file.bytes.items c.deref.result.now (views c.args.rows.now)
    read.0 (views c.in_ok-read.read.items) c.in_ok-file.ensures.wrote c.deref.ensures.value read.1

pub returns-clause-same : goal.returns-clause-same
returns-clause-same c =
    let read = c.in_ok-read.ensures.found in
    (read_back c.written_files_read_back.ensures.read c.args.options c.args.schema c.in_ok-file.file.tail c.in_ok-file.file.bytes.items c.deref.result.now (views c.args.rows.now)
    read.0 (views c.in_ok-read.read.items) c.in_ok-file.ensures.wrote c.deref.ensures.value read.1).1

pub returns-clause-nothing : goal.returns-clause-nothing
returns-clause-nothing c =
    nothing_back c.written_files_read_back.ensures.read c.written_files_read_back.ensures.checked c.args.options c.args.schema c.in_ok-file.file.tail
    c.in_ok-file.file.bytes.items c.deref-2.result.now (views c.args.rows.now) c.in_ok-found.found.items c.in_ok-file.ensures.wrote c.deref-2.ensures.value c.in_ok-found.ensures.found

pub returns-in_err-file-clause-refused : goal.returns-in_err-file-clause-refused
returns-in_err-file-clause-refused c =
    let p = err_from_is_err_and c.from_residual.result c.from_residual.ensures.1 in
    rw (p.1, p.2) (inr c.in_err-file.ensures.refused)

pub returns-in_err-read-clause-refused : goal.returns-in_err-read-clause-refused
returns-in_err-read-clause-refused c =
    let p = err_from_is_err_and c.from_residual-in_err-read.result c.from_residual-in_err-read.ensures.1 in
    let file = c.in_ok-file.file in
    let rows = views c.args.rows.now in
    let is = file_there c.written_files_read_back.ensures.written c.args.options c.args.schema file.tail file.bytes.items c.deref.result.now rows c.in_ok-file.ensures.wrote c.deref.ensures.value in
    rw (p.1, p.2) (source_or_write c.args.options c.args.schema rows c.in_err-read.field-0.0 (c.in_err-read.ensures.only file.tail rows is))

pub returns-in_err-found-clause-refused : goal.returns-in_err-found-clause-refused
returns-in_err-found-clause-refused c =
    let p = err_from_is_err_and c.from_residual-in_err-found.result c.from_residual-in_err-found.ensures.1 in
    let file = c.in_ok-file.file in
    let rows = views c.args.rows.now in
    let is = file_there c.written_files_read_back.ensures.written c.args.options c.args.schema file.tail file.bytes.items c.deref-2.result.now rows c.in_ok-file.ensures.wrote c.deref-2.ensures.value in
    rw (p.1, p.2) (source_or_write c.args.options c.args.schema rows c.in_err-found.field-0.0 (c.in_err-found.ensures.only file.tail rows is))

use Rattle.std.proofs.Common.{◌≡◌, [], length, sym, subst}
use Rattle.std.specs.Prelude.{IfOk}
use Rattle.std.proofs.lemmas.Result.{err_from_is_err_and}
use Rattle.orc_skipping.specs.Tests.{predicate}
use Rattle.orc_tail.specs.declared.tail.Tail.{Tail}
use Rattle.orc_file_reader.specs.FileRows.{FileIs}
use Rattle.orc_check.specs.Findings.{Findings}
use Rattle.orc_theorems.specs.KeptGroups.{AreGroupsKept}
use Rattle.orc_theorems.proofs.skipping_calls.keep_in_file.Goals as goal

pub returns-in_err-file-clause-only : goal.returns-in_err-file-clause-only
returns-in_err-file-clause-only c =
    let p = err_from_is_err_and c.from_residual.result c.from_residual.ensures.1 in
    rw (p.1, p.2) (λ tail rows is found below. c.in_err-file.ensures.only tail is.tail_is)

pub returns-clause-kept : goal.returns-clause-kept
returns-clause-kept c = λ tail rows is found.
    let file = c.in_ok-file.file in
    let bytes = c.args.bytes.now in
    let same : file.tail ≡ tail = c.tail_laws.ensures.one bytes file.tail tail c.in_ok-file.ensures.found is.tail_is in
    subst (λ (t : Tail). IfOk c.keep_in_stripes.result (λ places. AreGroupsKept bytes t c.args.column (predicate c.args.test.now) (length t.stripes) places.items)) same
    (c.keep_in_stripes.ensures.kept bytes rows c.in_ok-file.ensures.told (subst (λ (t : Tail). FileIs bytes t rows) (sym same) is) (subst (λ (t : Tail). Findings bytes t rows []) (sym same) found))

pub returns-clause-only : goal.returns-clause-only
returns-clause-only c = λ tail rows is found below.
    let file = c.in_ok-file.file in
    let bytes = c.args.bytes.now in
    let same : file.tail ≡ tail = c.tail_laws.ensures.one bytes file.tail tail c.in_ok-file.ensures.found is.tail_is in
    c.keep_in_stripes.ensures.only bytes rows c.in_ok-file.ensures.told (subst (λ (t : Tail). FileIs bytes t rows) (sym same) is) (subst (λ (t : Tail). Findings bytes t rows []) (sym same) found)
    (rw (← same) at below)

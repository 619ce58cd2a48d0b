use Rattle.std.proofs.Common.{◌≡◌, ◌<◌, sym, subst}
use Rattle.std.specs.Prelude.{IfOk, IfErr}
use Rattle.std.proofs.lemmas.Result.{err_from_is_err_and}
use Rattle.orc_values.specs.Shapes.{width}
use Rattle.orc_file_reader.specs.FileRows.{FileIs}
use Rattle.orc_check.specs.RightIndexes.{StartsAtGroups}
use Rattle.orc_tail.specs.declared.tail.Tail.{Tail}
use Rattle.orc_theorems.specs.Places.{IsPlace}
use Rattle.orc_theorems.specs.OneRunPositions.{ReadsOneRun}
use Rattle.orc_theorems.specs.SoughtGroups.{IsSoughtInFile, IsSeekFault}
use Rattle.orc_theorems.proofs.SoughtLemmas.{load_fault}
use Rattle.orc_theorems.proofs.written_positions_calls.seek_in_file.Goals as goal

pub returns-clause-sought : goal.returns-clause-sought
returns-clause-sought c = λ tail rows is reads.
    let file = c.in_ok-file.file in
    let bytes = c.args.bytes.now in
    let same : file.tail ≡ tail = c.tail_laws.ensures.one bytes file.tail tail c.in_ok-file.ensures.found is.tail_is in
    subst (λ (t : Tail). IfOk c.seek_in_stripe.result (IsSoughtInFile bytes t rows c.args.stripe c.args.column c.args.group)) same
    (c.seek_in_stripe.ensures.sought bytes rows c.in_ok-file.ensures.told (subst (λ (t : Tail). ReadsOneRun bytes t rows) (sym same) reads))

pub returns-clause-refused : goal.returns-clause-refused
returns-clause-refused c = λ tail is.
    let file = c.in_ok-file.file in
    let same : file.tail ≡ tail = c.tail_laws.ensures.one c.args.bytes.now file.tail tail c.in_ok-file.ensures.found is in
    subst (λ (t : Tail). IfErr c.seek_in_stripe.result (IsSeekFault t c.args.stripe)) same (c.seek_in_stripe.ensures.refused c.in_ok-file.ensures.cap)

pub returns-in_err-file-clause-refused : goal.returns-in_err-file-clause-refused
returns-in_err-file-clause-refused c = λ tail is.
    let p = err_from_is_err_and c.from_residual.result c.from_residual.ensures.1 in
    rw (p.1, p.2) (load_fault tail c.args.stripe c.in_err-file.field-0.0 (c.in_err-file.ensures.only tail is))

pub returns-clause-only : goal.returns-clause-only
returns-clause-only c = λ tail rows is reads starts place below.
    let file = c.in_ok-file.file in
    let bytes = c.args.bytes.now in
    let same : file.tail ≡ tail = c.tail_laws.ensures.one bytes file.tail tail c.in_ok-file.ensures.found is.tail_is in
    c.seek_in_stripe.ensures.only bytes rows c.in_ok-file.ensures.told c.in_ok-file.ensures.cap (subst (λ (t : Tail). FileIs bytes t rows) (sym same) is)
    (subst (λ (t : Tail). ReadsOneRun bytes t rows) (sym same) reads) (subst (λ (t : Tail). StartsAtGroups bytes t rows) (sym same) starts)
    (subst (λ (t : Tail). IsPlace t c.args.stripe c.args.group) (sym same) place) (subst (λ (t : Tail). c.args.column < width t.schema) (sym same) below)

pub returns-in_err-file-clause-only : goal.returns-in_err-file-clause-only
returns-in_err-file-clause-only c = λ tail rows is reads starts place below.
    let p = err_from_is_err_and c.from_residual.result c.from_residual.ensures.1 in
    rw (p.1, p.2) (c.in_err-file.ensures.only tail is.tail_is)

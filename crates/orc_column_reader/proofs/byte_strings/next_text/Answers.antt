use Rattle.std.proofs.Common.{suc, false, ap, inl}
use Rattle.std.proofs.lemmas.Str.{is_utf8-from_IsUtf8, IsUtf8-from_is_utf8}
use Rattle.std.proofs.lemmas.Result.{err_from_is_err_and}
use Rattle.orc_values.specs.Cells.{leaf, text}
use Rattle.orc_column_reader.specs.Numbers.{NumbersLeft}
use Rattle.orc_column_reader.specs.Octets.{OctetsLeft}
use Rattle.orc_column_reader.specs.Spellings.{Sized}
use Rattle.orc_column_reader.specs.Columns.{IsText}
use Rattle.orc_column_reader.proofs.ReaderLemmas.{one_stands, nothing_stands, one_text}
use Rattle.orc_column_reader.proofs.OwnKinds.{text_kind}
use Rattle.orc_column_reader.proofs.MetLemmas.{text_before, text_now}
use Rattle.orc_column_reader.proofs.byte_strings.next_text.Goals as goal

pub returns-in-Ok-clause-found : goal.returns-in-Ok-clause-found
returns-in-Ok-clause-found c =
    one_stands IsText one_text (Sized (NumbersLeft c.args.numbers.now) (OctetsLeft c.args.octets.now)) (Sized (NumbersLeft c.next_string.new.numbers) (OctetsLeft c.next_string.new.octets)) c.in_ok-bytes.bytes.now _
    (is_utf8-from_IsUtf8 c.in_ok-bytes.bytes.now c.in-Ok.ensures.cases.1, ap (λ t. leaf (text t)) c.in-Ok.ensures.cases.0) c.in_ok-bytes.ensures.found

pub returns-in-Err-clause-none : goal.returns-in-Err-clause-none
returns-in-Err-clause-none c =
    nothing_stands IsText (Sized (NumbersLeft c.args.numbers.now) (OctetsLeft c.args.octets.now)) (Sized (NumbersLeft c.next_string.new.numbers) (OctetsLeft c.next_string.new.octets)) c.in_ok-bytes.bytes.now c.in_ok-bytes.ensures.found
    (λ y h. c.in-Err.ensures.cases.0 (IsUtf8-from_is_utf8 c.in_ok-bytes.bytes.now h.0))

pub returns-in-Ok-clause-before : goal.returns-in-Ok-clause-before
returns-in-Ok-clause-before c =
    λ all m f.
    text_before c.args.numbers.now c.next_string.new.numbers c.args.octets.now c.next_string.new.octets all m c.args.column c.in_ok-bytes.bytes.now f c.in_ok-bytes.ensures.first c.in_ok-bytes.ensures.bytes (c.in_ok-bytes.ensures.before all m f)

pub returns-in-Err-clause-fault : goal.returns-in-Err-clause-fault
returns-in-Err-clause-fault c =
    λ memory m.
    text_now c.args.numbers.now c.next_string.new.numbers c.args.octets.now c.next_string.new.octets false (suc m) c.args.column c.in_ok-bytes.bytes.now c.in_ok-bytes.ensures.first c.in_ok-bytes.ensures.bytes (λ h. c.in-Err.ensures.cases.0 (IsUtf8-from_is_utf8 c.in_ok-bytes.bytes.now h))

pub returns-in_err-bytes-clause-fault : goal.returns-in_err-bytes-clause-fault
returns-in_err-bytes-clause-fault c =
    let p = err_from_is_err_and c.from_residual.result c.from_residual.ensures.1 in
    rw (p.1, p.2) (λ memory m. inl (c.in_err-bytes.ensures.fault memory m))

pub returns-in-Ok-clause-kind : goal.returns-in-Ok-clause-kind
returns-in-Ok-clause-kind c =
    text_kind c.in_ok-bytes.bytes.now _ (is_utf8-from_IsUtf8 c.in_ok-bytes.bytes.now c.in-Ok.ensures.cases.1, ap (λ t. leaf (text t)) c.in-Ok.ensures.cases.0)

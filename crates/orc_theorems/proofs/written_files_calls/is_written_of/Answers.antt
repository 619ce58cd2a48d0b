use Rattle.std.proofs.Common.{◌≡◌, ◌∙◌, [], Some, refl, sym}
use Rattle.std.proofs.lemmas.Result.{err_from_is_err_and}
use Rattle.orc_values.specs.Views.{views}
use Rattle.orc_theorems.proofs.Told.{bytes_are}
use Rattle.orc_theorems.proofs.written_files_calls.is_written_of.Goals as goal

pub returns-clause-same : goal.returns-clause-same
returns-clause-same c =
    let own = c.in_ok-own.own in
    let wrote = c.in_ok-own.ensures.wrote in
    let rows = views c.args.rows.now in
    let there = c.deref.ensures.value in
    let mine : wrote.bytes ≡ own.bytes.items = bytes_are (Some []) (Some own.bytes.items) own.bytes.items wrote.bytes refl refl wrote.told_is in (
      λ yes. (own.tail, Some [], Some own.bytes.items, wrote, sym (c.is_same.ensures.0 yes) ∙ there ∙ sym mine),
      λ was. c.is_same.ensures.1 (there ∙ sym mine
          ∙ (c.written_files_read_back.ensures.one c.args.options c.args.schema was.0 own.tail was.1 was.2 (Some []) (Some own.bytes.items) rows was.3 wrote).1 ∙ sym was.4),
    )

pub returns-in_err-own-clause-refused : goal.returns-in_err-own-clause-refused
returns-in_err-own-clause-refused c =
    let p = err_from_is_err_and c.from_residual.result c.from_residual.ensures.1 in
    rw (p.1, p.2) c.in_err-own.ensures.refused

use Rattle.std.proofs.Common.{◌≡◌, ◌∙◌, ◌<◌, ℕ, List, [], Some, inl, inr, refl, sym, ap, subst}
use Rattle.std.proofs.lemmas.Result.{IfOk-weaker, IfErr-weaker, err_from_is_err_and}
use Rattle.orc_values.specs.Shapes.{Shape, width}
use Rattle.orc_values.specs.Views.{views}
use Rattle.orc_file_reader.specs.FileRows.{FileIs}
use Rattle.orc_tail.specs.declared.tail.Tail.{Tail}
use Rattle.orc_check.specs.RightIndexes.{StartsAtGroups}
use Rattle.orc_theorems.specs.OneRunPositions.{ReadsOneRun}
use Rattle.orc_theorems.specs.Places.{IsPlace}
use Rattle.orc_theorems.specs.Refusals.{IsSourceFault}
use Rattle.orc_theorems.specs.SoughtGroups.{IsSoughtInFile}
use Rattle.orc_theorems.proofs.RefusalLemmas.{source_or_write, err_if}
use Rattle.orc_theorems.proofs.Told.{bytes_are}
use Rattle.orc_theorems.proofs.written_positions_calls.write_and_seek.Goals as goal

pub returns-clause-one_run : goal.returns-clause-one_run
returns-clause-one_run c =
    let file = c.in_ok-file.file in
    let wrote = c.in_ok-file.ensures.wrote in
    let rows = views c.args.rows.now in
    let same : wrote.bytes ≡ c.deref.result.now = bytes_are (Some []) (Some file.bytes.items) file.bytes.items wrote.bytes refl refl wrote.told_is ∙ sym c.deref.ensures.value in
    let is = (c.writers_positions.ensures.written c.args.options c.args.schema file.tail (Some []) (Some file.bytes.items) rows wrote).0 in
    let reads = c.writers_positions.ensures.in_files c.args.options c.args.schema file.tail (Some []) (Some file.bytes.items) rows wrote in
    IfOk-weaker c.seek_in_file.result _ _ (λ found there. (there.group.sought.present.one_run, there.group.sought.own.one_run))
    (c.seek_in_file.ensures.sought file.tail rows (subst (λ (b : List ℕ). FileIs b file.tail rows) same is) (subst (λ (b : List ℕ). ReadsOneRun b file.tail rows) same reads))

pub returns-clause-sought : goal.returns-clause-sought
returns-clause-sought c =
    let file = c.in_ok-file.file in
    let wrote = c.in_ok-file.ensures.wrote in
    let rows = views c.args.rows.now in
    let same : wrote.bytes ≡ c.deref.result.now = bytes_are (Some []) (Some file.bytes.items) file.bytes.items wrote.bytes refl refl wrote.told_is ∙ sym c.deref.ensures.value in
    let is = (c.writers_positions.ensures.written c.args.options c.args.schema file.tail (Some []) (Some file.bytes.items) rows wrote).0 in
    let reads = c.writers_positions.ensures.in_files c.args.options c.args.schema file.tail (Some []) (Some file.bytes.items) rows wrote in
    IfOk-weaker c.seek_in_file.result _ _ (λ found there.
    (file.tail, Some [], Some file.bytes.items, wrote, subst (λ (b : List ℕ). IsSoughtInFile b file.tail rows c.args.stripe c.args.column c.args.group found) (sym same) there))
    (c.seek_in_file.ensures.sought file.tail rows (subst (λ (b : List ℕ). FileIs b file.tail rows) same is) (subst (λ (b : List ℕ). ReadsOneRun b file.tail rows) same reads))

pub returns-clause-refused : goal.returns-clause-refused
returns-clause-refused c =
    let file = c.in_ok-file.file in
    let wrote = c.in_ok-file.ensures.wrote in
    let rows = views c.args.rows.now in
    let same : wrote.bytes ≡ c.deref.result.now = bytes_are (Some []) (Some file.bytes.items) file.bytes.items wrote.bytes refl refl wrote.told_is ∙ sym c.deref.ensures.value in
    let is = subst (λ (b : List ℕ). FileIs b file.tail rows) same (c.writers_positions.ensures.written c.args.options c.args.schema file.tail (Some []) (Some file.bytes.items) rows wrote).0 in
    IfErr-weaker c.seek_in_file.result _ _ (λ e why. inr (file.tail, Some [], Some file.bytes.items, wrote, why)) (c.seek_in_file.ensures.refused file.tail is.tail_is)

pub returns-in_err-file-clause-refused : goal.returns-in_err-file-clause-refused
returns-in_err-file-clause-refused c =
    let p = err_from_is_err_and c.from_residual.result c.from_residual.ensures.1 in
    rw (p.1, p.2) (inl c.in_err-file.ensures.refused)

pub returns-in_err-file-clause-only : goal.returns-in_err-file-clause-only
returns-in_err-file-clause-only c =
    let p = err_from_is_err_and c.from_residual.result c.from_residual.ensures.1 in
    rw (p.1, p.2) (λ tail first told its place below. inr c.in_err-file.ensures.refused)

pub returns-clause-only : goal.returns-clause-only
returns-clause-only c =
    let file = c.in_ok-file.file in
    let wrote = c.in_ok-file.ensures.wrote in
    let rows = views c.args.rows.now in
    let options = c.args.options in
    let schema = c.args.schema in
    let there = c.deref.result.now in
    let same : wrote.bytes ≡ there = bytes_are (Some []) (Some file.bytes.items) file.bytes.items wrote.bytes refl refl wrote.told_is ∙ sym c.deref.ensures.value in
    let is = (c.writers_positions.ensures.written options schema file.tail (Some []) (Some file.bytes.items) rows wrote).0 in
    let reads = c.writers_positions.ensures.in_files options schema file.tail (Some []) (Some file.bytes.items) rows wrote in
    let none = c.written_finding_laws.ensures options schema file.tail wrote.bytes rows wrote.file is in
    let starts = c.reading_from_the_middle.ensures.starts wrote.bytes file.tail rows is none in
    let there_is : Type 0 = IsPlace file.tail c.args.stripe c.args.group × (c.args.column < width file.tail.schema) in
    let of_schema : file.tail.schema ≡ schema = ap (λ (t : Tail). t.schema) wrote.file.tail_is in
    IfErr-weaker c.seek_in_file.result (λ e. there_is → IsSourceFault e) _ (λ e why tail first told its place below.
    let one : tail ≡ file.tail = (c.written_files_read_back.ensures.one options schema file.tail tail (Some []) (Some file.bytes.items) first told rows wrote its).0 in
    source_or_write options schema rows e (why (
      subst (λ (t : Tail). IsPlace t c.args.stripe c.args.group) one place,
      subst (λ (s : Shape). c.args.column < width s) (sym of_schema) below,
    ))) (err_if c.seek_in_file.result there_is IsSourceFault (λ h. c.seek_in_file.ensures.only file.tail rows (subst (λ (b : List ℕ). FileIs b file.tail rows) same is)
    (subst (λ (b : List ℕ). ReadsOneRun b file.tail rows) same reads) (subst (λ (b : List ℕ). StartsAtGroups b file.tail rows) same starts) h.0 h.1))

use Rattle.std.proofs.Common.{◌≡◌, ◌∙◌, ℕ, List, inl, inr, sym, subst}
use Rattle.std.specs.Prelude.{MatchResult}
use Rattle.std.proofs.lemmas.Result.{IfOk-weaker, IfErr-weaker}
use Rattle.orc_io.proofs.Told.{at_told}
use Rattle.orc_values.specs.Cells.{Cell}
use Rattle.orc_values.specs.Views.{views}
use Rattle.orc_file_reader.specs.FileRows.{FileIs}
use Rattle.orc_file_reader.specs.StripeCaps.{FirstCapped}
use Rattle.orc_tail.specs.Tails.{IsTail, TailOpenFault}
use Rattle.orc_tail.specs.declared.tail.Tail.{Tail}
use Rattle.orc_theorems.specs.Refusals.{IsSourceFault}
use Rattle.orc_theorems.proofs.FoundLemmas.{only_err}
use Rattle.orc_theorems.proofs.RefusalLemmas.{read_fault}
use Rattle.orc_theorems.proofs.written_files_calls.read_rows.Goals as goal

pub returns-in-Ok-clause-found : goal.returns-in-Ok-clause-found
returns-in-Ok-clause-found c =
    let opened = at_told _ c.args.bytes.now (λ (b : List ℕ). IsTail b c.in-Ok.file.tail) c.new.ensures.told c.in-Ok.ensures.found in
    IfOk-weaker c.rows.result _ _ (λ rows read.
    (c.in-Ok.file.tail, at_told _ c.args.bytes.now (λ (b : List ℕ). IsTail b c.in-Ok.file.tail → FileIs b c.in-Ok.file.tail (views rows.items)) (c.in-Ok.ensures.source.told ∙ c.new.ensures.told) read opened)) c.rows.ensures.found

pub returns-in-Ok-clause-only : goal.returns-in-Ok-clause-only
returns-in-Ok-clause-only c = λ tail rows is.
    let file = c.in-Ok.file in
    let bytes = c.args.bytes.now in
    let told = c.in-Ok.ensures.source.told ∙ c.new.ensures.told in
    let same : file.tail ≡ tail = at_told _ bytes (λ (b : List ℕ). (t : Tail) → IsTail b t → file.tail ≡ t) c.new.ensures.told c.in-Ok.ensures.only tail is.tail_is in
    let mine : FileIs bytes file.tail rows = subst (λ (t : Tail). FileIs bytes t rows) (sym same) is in
    let within = c.rows.ensures.uncapped c.in-Ok.ensures.cap in
    only_err c.rows.result (λ answered. views answered.items ≡ rows) IsSourceFault
    (at_told _ bytes (λ (b : List ℕ). (rs : List Cell) → FileIs b file.tail rs → MatchResult c.rows.result (λ answered. views answered.items ≡ rs) IsSourceFault) told
    (c.rows.ensures.only within) rows mine)

pub returns-in-Ok-clause-refused : goal.returns-in-Ok-clause-refused
returns-in-Ok-clause-refused c =
    let file = c.in-Ok.file in
    let bytes = c.args.bytes.now in
    let told = c.in-Ok.ensures.source.told ∙ c.new.ensures.told in
    let opened : IsTail bytes file.tail = at_told _ bytes (λ (b : List ℕ). IsTail b file.tail) c.new.ensures.told c.in-Ok.ensures.found in
    let within = c.rows.ensures.uncapped c.in-Ok.ensures.cap in
    IfErr-weaker c.rows.result _ _ (λ e h. read_fault _ bytes e (λ (b : List ℕ). FirstCapped file.cap file.tail.schema b 0 file.tail.stripes e) told
    (λ q. inr (file.tail, opened, c.cap_laws.ensures.refused file.cap file.tail.schema bytes file.tail.stripes e within q)) h) c.rows.ensures.fault

pub returns-in-Err-clause-only : goal.returns-in-Err-clause-only
returns-in-Err-clause-only c = λ tail rows is.
    at_told _ c.args.bytes.now (λ (b : List ℕ). (t : Tail) → IsTail b t → IsSourceFault c.in-Err.fault) c.new.ensures.told c.in-Err.ensures.only tail is.tail_is

pub returns-in-Err-clause-refused : goal.returns-in-Err-clause-refused
returns-in-Err-clause-refused c =
    read_fault _ c.args.bytes.now c.in-Err.fault (λ (b : List ℕ). TailOpenFault b c.in-Err.fault) c.new.ensures.told (λ q. inl q) c.in-Err.ensures.fault

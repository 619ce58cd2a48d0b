use Rattle.std.proofs.Common.{◌≡◌, ◌∙◌, ℕ, List, Err, inl, inr, sym, ap, subst, arith}
use Rattle.std.specs.Prelude.{◌⊎◌, MatchResult}
use Rattle.orc_values.specs.Cells.{Cell}
use Rattle.orc_values.specs.Views.{views}
use Rattle.orc_file_reader.specs.FileRows.{FileIs}
use Rattle.orc_tail.specs.Tails.{IsTail}
use Rattle.orc_tail.specs.declared.tail.Tail.{Tail}
use Rattle.orc_tail.specs.declared.fault.FileFault.TheVariants.{OutOfMemory, SourceFailed}
use Rattle.orc_file_tests.proofs.ToldBytes.{only_one}
use Rattle.orc_file_tests.proofs.read_back.rows_of_file.Goals as goal
use Rattle.std.proofs.lemmas.Result.{IfOk-weaker}
use Rattle.orc_io.proofs.Told.{at_told}

pub returns-in-Ok-clause-read : goal.returns-in-Ok-clause-read
returns-in-Ok-clause-read c =
    let opened = at_told _ c.args.bytes.now (λ (b : List ℕ). IsTail b c.in-Ok.file.tail) c.new.ensures.told c.in-Ok.ensures.found in
    IfOk-weaker c.rows.result _ _ (λ rows read.
    (c.in-Ok.file.tail, at_told _ c.args.bytes.now (λ (b : List ℕ). IsTail b c.in-Ok.file.tail → FileIs b c.in-Ok.file.tail (views rows.items)) (c.in-Ok.ensures.source.told ∙ c.new.ensures.told) read opened)) c.rows.ensures.found

pub returns-in-Ok-clause-only : goal.returns-in-Ok-clause-only
returns-in-Ok-clause-only c = λ tail rows h.
    let same : c.in-Ok.file.tail ≡ tail = at_told _ c.args.bytes.now (λ (b : List ℕ). (t : Tail) → IsTail b t → c.in-Ok.file.tail ≡ t) c.new.ensures.told c.in-Ok.ensures.only tail h.tail_is in
    let is : FileIs c.args.bytes.now c.in-Ok.file.tail rows = subst (λ (t : Tail). FileIs c.args.bytes.now t rows) (sym same) h in
    let all = c.rows.ensures.only (c.rows.ensures.uncapped c.in-Ok.ensures.cap) in
    let found = at_told _ c.args.bytes.now (λ (b : List ℕ). (rs : List Cell) → FileIs b c.in-Ok.file.tail rs → MatchResult c.rows.result (λ answered. views answered.items ≡ rs) (λ fault. (fault ≡ OutOfMemory) ⊎ (fault ≡ SourceFailed))) (c.in-Ok.ensures.source.told ∙ c.new.ensures.told) all rows is in
    only_one c.rows.result _ OutOfMemory SourceFailed found (λ failed. let n = c.rows.ensures.source.failed failed in omega (arith, n))

pub returns-in-Err-clause-only : goal.returns-in-Err-clause-only
returns-in-Err-clause-only c = λ tail rows h.
    let fault = at_told _ c.args.bytes.now (λ (b : List ℕ). (t : Tail) → IsTail b t → (c.in-Err.fault ≡ OutOfMemory) ⊎ (c.in-Err.fault ≡ SourceFailed)) c.new.ensures.told c.in-Err.ensures.only tail h.tail_is in
    elim fault [ inl e ↦ e | inr e ↦ let n = c.in-Err.ensures.source.failed (ap Err e) in absurd (omega (arith, n)) ]

use Rattle.std.proofs.Common.{◌≡◌, ◌∙◌, ℕ, ◌<◌, List, slice_get, subst, arith}
use Rattle.std.specs.Prelude.{MatchBool}
use Rattle.orc_values.specs.Shapes.{width}
use Rattle.orc_stats.specs.declared.stat.Stat.{Stat}
use Rattle.orc_file_reader.specs.Honest.{known_whole_of}
use Rattle.std.proofs.lemmas.Option.{get_or_from_slice_get}
use Rattle.orc_check.specs.declared.finding.Finding.TheVariants.{FileStatistic}
use Rattle.orc_check.specs.Agreeing.{Tells}
use Rattle.orc_check.specs.Findings.{AddsFindings, Unless, OfEach, TellsFile}
use Rattle.orc_check.proofs.ReportLemmas.{adds_next, adds_report}
use Rattle.orc_check.proofs.file_columns.check_file.Goals as goal

pub loop-column-preserved : goal.loop-column-preserved
loop-column-preserved c = record {
  found = λ parts whole.
      let tail = c.args.tail.now in
      let n = c.loop-column.column in
      let lt : n < width tail.schema = omega (arith, c.loop-column-test.true, c.requires.many) in
      let b = c.tells.result in
      let P : List Stat → Stat → Type 0 = λ told stat. Tells (slice_get told n) stat in
      let told : c.as_slice-told.result.now ≡ tail.file_stats = c.as_slice-told.ensures in
      let whole_is : Stat = known_whole_of tail.schema tail.stripe_stats parts n in
      let right : c.index-right-column.result ≡ whole_is
      = c.index-right-column.is ∙ get_or_from_slice_get c.args.right.now n whole_is c.index-right-column.result (whole.each n lt) in
      let holds : MatchBool b (TellsFile tail parts n) (TellsFile tail parts n → ⊥)
      = subst (λ (x : Stat). MatchBool b (P tail.file_stats x) (P tail.file_stats x → ⊥)) right (subst (λ (t : List Stat). MatchBool b (P t c.index-right-column.result) (P t c.index-right-column.result → ⊥)) told c.tells.ensures) in
      adds_next (λ k. Unless (TellsFile tail parts k) (FileStatistic k)) n c.args.found.now.items c.loop-column.found.items c.report.new.found.items (c.loop-column.invariant.found parts whole)
      (adds_report (TellsFile tail parts n) b (FileStatistic n) c.loop-column.found.items c.report.new.found.items holds c.in_ok-report.ensures);
}

pub returns : goal.returns
returns c = λ parts whole.
    let tail = c.args.tail.now in
    let end : c.loop-column.column ≡ width tail.schema = omega (arith, c.loop-column-test.false, c.loop-column.auto.column-end, c.requires.many) in
    subst (λ (k : ℕ). AddsFindings (OfEach (λ j. Unless (TellsFile tail parts j) (FileStatistic j)) k) c.args.found.now.items c.loop-column.found.items) end (c.loop-column.invariant.found parts whole)

use Rattle.std.proofs.Common.{◌≡◌, ◌≢◌, ◌++◌, ◌⊎◌, ℕ, List, length, ap, Err, arith}
use Rattle.orc_values.specs.Cells.{Cell}
use Rattle.orc_tail.specs.declared.tail.Tail.{Tail}
use Rattle.orc_file_reader.specs.FileRows.{FileIs}
use Rattle.orc_cli_output.specs.Output.{write_failed}
use Rattle.orc_cli_check.specs.Lines.{finding_lines, IsFoundOf, IsNotChecked, IsSourceOrMemory}
use Rattle.orc_c.proofs.ToldLemmas.{at_file, not_checked}
use Rattle.orc_c.proofs.checking.findings_of.Goals as goal

pub returns-in-Ok-clause-found : goal.returns-in-Ok-clause-found
returns-in-Ok-clause-found c =
    let n = c.in-Ok.field-0.0 in
    let lines = c.check_to.new.out.items in
    let P : List ℕ → List ℕ → Type 0 = λ b o. IsFoundOf b (λ found. (n ≡ length found) × (lines ≡ o ++ finding_lines found)) in
    let said = at_file _ _ _ P c.new.ensures.told c.new-lines.ensures.items c.in-Ok.ensures.written in
    (said.0, said.1, said.2, said.3, said.4, said.5.1)

pub returns-in-Err-clause-refused : goal.returns-in-Err-clause-refused
returns-in-Err-clause-refused c =
    let e = c.in-Err.ensures in
    let was = c.in-Err.fault in
    let Why : List ℕ → List ℕ → Type 0 = λ b o. was ≢ write_failed → IsNotChecked b was in
    let Only : List ℕ → List ℕ → Type 0 = λ b o. (tail : Tail) (rows : List Cell) → FileIs b tail rows → (was ≡ write_failed) ⊎ IsSourceOrMemory was in
    not_checked _ was _ c.told_of.ensures (λ failed. let rose : 0 ≡ 1 = e.source.failed (ap Err failed) in omega (arith, rose))
    (at_file _ _ _ Why c.new.ensures.told c.new-lines.ensures.items e.refused)
    (at_file _ _ _ Only c.new.ensures.told c.new-lines.ensures.items e.only)

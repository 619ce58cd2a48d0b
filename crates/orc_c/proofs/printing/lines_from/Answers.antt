use Rattle.std.proofs.Common.{◌≡◌, ℕ, List, Some, ap, Err, arith}
use Rattle.orc_values.specs.Cells.{Cell}
use Rattle.orc_tail.specs.declared.tail.Tail.{Tail}
use Rattle.orc_file_reader.specs.FileRows.{FileIs}
use Rattle.orc_cli_output.specs.Output.{IsOutsideFile}
use Rattle.orc_cli_rows.specs.Rows.{HaveJson}
use Rattle.orc_cli_rows.specs.Printed.{IsAsked, ArePrinted, RefusesPlace}
use Rattle.orc_c.proofs.ToldLemmas.{at_file, not_printed}
use Rattle.orc_c.proofs.printing.lines_from.Goals as goal

pub returns-in-Ok-clause-printed : goal.returns-in-Ok-clause-printed
returns-in-Ok-clause-printed c =
    let lines = c.rows_to.new.out.items in
    let P : List ℕ → List ℕ → Type 0 = λ b o. (start : _) × IsAsked c.args.from start × ArePrinted b start (Some o) (Some lines) in
    at_file _ _ _ P c.new.ensures.told c.new-lines.ensures.items c.in-Ok.ensures.written

pub returns-in-Err-clause-refused : goal.returns-in-Err-clause-refused
returns-in-Err-clause-refused c =
    let e = c.in-Err.ensures in
    let was = c.in-Err.fault in
    let lines = c.rows_to.new.out.items in
    let Why : List ℕ → List ℕ → Type 0 = λ b o. RefusesPlace b c.args.from (Some o) (Some lines) was in
    let Only : List ℕ → List ℕ → Type 0 = λ b o. (tail : Tail) (rows : List Cell) → FileIs b tail rows → HaveJson tail.schema rows → IsOutsideFile was in
    not_printed _ lines _ was _ c.told_of.ensures (λ failed. let rose : 0 ≡ 1 = e.source.failed (ap Err failed) in omega (arith, rose))
    (at_file _ _ _ Why c.new.ensures.told c.new-lines.ensures.items e.refused)
    (λ none. at_file _ _ _ Only c.new.ensures.told c.new-lines.ensures.items (e.only none))

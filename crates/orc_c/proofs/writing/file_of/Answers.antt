use Rattle.std.proofs.Common.{ℕ, List, Option, Some, subst}
use Rattle.orc_cli_write.specs.Writes.{RefusesWrite}
use Rattle.orc_c.proofs.ToldLemmas.{not_written}
use Rattle.orc_c.proofs.writing.file_of.Goals as goal

pub returns-clause-refused : goal.returns-clause-refused
returns-clause-refused c =
    let e = c.in-Err.ensures in
    let was = c.in-Err.fault in
    let written = c.in-Err.field-0-1.bytes.items in
    let P : Option (List ℕ) → Type 0 = λ o. RefusesWrite c.args.options c.args.schema.now c.args.lines.now o (Some written) was in
    not_written _ c.args.options _ written was _ c.told_of.ensures (subst P c.new.ensures.told e.refused) e.only

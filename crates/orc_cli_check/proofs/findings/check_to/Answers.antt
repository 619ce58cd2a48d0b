use Rattle.std.proofs.Common.{ℕ, List, ap}
use Rattle.orc_cli_output.specs.Output.{AppendsPart}
use Rattle.orc_cli_check.specs.Lines.{finding_lines, IsFoundOf}
use Rattle.orc_cli_output.proofs.OutputLemmas.{file_want}
use Rattle.orc_cli_output.specs.declared.fault.CliFault.TheVariants.{File}
use Rattle.orc_cli_check.proofs.CheckedFile.{no_output, outside_found}
use Rattle.orc_cli_check.proofs.findings.check_to.Goals as goal

pub returns-clause-only : goal.returns-clause-only
returns-clause-only g c = outside_found (g.S.Source.told c.args.source) c.in-Err.fault c.in-Err.ensures.only

pub returns-clause-part : goal.returns-clause-part
returns-clause-part g c = λ failed.
    let known = g.W.Write.contents c.args.out.now in
    no_output (g.S.Source.told c.args.source) c.in-Err.fault (λ (bytes : List ℕ). IsFoundOf bytes (λ found. AppendsPart known known (finding_lines found))) c.in-Err.ensures.fault failed

pub returns-clause-layer : goal.returns-clause-layer
returns-clause-layer g c = λ want. ap File (file_want c.in-Err.fault want)

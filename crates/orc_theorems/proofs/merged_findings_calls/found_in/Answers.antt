use Rattle.std.proofs.Common.{◌≡◌, ◌⊎◌, ℕ, List, Vec, Global}
use Rattle.std.proofs.lemmas.Result.{IfErr-weaker}
use Rattle.orc_values.specs.Cells.{Cell}
use Rattle.orc_tail.specs.declared.tail.Tail.{Tail}
use Rattle.orc_tail.specs.declared.fault.FileFault.{FileFault}
use Rattle.orc_tail.specs.declared.fault.FileFault.TheVariants.{SourceFailed, OutOfMemory}
use Rattle.orc_check.specs.Checking.{CheckFault}
use Rattle.orc_check.specs.Findings.{Findings}
use Rattle.orc_check.specs.declared.finding.Finding.{Finding}
use Rattle.orc_theorems.proofs.FoundLemmas.{told_only}
use Rattle.orc_theorems.proofs.RefusalLemmas.{read_fault}
use Rattle.orc_theorems.proofs.merged_findings_calls.found_in.Goals as goal

pub returns-clause-only : goal.returns-clause-only
returns-clause-only c =
    told_only (λ (bytes : List ℕ) (tail : Tail) (rows : List Cell) (found : Vec Finding Global). Findings bytes tail rows found.items)
    (λ (fault : FileFault). (fault ≡ OutOfMemory) ⊎ (fault ≡ SourceFailed)) _ c.args.bytes.now c.check.result c.new-source.ensures.told c.check.ensures.only

pub returns-clause-refused : goal.returns-clause-refused
returns-clause-refused c = IfErr-weaker c.check.result _ _
    (λ e h. read_fault _ c.args.bytes.now e (λ (bytes : List ℕ). CheckFault bytes e) c.new-source.ensures.told (λ q. q) h) c.check.ensures.fault

use Rattle.orc_file.proofs.WrittenLaws.{written_honest, written_whole}
use Rattle.orc_check.proofs.NoFinding.{none_found, whole_tells}
use Rattle.orc_theorems.proofs.WrittenIndexes.{written_indexes}
use Rattle.orc_theorems.proofs.written_findings.written_finding_laws.Goals as goal

pub returns : goal.returns
returns c = λ options s tail bytes rows written is.
    none_found bytes tail rows is (written_honest options s tail bytes rows written) (whole_tells tail rows (written_whole options s tail bytes rows written)) (written_indexes options s tail bytes rows written)

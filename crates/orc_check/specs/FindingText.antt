-- A finding as a text: its name and its numbers, separated by blanks (this project's).
use Rattle.std.specs.Prelude.{ℕ, List, ◌∷◌, ◌++◌, codes, decimal}
use Rattle.orc_check.specs.declared.finding.Finding.{Finding}
use Rattle.orc_check.specs.declared.finding.Finding.TheVariants.{StripeStatistic, IndexEntries, IndexStatistic, IndexPosition, FileStatistic}

-- the text of a finding
abbrev pub finding_text : Finding → List ℕ
finding_text (StripeStatistic s c) = codes "StripeStatistic " ++ (decimal s ++ 32 ∷ decimal c)
finding_text (IndexEntries s c) = codes "IndexEntries " ++ (decimal s ++ 32 ∷ decimal c)
finding_text (IndexStatistic s c g) = codes "IndexStatistic " ++ (decimal s ++ 32 ∷ (decimal c ++ 32 ∷ decimal g))
finding_text (IndexPosition s c g) = codes "IndexPosition " ++ (decimal s ++ 32 ∷ (decimal c ++ 32 ∷ decimal g))
finding_text (FileStatistic c) = codes "FileStatistic " ++ decimal c

-- The row indexes of a merged file are those of its inputs.
use Rattle.std.proofs.Common.{◌↔◌, ℕ, List, [], ◌∷◌}
use Rattle.orc_values.specs.Cells.{Cell}
use Rattle.orc_file_reader.specs.FileRows.{rows_together, FileIs}
use Rattle.orc_file_reader.specs.Honest.{Honest}
use Rattle.orc_tail.specs.declared.tail.Tail.{Tail}
use Rattle.orc_check.specs.Findings.{Findings, TellsWhole}
use Rattle.orc_check.specs.RightIndexes.{IsIndexed, HasIndexes}
use Rattle.orc_theorems.proofs.WrittenIndexes.{indexed_moved}
use Rattle.orc_merger.specs.Merging.{IsMerge}
use Rattle.orc_merge_laws.specs.Grouping.{HaveRows, AreHonestFiles}
use Rattle.orc_theorems.specs.Inputs.{AreWithoutFinding}
use Rattle.orc_theorems.proofs.MergedStripes.{HoldsOfFiles, merged_stripes}

-- nothing is found exactly where all is right, of which the indexes are asked here
abbrev pub NoneLaw : Type 0
NoneLaw = (bytes : List ℕ) (tail : Tail) (rows : List Cell) → FileIs bytes tail rows → Findings bytes tail rows [] ↔ (Honest tail rows × TellsWhole tail rows × HasIndexes bytes tail rows)

are_indexed : NoneLaw → (xs : List (List ℕ)) (parts : List (List Cell)) → AreWithoutFinding xs parts → HoldsOfFiles IsIndexed xs parts
are_indexed none [] [] h = tt
are_indexed none [] (r ∷ parts) h = absurd h
are_indexed none (x ∷ xs) [] h = absurd h
are_indexed none (x ∷ xs) (r ∷ parts) h = let right = (none x h.0.0 r h.0.1).0 h.0.2 in ((h.0.0, h.0.1, right.2), are_indexed none xs parts h.1)

pub merged_indexes : NoneLaw → (xs : List (List ℕ)) (tail : Tail) (out : List ℕ) (parts : List (List Cell)) → IsMerge xs tail out → AreWithoutFinding xs parts → HasIndexes out tail (rows_together parts)
merged_indexes none xs tail out parts m h = merged_stripes IsIndexed indexed_moved xs tail out parts m (are_indexed none xs parts h)

-- ---- what the inputs are besides

pub are_files : (xs : List (List ℕ)) (parts : List (List Cell)) → AreWithoutFinding xs parts → HaveRows xs parts
are_files [] [] h = tt
are_files [] (r ∷ parts) h = absurd h
are_files (x ∷ xs) [] h = absurd h
are_files (x ∷ xs) (r ∷ parts) h = ((h.0.0, h.0.1), are_files xs parts h.1)

pub are_honest : NoneLaw → (xs : List (List ℕ)) (parts : List (List Cell)) → AreWithoutFinding xs parts → AreHonestFiles xs parts
are_honest none [] [] h = tt
are_honest none [] (r ∷ parts) h = absurd h
are_honest none (x ∷ xs) [] h = absurd h
are_honest none (x ∷ xs) (r ∷ parts) h = let right = (none x h.0.0 r h.0.1).0 h.0.2 in ((h.0.0, h.0.1, right.0), are_honest none xs parts h.1)

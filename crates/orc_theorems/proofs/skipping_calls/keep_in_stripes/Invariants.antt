use Rattle.std.proofs.Common.{◌≡◌, ℕ, List, [], Some}
use Rattle.orc_values.specs.Cells.{Cell}
use Rattle.orc_skipping.specs.Tests.{predicate}
use Rattle.orc_file_reader.specs.FileRows.{FileIs}
use Rattle.orc_check.specs.Findings.{Findings}
use Rattle.orc_theorems.specs.KeptGroups.{AreGroupsKept}
use Rattle.orc_theorems.proofs.skipping_calls.keep_in_stripes.Given as goal

-- the groups of the stripes so far
abbrev pub invariant-loop-stripe : goal.invariant-loop-stripe
invariant-loop-stripe g l = record {
  tail : l.file.tail ≡ l.initial.file.tail;
  cap : l.file.cap ≡ l.initial.file.cap;
  told : g.S.Source.told l.file.source ≡ g.S.Source.told l.initial.file.source;
  kept : (bytes : List ℕ) (rows : List Cell) → g.S.Source.told l.initial.file.source ≡ Some bytes → FileIs bytes l.initial.file.tail rows → Findings bytes l.initial.file.tail rows []
      → AreGroupsKept bytes l.initial.file.tail l.column (predicate l.test) l.stripe l.places.items;
}

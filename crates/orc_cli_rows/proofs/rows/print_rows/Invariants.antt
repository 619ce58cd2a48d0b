use Rattle.std.proofs.Common.{◌≡◌, ◌≤◌, Ok}
use Rattle.orc_io.specs.Leaves.{LeavesSource}
use Rattle.orc_tail.specs.declared.fault.FileFault.TheVariants.{SourceFailed}
use Rattle.orc_cli_output.specs.declared.fault.CliFault.TheVariants.{File}
use Rattle.orc_cli_rows.proofs.RowsLemmas.{Printed}
use Rattle.orc_cli_rows.proofs.rows.print_rows.Given as goal

-- the lines of the stripes from the first one on are out
abbrev pub invariant-loop-number : goal.invariant-loop-number
invariant-loop-number g l = record {
  begun : l.first ≤ l.number;
  tail : l.file.tail ≡ l.initial.file.tail;
  cap : l.file.cap ≡ l.initial.file.cap;
  source : LeavesSource {T = Unit {0}} g.S.Source.told g.S.Source.size g.S.Source.failures (File SourceFailed) l.initial.file.source l.file.source (Ok tt);
  printed : Printed (g.S.Source.told l.initial.file.source) l.initial.file.tail.schema l.initial.file.tail.stripes l.first l.number (g.W.Write.contents l.initial.out) (g.W.Write.contents l.out);
}

use Rattle.std.proofs.Common.{◌≡◌, IfSome}
use Rattle.orc_values.specs.Views.{views}
use Rattle.orc_file_reader.proofs.RowFronts.{Front, IsWithinFront}
use Rattle.orc_file_reader.proofs.file.OrcFile.rows.Given as goal

abbrev pub invariant-loop-number : goal.invariant-loop-number
invariant-loop-number g l = record {
  tail : l.self.tail ≡ l.initial.self.tail;
  cap : l.self.cap ≡ l.initial.self.cap;
  within : IsWithinFront l.initial.self.cap l.initial.self.tail.stripes l.number;
  told : g.S.Source.told l.self.source ≡ g.S.Source.told l.initial.self.source;
  size : g.S.Source.size l.self.source ≡ g.S.Source.size l.initial.self.source;
  kept : g.S.Source.failures l.self.source ≡ g.S.Source.failures l.initial.self.source;
  front : IfSome (g.S.Source.told l.initial.self.source) (λ bytes. Front l.initial.self.cap l.initial.self.tail.schema bytes l.initial.self.tail.stripes l.number (views l.rows.items));
}

use Rattle.std.proofs.Common.{◌≡◌, ◌-◌, ◌≤◌}
use Rattle.orc_merger.specs.Copies.{Copied}
use Rattle.orc_merger.proofs.copying.copy_range.Given as goal

abbrev pub invariant-loop-done : goal.invariant-loop-done
invariant-loop-done g l = record {
  in_range : l.done ≤ l.len;
  size : g.S.Source.size l.source ≡ g.S.Source.size l.initial.source;
  told : g.S.Source.told l.source ≡ g.S.Source.told l.initial.source;
  source_kept : g.S.Source.failures l.source ≡ g.S.Source.failures l.initial.source;
  out_kept : g.W.Sink.failures l.out ≡ g.W.Sink.failures l.initial.out;
  copied : Copied (g.S.Source.told l.initial.source) l.at l.done (g.W.Sink.told l.initial.out) (g.W.Sink.told l.out);
}

abbrev pub decreases-loop-done : goal.decreases-loop-done
decreases-loop-done g l = l.len - l.done

use Rattle.std.proofs.Common.{◌≡◌, ◌≤◌, List, ℕ, length, map, take, Some}
use Rattle.orc_io.specs.Devices.{appended}
use Rattle.orc_merger.specs.Copies.{pieces_bytes}
use Rattle.orc_merger.proofs.copying.copy_pieces.Given as goal

abbrev pub invariant-loop-i : goal.invariant-loop-i
invariant-loop-i g l = record {
  in_range : l.i ≤ length l.pieces;
  told : map g.S.Source.told l.inputs ≡ map g.S.Source.told l.initial.inputs;
  sizes : map g.S.Source.size l.inputs ≡ map g.S.Source.size l.initial.inputs;
  failures : map g.S.Source.failures l.inputs ≡ map g.S.Source.failures l.initial.inputs;
  kept : g.W.Sink.failures l.out ≡ g.W.Sink.failures l.initial.out;
  copied : (files : List (List ℕ)) → map g.S.Source.told l.initial.inputs ≡ map Some files
      → g.W.Sink.told l.out ≡ appended (g.W.Sink.told l.initial.out) (pieces_bytes files (take l.i l.pieces));
}

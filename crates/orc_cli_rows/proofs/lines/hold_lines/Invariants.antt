use Rattle.std.specs.Prelude.{◌≡◌}
use Rattle.orc_json_printer.specs.LaidOut.{IsLaidOut}
use Rattle.orc_json_printer.specs.Layouts.{text_by}
use Rattle.orc_stripe_reader.specs.Cursors.{row_type}
use Rattle.orc_cli_rows.specs.Pieces.{IsHeld}
use Rattle.orc_cli_rows.proofs.CursorLemmas.{Filling}
use Rattle.orc_cli_rows.proofs.lines.hold_lines.Given as goal

-- the lines of the rows that were given are held
abbrev pub invariant-loop-cursor : goal.invariant-loop-cursor
invariant-loop-cursor l = record {
  filling : Filling IsHeld (text_by l.layout) l.initial.cursor l.cursor l.initial.held l.held;
  laid_out : IsLaidOut (row_type l.cursor) l.layout;
  of_type : row_type l.cursor ≡ row_type l.initial.cursor;
}

abbrev pub decreases-loop-cursor : goal.decreases-loop-cursor
decreases-loop-cursor l = l.cursor.left

use Rattle.orc_directory.specs.declared.fault.StripeFault.{StripeFault}
use Rattle.orc_json_printer.specs.LaidOut.{IsLaidOut}
use Rattle.orc_json_printer.specs.Layouts.{text_by}
use Rattle.orc_stripe_reader.specs.Cursors.{row_type, IsGoing, MeetsFault}
use Rattle.orc_cli_rows.proofs.CursorLemmas.{Filling}
use Rattle.orc_cli_rows.proofs.lines.put_lines.Given as goal

-- the lines of the rows that were given are put
abbrev pub invariant-loop-cursor : goal.invariant-loop-cursor
invariant-loop-cursor g l = record {
  filling : Filling g.T.TextOutput.holds (text_by l.layout) l.initial.cursor l.cursor l.initial.out l.out;
  laid_out : IsLaidOut (row_type l.cursor) l.layout;
  going : IsGoing l.initial.cursor → IsGoing l.cursor;
  met : (fault : StripeFault) → MeetsFault l.cursor fault → MeetsFault l.initial.cursor fault;
}

abbrev pub decreases-loop-cursor : goal.decreases-loop-cursor
decreases-loop-cursor g l = l.cursor.left

use Rattle.orc_json_printer.specs.LaidOut.{IsLaidOut}
use Rattle.orc_stripe_reader.specs.Cursors.{row_type}
use Rattle.orc_test_kit.proofs.lines.put_each_text.Given as goal

-- the layout is still one of the rows' type
abbrev pub invariant-loop : goal.invariant-loop
invariant-loop l = IsLaidOut (row_type l.cursor) l.layout

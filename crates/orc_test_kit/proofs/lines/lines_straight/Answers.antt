use Rattle.std.proofs.Common.{◌∙◌, sym, subst}
use Rattle.orc_values.specs.Shapes.{Shape}
use Rattle.orc_json_printer.specs.LaidOut.{IsLaidOut}
use Rattle.orc_test_kit.proofs.lines.lines_straight.Goals as goal

pub put_each_text-requires : goal.put_each_text-requires
put_each_text-requires c = subst (λ (s : Shape). IsLaidOut s c.in-Some.layout.now) (c.in_ok-printer.ensures ∙ sym c.in_ok-cursor.ensures) c.in-Some.ensures.laid_out

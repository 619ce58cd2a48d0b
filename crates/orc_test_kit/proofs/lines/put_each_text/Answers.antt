use Rattle.std.proofs.Common.{sym, subst}
use Rattle.orc_values.specs.Shapes.{Shape}
use Rattle.orc_json_printer.specs.LaidOut.{IsLaidOut}
use Rattle.orc_test_kit.proofs.lines.put_each_text.Goals as goal

pub loop-preserved : goal.loop-preserved
loop-preserved c = subst (λ (s : Shape). IsLaidOut s c.args.layout.now) (sym c.in_ok-put_next_text.ensures) c.loop.invariant

pub see_text_end-requires-2 : goal.see_text_end-requires-2
see_text_end-requires-2 c = subst (λ (s : Shape). IsLaidOut s c.args.layout.now) (sym c.in_ok-see_text_end.ensures) c.loop.invariant

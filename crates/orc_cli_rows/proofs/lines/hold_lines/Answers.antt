use Rattle.std.proofs.Common.{◌∙◌, sym, subst}
use Rattle.orc_values.specs.Shapes.{Shape}
use Rattle.orc_json_printer.specs.LaidOut.{IsLaidOut}
use Rattle.orc_json_printer.specs.Layouts.{text_by}
use Rattle.orc_cli_rows.specs.Pieces.{IsHeld}
use Rattle.orc_cli_rows.proofs.CursorLemmas.{filling_next, all_filled}
use Rattle.orc_cli_rows.proofs.lines.hold_lines.Goals as goal

pub loop-cursor-preserved : goal.loop-cursor-preserved
loop-cursor-preserved c =
    let found = rw c.if-not-branch.false at c.in_ok-push_next.ensures.found in
    record {
      filling = filling_next IsHeld (text_by c.args.layout.now) c.args.cursor.now c.loop-cursor.cursor c.push_next.new.self c.args.held.now c.loop-cursor.held c.push_next.new.out c.put_byte.new.self
          c.loop-cursor.invariant.filling found (λ rest h. (let next = c.in_ok-push_next.ensures.only rest h in rw c.if-not-branch.false at next)) c.in_ok-put_byte.ensures.found;
      laid_out = subst (λ (s : Shape). IsLaidOut s c.args.layout.now) (sym c.in_ok-push_next.ensures.of_type) c.loop-cursor.invariant.laid_out;
      of_type = c.in_ok-push_next.ensures.of_type ∙ c.loop-cursor.invariant.of_type;
    }

pub returns-then-not-branch-clause-all : goal.returns-then-not-branch-clause-all
returns-then-not-branch-clause-all c = λ _.
    let found = rw c.if-not-branch.true at c.in_ok-push_next.ensures.found in
    all_filled IsHeld (text_by c.args.layout.now) c.args.cursor.now c.loop-cursor.cursor c.args.held.now c.loop-cursor.held c.push_next.new.out c.loop-cursor.invariant.filling found.0 found.1

pub returns-then-not-branch-clause-of_type : goal.returns-then-not-branch-clause-of_type
returns-then-not-branch-clause-of_type c = c.in_ok-push_next.ensures.of_type ∙ c.loop-cursor.invariant.of_type

pub returns-clause-front : goal.returns-clause-front
returns-clause-front c = λ _ rows stood. c.loop-cursor.invariant.filling.given rows stood

pub returns-clause-of_type : goal.returns-clause-of_type
returns-clause-of_type c = c.loop-cursor.invariant.of_type

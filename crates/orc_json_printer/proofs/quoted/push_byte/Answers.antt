use Rattle.std.proofs.Common.{◌≡◌, ◌∷◌, [], ◌/◌, ◌%◌, ◌∙◌, sym, ap, arith}
use Rattle.std.specs.Char.{digit_char}
use Rattle.json.specs.Print.{escape_byte}
use Rattle.json.proofs.Printed.Strings.{escape_byte_plain}
use Rattle.orc_json_printer.proofs.Escapes.{escape_byte-34, escape_byte-92, escape_byte-8, escape_byte-9, escape_byte-10, escape_byte-12, escape_byte-13, escape_byte-control}
use Rattle.orc_json_printer.proofs.Outputs.{puts_last_is}
use Rattle.orc_json_printer.proofs.quoted.push_byte.Goals.{in-11-1, in_default+then-byte-lt32}
use Rattle.orc_json_printer.proofs.quoted.push_byte.Goals as goal

pub returns-in-34-clause-found : goal.returns-in-34-clause-found
returns-in-34-clause-found g c =
    puts_last_is g.T.TextOutput.holds c.put.result c.args.out.now c.put.new.self _ _ (sym (ap escape_byte c.in-34.is ∙ escape_byte-34)) c.put.ensures.found

pub returns-in-92-clause-found : goal.returns-in-92-clause-found
returns-in-92-clause-found g c =
    puts_last_is g.T.TextOutput.holds c.put-in-92.result c.args.out.now c.put-in-92.new.self _ _ (sym (ap escape_byte c.in-92.is ∙ escape_byte-92)) c.put-in-92.ensures.found

pub returns-in-8-clause-found : goal.returns-in-8-clause-found
returns-in-8-clause-found g c =
    puts_last_is g.T.TextOutput.holds c.put-in-8.result c.args.out.now c.put-in-8.new.self _ _ (sym (ap escape_byte c.in-8.is ∙ escape_byte-8)) c.put-in-8.ensures.found

pub returns-in-9-clause-found : goal.returns-in-9-clause-found
returns-in-9-clause-found g c =
    puts_last_is g.T.TextOutput.holds c.put-in-9.result c.args.out.now c.put-in-9.new.self _ _ (sym (ap escape_byte c.in-9.is ∙ escape_byte-9)) c.put-in-9.ensures.found

pub returns-in-10-clause-found : goal.returns-in-10-clause-found
returns-in-10-clause-found g c =
    puts_last_is g.T.TextOutput.holds c.put-in-10.result c.args.out.now c.put-in-10.new.self _ _ (sym (ap escape_byte c.in-10.is ∙ escape_byte-10)) c.put-in-10.ensures.found

pub returns-in-12-clause-found : goal.returns-in-12-clause-found
returns-in-12-clause-found g c =
    puts_last_is g.T.TextOutput.holds c.put-in-12.result c.args.out.now c.put-in-12.new.self _ _ (sym (ap escape_byte c.in-12.is ∙ escape_byte-12)) c.put-in-12.ensures.found

pub returns-in-13-clause-found : goal.returns-in-13-clause-found
returns-in-13-clause-found g c =
    puts_last_is g.T.TextOutput.holds c.put-in-13.result c.args.out.now c.put-in-13.new.self _ _ (sym (ap escape_byte c.in-13.is ∙ escape_byte-13)) c.put-in-13.ensures.found

pub returns-in_default-clause-found : goal.returns-in_default-clause-found
returns-in_default-clause-found g c =
    puts_last_is g.T.TextOutput.holds c.put_byte.result c.args.out.now c.put_byte.new.self _ _ (sym (escape_byte_plain c.args.byte (λ e. omega arith) (λ e. omega arith) (omega arith))) c.put_byte.ensures.found

pub returns-in-0-to-31-clause-found : goal.returns-in-0-to-31-clause-found
returns-in-0-to-31-clause-found g c =
    let control : escape_byte c.args.byte ≡ 92 ∷ 117 ∷ 48 ∷ 48 ∷ digit_char (c.args.byte / 16) ∷ digit_char (c.args.byte % 16) ∷ [] = elim c.in-0-to-31-1.branch [
      | in-11-1 w ↦ escape_byte-control c.args.byte (omega arith) (λ e. omega arith) (λ e. omega arith) (λ e. omega arith) (λ e. omega arith) (λ e. omega arith)
      | in_default+then-byte-lt32 w ↦ escape_byte-control c.args.byte (omega arith) (λ e. omega arith) (λ e. omega arith) (λ e. omega arith) (λ e. omega arith) (λ e. omega arith)
    ] in
    puts_last_is g.T.TextOutput.holds c.put-in-0-to-31.result c.args.out.now c.put-in-0-to-31.new.self _ _ (rw (c.digit.ensures, c.digit-in-0-to-31.ensures) (sym control)) c.put-in-0-to-31.ensures.found

use Rattle.std.proofs.Common.{◌∙◌, sym}
use Rattle.orc_json_printer.specs.Layouts.{text_by}
use Rattle.orc_cli_rows.proofs.PieceLemmas.{ok_of}
use Rattle.orc_cli_rows.proofs.StripeLemmas.{all_answered, all_refused}
use Rattle.orc_cli_rows.proofs.one_stripe.print_read.Goals as goal

pub returns-then-ended-clause-written : goal.returns-then-ended-clause-written
returns-then-ended-clause-written g c =
    let given = c.in-Ok.ensures.all c.if-ended.true in
    let out = rw c.deref.ensures.value at c.write_out.ensures.all in
    all_answered (text_by c.args.layout.now) c.args.view.now c.args.from c.args.number c.requires.distinct c.requires.prints c.write_out.result given.0 _ _ _ given.1 given.2 out

pub returns-then-ended-clause-refused : goal.returns-then-ended-clause-refused
returns-then-ended-clause-refused g c =
    let given = c.in-Ok.ensures.all c.if-ended.true in
    let part = rw c.deref.ensures.value at c.write_out.ensures.part in
    all_refused (text_by c.args.layout.now) c.args.view.now c.args.from c.args.number c.requires.distinct c.requires.prints c.write_out.result given.0 _ _ _ given.1 given.2 c.write_out.ensures.refused part

pub returns-then-is_ok-clause-written : goal.returns-then-is_ok-clause-written
returns-then-is_ok-clause-written g c =
    let found = ok_of c.judge.result (sym c.is_ok.ensures.value ∙ c.if-is_ok.true) c.judge.ensures.found in
    let rest = c.in-Ok.ensures.some c.if-ended.false found.0 found.1 in
    let told = c.print_pieces.ensures.written rest.0 rest.1 in
    let out = rw c.deref-then-is_ok.ensures.value at told in
    all_answered (text_by c.args.layout.now) c.args.view.now c.args.from c.args.number c.requires.distinct c.requires.prints c.print_pieces.result found.0 _ _ _ found.1 rest.2 out

pub returns-then-is_ok-clause-refused : goal.returns-then-is_ok-clause-refused
returns-then-is_ok-clause-refused g c =
    let found = ok_of c.judge.result (sym c.is_ok.ensures.value ∙ c.if-is_ok.true) c.judge.ensures.found in
    let rest = c.in-Ok.ensures.some c.if-ended.false found.0 found.1 in
    let told = c.print_pieces.ensures.part rest.0 rest.1 in
    let part = rw c.deref-then-is_ok.ensures.value at told in
    all_refused (text_by c.args.layout.now) c.args.view.now c.args.from c.args.number c.requires.distinct c.requires.prints c.print_pieces.result found.0 _ _ _ found.1 rest.2 c.print_pieces.ensures.refused part

use Rattle.std.proofs.Common.{inl, refl}
use Rattle.std.proofs.lemmas.Result.{err_from_is_err_and}
use Rattle.orc_cli_rows.proofs.RowsLemmas.{no_printer, printer_ends}
use Rattle.orc_cli_rows.proofs.printing.print_opened.Goals as goal

pub returns-in_err-printer-clause-refused : goal.returns-in_err-printer-clause-refused
returns-in_err-printer-clause-refused g c =
    let p = err_from_is_err_and c.from_residual.result c.from_residual.ensures.1 in
    rw (p.1, p.2) (no_printer (g.S.Source.told c.args.file.now.source) c.args.file.now.tail c.args.start (g.W.Write.contents c.args.out.now) _ (inl refl))

pub returns-clause-refused : goal.returns-clause-refused
returns-clause-refused g c =
    printer_ends c.print_lines.result (g.S.Source.told c.args.file.now.source) c.args.file.now.tail c.args.start (g.W.Write.contents c.args.out.now) (g.W.Write.contents c.print_lines.new.out) c.print_lines.ensures.refused

use Rattle.std.proofs.Common.{ap}
use Rattle.orc_io.proofs.Leaving.{leaves_as}
use Rattle.orc_cli_output.specs.declared.fault.CliFault.TheVariants.{File}
use Rattle.orc_cli_rows.proofs.RowsLemmas.{printed_file, refused_file, refused_open}
use Rattle.orc_cli_rows.proofs.printing.print_file.Goals as goal

pub returns-in-Ok-printed-clause-written : goal.returns-in-Ok-printed-clause-written
returns-in-Ok-printed-clause-written g c =
    let told = g.S.Source.told c.args.source in
    let old = g.W.Write.contents c.args.out.now in
    let new = g.W.Write.contents c.print_opened-printed.new.out in
    let same = c.in-Ok.ensures.source.told in
    let written = c.in-Ok-printed.ensures.written in
    printed_file told c.in-Ok.file.tail c.args.start old new c.in-Ok.ensures.found (rw same at written)

pub returns-in-Err-printed-clause-refused : goal.returns-in-Err-printed-clause-refused
returns-in-Err-printed-clause-refused g c =
    let told = g.S.Source.told c.args.source in
    let old = g.W.Write.contents c.args.out.now in
    let new = g.W.Write.contents c.print_opened-printed.new.out in
    let same = c.in-Ok.ensures.source.told in
    let ends = c.in-Err-printed.ensures.refused in
    refused_file told c.in-Ok.file.tail c.args.start old new c.in-Err-printed.fault c.in-Ok.ensures.found (rw same at ends)

pub returns-in-Err-clause-refused : goal.returns-in-Err-clause-refused
returns-in-Err-clause-refused g c = refused_open (g.S.Source.told c.args.source) c.args.start (g.W.Write.contents c.args.out.now) c.in-Err.fault c.in-Err.ensures.fault

pub returns-in-Err-clause-source : goal.returns-in-Err-clause-source
returns-in-Err-clause-source g c = leaves_as (λ e. cc) (λ e. ap File e) c.in-Err.ensures.source

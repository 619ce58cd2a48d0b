use Rattle.std.proofs.Common.{List, ℕ, ap, inr}
use Rattle.orc_io.proofs.Leaving.{leaves_as}
use Rattle.orc_tail.specs.declared.tail.Tail.{Tail}
use Rattle.std.specs.Io.KnownBytes.{Appends}
use Rattle.orc_tail.specs.Tails.{IsTail}
use Rattle.orc_cli_output.specs.Output.{AppendsPart}
use Rattle.orc_cli_output.proofs.OutputLemmas.{file_want, part_of}
use Rattle.orc_cli_output.specs.declared.fault.CliFault.TheVariants.{File}
use Rattle.orc_cli_show.specs.Show.{show_lines}
use Rattle.orc_cli_show.proofs.ShowLemmas.{of_tail, outside_open, no_output}
use Rattle.orc_cli_show.proofs.show.show_to.Goals as goal

pub returns-in-Ok-shown-clause-written : goal.returns-in-Ok-shown-clause-written
returns-in-Ok-shown-clause-written g c =
    let told = g.S.Source.told c.args.source in
    let old = g.W.Write.contents c.args.out.now in
    let new = g.W.Write.contents c.show_tail-shown.new.out in
    let same = c.tail.ensures in
    let written = c.in-Ok-shown.ensures.written in
    of_tail told c.in-Ok.file.tail (λ (t : Tail). Appends old new (show_lines t)) c.in-Ok.ensures.found (rw same at written)

pub returns-in-Err-shown-clause-part : goal.returns-in-Err-shown-clause-part
returns-in-Err-shown-clause-part g c = λ failed.
    let told = g.S.Source.told c.args.source in
    let old = g.W.Write.contents c.args.out.now in
    let new = g.W.Write.contents c.show_tail-shown.new.out in
    let same = c.tail.ensures in
    let part = part_of c.in-Err-shown.fault _ _ c.in-Err-shown.ensures.refused failed in
    of_tail told c.in-Ok.file.tail (λ (t : Tail). AppendsPart old new (show_lines t)) c.in-Ok.ensures.found (rw same at part)

pub returns-in-Err-clause-only : goal.returns-in-Err-clause-only
returns-in-Err-clause-only g c = outside_open (g.S.Source.told c.args.source) c.in-Err.fault c.in-Err.ensures.only

pub returns-in-Err-clause-part : goal.returns-in-Err-clause-part
returns-in-Err-clause-part g c = λ failed.
    let known = g.W.Write.contents c.args.out.now in
    no_output (g.S.Source.told c.args.source) c.in-Err.fault (λ (bytes : List ℕ). (tail : Tail) × IsTail bytes tail × AppendsPart known known (show_lines tail)) c.in-Err.ensures.fault failed

pub returns-in-Err-clause-source : goal.returns-in-Err-clause-source
returns-in-Err-clause-source g c = leaves_as (λ e. cc) (λ e. ap File e) c.in-Err.ensures.source

pub returns-in-Err-clause-layer : goal.returns-in-Err-clause-layer
returns-in-Err-clause-layer g c = λ want. inr (ap File (file_want c.in-Err.fault want))

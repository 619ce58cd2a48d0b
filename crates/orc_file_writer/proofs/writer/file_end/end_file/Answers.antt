use Rattle.std.proofs.Common.{◌++◌, ◌∙◌, ap, take}
use Rattle.std.proofs.lemmas.Result.{err_from_is_err_and}
use Rattle.orc_io.specs.Devices.{appended}
use Rattle.orc_tail.specs.Images.{tail_text}
use Rattle.orc_file_writer.specs.Writing.{written_tail}
use Rattle.orc_file_writer.proofs.WriterLemmas.{laid_places, none_taken}
use Rattle.orc_file_writer.proofs.TailLimits.{tail_within}
use Rattle.orc_file_writer.proofs.writer.file_end.end_file.Goals as goal

pub returns-in_err-tail-clause-cut : goal.returns-in_err-tail-clause-cut
returns-in_err-tail-clause-cut g c =
    let p = err_from_is_err_and c.from_residual.result c.from_residual.ensures.1 in
    rw p.1 (0, none_taken (g.W.Sink.told c.args.out.now) (tail_text (written_tail c.args.options c.args.schema c.args.stripes.infos.items c.args.stripes.stats.items)))

pub put-requires-clause-limits : goal.put-requires-clause-limits
put-requires-clause-limits g c =
    rw c.in_ok-tail.ensures.found
    (tail_within c.args.options c.args.schema c.args.stripes.infos.items c.args.stripes.stats.items c.limit_laws.ensures c.requires.within c.requires.laid c.requires.few c.requires.stats)

pub put-requires-clause-laid : goal.put-requires-clause-laid
put-requires-clause-laid g c = rw c.in_ok-tail.ensures.found (laid_places 3 c.args.stripes.infos.items c.requires.laid)

pub returns-in-Err-clause-cut : goal.returns-in-Err-clause-cut
returns-in-Err-clause-cut g c =
    let text = c.deref.ensures.value ∙ c.in_ok-put.ensures.text ∙ ap (λ i. i ++ tail_text c.in_ok-tail.tail) c.new-text.ensures.items ∙ ap tail_text c.in_ok-tail.ensures.found in
    (c.in-Err.field-0, c.in-Err.ensures.some ∙ ap (λ b. appended (g.W.Sink.told c.args.out.now) (take c.in-Err.field-0 b)) text)

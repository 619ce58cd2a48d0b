use Rattle.std.proofs.Common.{◌≡◌, ◌∙◌, ◌<◌, ◌+◌, [], Err, ap, arith}
use Rattle.orc_values.specs.Views.{views}
use Rattle.orc_file_writer.specs.Progress.{progress}
use Rattle.orc_tail.specs.declared.fault.FileFault.TheVariants.{WriteFailed}
use Rattle.orc_theorems.proofs.ReadLemmas.{cut_longer, same_cut}
use Rattle.orc_theorems.proofs.RefusalLemmas.{failures_rose, finish_fault, same_write_fault}
use Rattle.orc_theorems.proofs.StepLemmas.{either_more}
use Rattle.orc_theorems.proofs.written_files_calls.write_to.Goals as goal
use Rattle.std.proofs.lemmas.Result.{IfOk-weaker, IfErr-weaker}

pub returns-in-Err-clause-front : goal.returns-in-Err-clause-front
returns-in-Err-clause-front g c = λ wrote few.
    let told = g.W.Sink.told in
    let rows = views c.args.rows.now in
    c.written_files_read_back.ensures.front c.args.options c.args.schema (told c.args.out) (told c.in-Err.refused.1) rows
    (cut_longer c.args.options c.args.schema (told c.args.out) (told c.in-Err.refused.1) [] rows c.in-Err.ensures.cut) few

pub returns-in-Ok-push_rows-clause-front : goal.returns-in-Ok-push_rows-clause-front
returns-in-Ok-push_rows-clause-front g c =
    let told = g.W.Sink.told in
    let rows = views c.args.rows.now in
    let made = c.in-Ok.ensures.made in
    let pushed = c.in-Ok-push_rows.ensures in
    IfErr-weaker c.finish.result _ _ (λ e cut wrote few. c.written_files_read_back.ensures.front c.args.options c.args.schema (told c.args.out) (told e.1) rows
    (same_cut c.args.options c.push_rows.new.writer.options c.args.schema c.push_rows.new.writer.schema (told c.args.out) (told e.1) rows
    (pushed.same.1 ∙ made.1) (pushed.same.0 ∙ made.0) cut) few) (c.finish.ensures.cut (told c.args.out) rows (pushed.pushed (told c.args.out) [] c.in-Ok.ensures.pushed) (pushed.going made.2))

pub returns-in-Ok-push_rows-clause-file : goal.returns-in-Ok-push_rows-clause-file
returns-in-Ok-push_rows-clause-file g c =
    let told = g.W.Sink.told in
    let rows = views c.args.rows.now in
    let w = c.push_rows.new.writer in
    let pushed = c.in-Ok-push_rows.ensures in
    IfOk-weaker c.finish.result _ _ (λ done wrote.
    let law = c.written_files_read_back.ensures.written w.options w.schema done.0 (told c.args.out) (told done.1) rows wrote in
    (wrote.bytes, law.0, law.1)) (c.finish.ensures.whole (told c.args.out) rows (pushed.pushed (told c.args.out) [] c.in-Ok.ensures.pushed))

pub returns-in-Err-clause-refused : goal.returns-in-Err-clause-refused
returns-in-Err-clause-refused g c = either_more c.in-Err.ensures.refused

pub returns-in-Err-push_rows-clause-refused : goal.returns-in-Err-push_rows-clause-refused
returns-in-Err-push_rows-clause-refused g c =
    let told = g.W.Sink.told in
    let w = c.in-Ok.writer in
    let made = c.in-Ok.ensures.made in
    same_write_fault c.args.options w.options c.args.schema w.schema (views c.args.rows.now) c.in-Err-push_rows.fault made.1 made.0
    (c.in-Err-push_rows.ensures.refused (told c.args.out) [] c.in-Ok.ensures.pushed made.2)

pub returns-in-Ok-push_rows-clause-refused : goal.returns-in-Ok-push_rows-clause-refused
returns-in-Ok-push_rows-clause-refused g c =
    let told = g.W.Sink.told in
    let rows = views c.args.rows.now in
    let w = c.push_rows.new.writer in
    let made = c.in-Ok.ensures.made in
    let pushed = c.in-Ok-push_rows.ensures in
    IfErr-weaker c.finish.result _ _ (λ e why. same_write_fault c.args.options w.options c.args.schema w.schema rows e.0 (pushed.same.1 ∙ made.1) (pushed.same.0 ∙ made.0) why)
    (finish_fault c.finish.result (progress told w) (told c.args.out) rows w.failed (pushed.pushed (told c.args.out) [] c.in-Ok.ensures.pushed).0 (pushed.going made.2)
    c.finish.ensures.refused c.finish.ensures.failed c.finish.ensures.long)

pub returns-in-Err-clause-write_failed : goal.returns-in-Err-clause-write_failed
returns-in-Err-clause-write_failed g c = λ wrote.
    let failures = g.W.Sink.failures in
    let rose : failures c.in-Err.refused.1 ≡ failures c.args.out + 1 = c.in-Err.ensures.out.failed (ap Err wrote) in
    omega (arith, rose)

pub returns-in-Err-push_rows-clause-write_failed : goal.returns-in-Err-push_rows-clause-write_failed
returns-in-Err-push_rows-clause-write_failed g c = λ wrote.
    let failures = g.W.Sink.failures in
    let rose : failures c.in-Ok.writer.out < failures c.push_rows.new.writer.out = c.in-Err-push_rows.ensures.write_failed (ap Err wrote) in
    let back : failures c.into_out.result ≡ failures c.push_rows.new.writer.out = ap failures c.into_out.ensures in
    let made : failures c.in-Ok.writer.out ≡ failures c.args.out = c.in-Ok.ensures.out.kept in
    omega (arith, rose, back, made)

pub returns-in-Ok-push_rows-clause-write_failed : goal.returns-in-Ok-push_rows-clause-write_failed
returns-in-Ok-push_rows-clause-write_failed g c =
    let failures = g.W.Sink.failures in
    let pushed : failures c.push_rows.new.writer.out ≡ failures c.in-Ok.writer.out = c.in-Ok-push_rows.ensures.no_failure in
    let made : failures c.in-Ok.writer.out ≡ failures c.args.out = c.in-Ok.ensures.out.kept in
    IfErr-weaker c.finish.result _ _ (λ e rose wrote.
    let up : failures c.push_rows.new.writer.out < failures e.1 = rose wrote in
    omega (arith, up, pushed, made)) (failures_rose failures WriteFailed (λ done. done.1) c.push_rows.new.writer.out c.finish.result c.finish.ensures.out)

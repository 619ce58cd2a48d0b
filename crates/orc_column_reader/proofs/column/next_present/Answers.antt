use Rattle.std.proofs.Common.{◌≢◌, ℕ, suc}
use Rattle.std.proofs.lemmas.Result.{IfErr-weaker}
use Rattle.orc_column_reader.specs.Faults.{RunsFail}
use Rattle.orc_directory.specs.declared.fault.StripeFault.TheVariants as fault
use Rattle.orc_directory.specs.declared.fault.StreamKind.TheVariants as stream
use Rattle.orc_column_reader.specs.RunsMet.{MarksMeet}
use Rattle.orc_column_reader.proofs.NeedLemmas.{runs_now}
use Rattle.orc_column_reader.proofs.column.next_present.Goals as goal

pub returns-clause-fault : goal.returns-clause-fault
returns-clause-fault c =
    let r = c.args.reader.now in
    IfErr-weaker c.next_mark.result (λ cause. cause ≢ fault.OutOfMemory → RunsFail stream.Present r.source.column (λ f. (n : ℕ) → MarksMeet r.present (suc n) f) cause) _
    (λ cause met memory n. runs_now stream.Present r.source.column n (MarksMeet r.present) cause (met memory))
    c.next_mark.ensures.fault

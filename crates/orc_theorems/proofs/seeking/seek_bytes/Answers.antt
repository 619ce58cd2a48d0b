use Rattle.std.proofs.Common.{ℕ, List, length, drop, ap}
use Rattle.std.proofs.lemmas.Bool.{false≢true}
use Rattle.orc_rle.specs.ByteRun.{IsByteRun}
use Rattle.orc_theorems.proofs.SoughtLemmas.{run_sought, begins_there, stream_there, sought_at}
use Rattle.orc_theorems.proofs.seeking.seek_bytes.Goals as goal

pub returns-in-Ok : goal.returns-in-Ok
returns-in-Ok c = λ n place.
    let pos = c.in-Some.pos in
    let bytes = c.args.bytes.now in
    let begins = begins_there IsByteRun bytes c.args.positions.now pos.offset pos.skip n c.in-Some.ensures.found place in
    record {
      one_run = run_sought IsByteRun bytes c.args.positions.now pos.offset pos.skip n c.new-run.result.count c.seek.new.run.count
          c.in-Some.ensures.found place c.new-run.ensures.count (record { count = c.seek.ensures.count; one_run = c.seek.ensures.one_run });
      leads = λ all stream.
          let there = sought_at IsByteRun bytes pos.offset pos.skip c.seek.result c.seek.new.run.values (drop n all)
          (c.byte_seek_laws.ensures.sought bytes pos.offset pos.skip n all begins stream) c.seek.ensures.only in
          (drop there.0 bytes, there.2);
    }

pub returns-in-Err : goal.returns-in-Err
returns-in-Err c = λ n place.
    let pos = c.in-Some.pos in
    let bytes = c.args.bytes.now in
    let begins = begins_there IsByteRun bytes c.args.positions.now pos.offset pos.skip n c.in-Some.ensures.found place in
    let whole = stream_there IsByteRun bytes pos.offset pos.skip n begins in
    let there = sought_at IsByteRun bytes pos.offset pos.skip c.seek.result c.seek.new.run.values (drop n whole.0)
    (c.byte_seek_laws.ensures.sought bytes pos.offset pos.skip n whole.0 begins whole.1) c.seek.ensures.only in
    let done = there.1 in
    let failed = c.in-Err.is in
    cc

pub returns-in_default : goal.returns-in_default
returns-in_default c = λ n place. absurd (false≢true (c.in_default.ensures.some (ap (λ (l : List ℕ). length l) place.2)))

use Rattle.std.proofs.Common.{ℕ, List, length, drop, ap}
use Rattle.std.proofs.lemmas.Bool.{false≢true}
use Rattle.orc_column_reader.specs.Numbers.{is_run}
use Rattle.orc_theorems.proofs.SoughtLemmas.{run_sought, begins_there, stream_there}
use Rattle.orc_theorems.proofs.seeking.seek_numbers.Goals as goal

pub returns-in-Ok : goal.returns-in-Ok
returns-in-Ok c = λ n place.
    let pos = c.in-Some.pos in
    let run = is_run c.args.version c.args.sign in
    let begins = begins_there run c.args.bytes.now c.args.positions.now pos.offset pos.skip n c.in-Some.ensures.found place in
    record {
      one_run = run_sought run c.args.bytes.now c.args.positions.now pos.offset pos.skip n c.new-run.result.count c.seek_version.new.run.count
          c.in-Some.ensures.found place c.new-run.ensures.count c.seek_version.ensures.counts;
      leads = λ all stream. let there = c.seek_version.ensures.leads n all begins stream in (drop there.0 c.args.bytes.now, there.2);
    }

pub returns-in-Err : goal.returns-in-Err
returns-in-Err c = λ n place.
    let pos = c.in-Some.pos in
    let run = is_run c.args.version c.args.sign in
    let begins = begins_there run c.args.bytes.now c.args.positions.now pos.offset pos.skip n c.in-Some.ensures.found place in
    let whole = stream_there run c.args.bytes.now pos.offset pos.skip n begins in
    let there = c.seek_version.ensures.leads n whole.0 begins whole.1 in
    let done = there.1 in
    let failed = c.in-Err.is in
    cc

pub returns-in_default : goal.returns-in_default
returns-in_default c = λ n place. absurd (false≢true (c.in_default.ensures.some (ap (λ (l : List ℕ). length l) place.2)))

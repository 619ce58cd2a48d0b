use Rattle.orc_rle.specs.declared.fault.RunFault.TheVariants.{TooFew}
use Rattle.std.proofs.Common.{suc, ◌≤◌, [], ◌∙◌, ap, length, arith, drop}
use Rattle.orc_rle.specs.ByteRun.{IsByteRun, NoByteRun}
use Rattle.orc_column_reader.specs.Bytes.{BytesLeft, BytesFirst}
use Rattle.orc_column_reader.proofs.Fronts.{nothing, one_after_other, lacks_after}
use Rattle.orc_column_reader.proofs.RunsLemmas.{at_end, at_no_run, next_read, past_end}
use Rattle.orc_column_reader.proofs.RunsMetLemmas.{met_next, met_stop, met_end}
use Rattle.orc_column_reader.proofs.NumbersLemmas.{byte_laws}
use Rattle.orc_column_reader.proofs.FirstLemmas.{first_after, first_next}
use Rattle.orc_column_reader.proofs.bytes.RunLengthBytes.fill.Goals as goal

pub loop-self-init : goal.loop-self-init
loop-self-init c = (nothing (BytesLeft c.args.self.now), λ n f h. h, λ rest h. h)

pub returns-then-self-clause-none : goal.returns-then-self-clause-none
returns-then-self-clause-none c =
    let r = c.loop-self.self in
    let used : length r.run.values ≤ r.used = omega (arith, c.loop-self-test.true, ap length c.values.ensures.values) in
    lacks_after (BytesLeft c.args.self.now) (BytesLeft r) [] 1 c.loop-self.invariant.0 (at_end IsByteRun byte_laws r.run.values r.used r.bytes.now r.at used c.if-self.true)

pub loop-self-smaller : goal.loop-self-smaller
loop-self-smaller c = omega (arith, c.in-Ok.ensures.within, c.in-Ok.ensures.some, c.split_at.ensures.back_len, c.if-self.false)

pub loop-self-preserved : goal.loop-self-preserved
loop-self-preserved c =
    let r = c.loop-self.self in
    let used : length r.run.values ≤ r.used = omega (arith, c.loop-self-test.true, ap length c.values.ensures.values) in
    let le = c.in-Ok.ensures.within in
    let within = rw c.split_at.ensures.back at le in
    let found = rw c.split_at.ensures.back at c.in-Ok.ensures.found in (
      one_after_other (BytesLeft c.args.self.now) (BytesLeft r) _ [] [] c.loop-self.invariant.0
          (next_read IsByteRun byte_laws r.run.values r.used r.bytes.now r.at c.in-Ok.len c.next_run.new.run.values used found),
      λ n f h. c.loop-self.invariant.1 n f (met_next IsByteRun NoByteRun (drop r.used r.run.values) c.next_run.new.run.values r.bytes.now r.start r.at c.in-Ok.len (length r.bytes.now) n f (past_end r.used r.run.values used) within found h),
      first_after (BytesFirst c.args.self.now) (BytesFirst r) _ [] [] c.loop-self.invariant.2
          (first_next IsByteRun r.run.values r.used r.bytes.now r.at c.in-Ok.len c.next_run.new.run.values used found),
    )

pub returns-in-Err-clause-none : goal.returns-in-Err-clause-none
returns-in-Err-clause-none c =
    let r = c.loop-self.self in
    let used : length r.run.values ≤ r.used = omega (arith, c.loop-self-test.true, ap length c.values.ensures.values) in
    lacks_after (BytesLeft c.args.self.now) (BytesLeft r) [] 1 c.loop-self.invariant.0
    (at_no_run IsByteRun r.run.values r.used (drop r.at r.bytes.now) used (λ front left v is parts. let k = (c.in-Err.ensures.only front left v is (c.split_at.ensures.back ∙ parts)).0 in absurd cc))

pub returns-clause-found : goal.returns-clause-found
returns-clause-found c = c.loop-self.invariant.0

pub returns-then-self-clause-fault : goal.returns-then-self-clause-fault
returns-then-self-clause-fault c = λ n.
    let r = c.loop-self.self in
    let used : length r.run.values ≤ r.used = omega (arith, c.loop-self-test.true, ap length c.values.ensures.values) in
    c.loop-self.invariant.1 (suc n) (TooFew (length r.bytes.now)) (met_end IsByteRun NoByteRun (drop r.used r.run.values) r.bytes.now r.start r.at (length r.bytes.now) n (past_end r.used r.run.values used) c.if-self.true)

pub returns-in-Err-clause-fault : goal.returns-in-Err-clause-fault
returns-in-Err-clause-fault c = λ n.
    let r = c.loop-self.self in
    let used : length r.run.values ≤ r.used = omega (arith, c.loop-self-test.true, ap length c.values.ensures.values) in
    c.loop-self.invariant.1 (suc n) c.with_place.result
    (met_stop IsByteRun NoByteRun (drop r.used r.run.values) r.bytes.now r.start r.at (length r.bytes.now) (suc n) c.in-Err.fault c.with_place.result (past_end r.used r.run.values used) c.if-self.false (rw c.split_at.ensures.back at c.in-Err.ensures.fault) c.with_place.ensures)

pub returns-clause-before : goal.returns-clause-before
returns-clause-before c = c.loop-self.invariant.1

pub returns-clause-first : goal.returns-clause-first
returns-clause-first c = c.loop-self.invariant.2

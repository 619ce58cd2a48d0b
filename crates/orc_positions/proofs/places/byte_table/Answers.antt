use Rattle.std.proofs.Common.{length, ap, arith, refl, inl, inr}
use Rattle.orc_rle.specs.declared.fault.RunFault.TheVariants.{TooMany}
use Rattle.orc_rle.specs.ByteRun.{IsByteRun, NoByteRun}
use Rattle.orc_rle.proofs.ByteLaws.{one_byte_run, no_byte_run, one_byte_fault, byte_run_some}
use Rattle.orc_rle.proofs.StreamLemmas.{within_no_run, within_many, one_stop_within}
use Rattle.orc_positions.specs.RunTable.{Places, ArePlaces}
use Rattle.orc_positions.proofs.PlaceLemmas.{places_go_up}
use Rattle.orc_positions.proofs.WalkLemmas.{walk_more, walk_ends, walk_goes, walk_fits, walk_stops}
use Rattle.orc_positions.proofs.places.byte_table.Goals as goal

pub returns-in-Err-clause-only : goal.returns-in-Err-clause-only
returns-in-Err-clause-only c = λ values stream few.
    let w = c.loop-at.invariant in
    let fails = rw c.split_at.ensures.back at c.in-Err.ensures.fault in
    absurd (walk_goes IsByteRun NoByteRun one_byte_run byte_run_some no_byte_run c.args.bytes.now c.loop-at.at c.loop-at.before c.loop-at.offsets.items c.loop-at.counts.items c.in-Err.fault values w
    c.loop-at-test.true fails stream)

pub returns-in-Err-clause-fault : goal.returns-in-Err-clause-fault
returns-in-Err-clause-fault c =
    let w = c.loop-at.invariant in
    let fails = rw c.split_at.ensures.back at c.in-Err.ensures.fault in
    inr (within_no_run IsByteRun NoByteRun 18446744073709551615 c.args.bytes.now c.loop-at.at w.values c.in-Err.fault c.with_place.result c.loop-at-test.true (w.runs, w.stream)
    (omega (arith, w.counted, c.loop-at.auto.before-fits)) fails c.with_place.ensures)

pub returns-then-before-found-clause-only : goal.returns-then-before-found-clause-only
returns-then-before-found-clause-only c = λ values stream few.
    let w = c.loop-at.invariant in
    let run = rw c.split_at.ensures.back at c.in-Ok.ensures.found in
    let fits = walk_fits IsByteRun one_byte_run byte_run_some c.args.bytes.now c.loop-at.at c.loop-at.before c.in-Ok.len c.loop-at.offsets.items c.loop-at.counts.items c.next_run.new.run.values values w run stream in
    absurd (omega (arith, fits, few, c.if-before-found.true, ap length c.values.ensures.values))

pub returns-then-before-found-clause-fault : goal.returns-then-before-found-clause-fault
returns-then-before-found-clause-fault c =
    let w = c.loop-at.invariant in
    let run = rw c.split_at.ensures.back at c.in-Ok.ensures.found in
    inr (within_many IsByteRun NoByteRun 18446744073709551615 c.args.bytes.now c.loop-at.at c.in-Ok.len w.values c.next_run.new.run.values (TooMany c.loop-at.at) c.loop-at-test.true
    (w.runs, w.stream) (omega (arith, w.counted, c.loop-at.auto.before-fits)) run (omega (arith, w.counted, c.if-before-found.true, ap length c.values.ensures.values)) refl)

pub loop-at-preserved : goal.loop-at-preserved
loop-at-preserved c =
    let run = rw c.split_at.ensures.back at c.in-Ok.ensures.found in
    let within = rw c.split_at.ensures.back at c.in-Ok.ensures.within in
    rw (c.in_ok-push.ensures.items, c.in_ok-push-2.ensures.items) (walk_more IsByteRun c.args.bytes.now c.loop-at.at c.loop-at.before c.in-Ok.len (length c.values.result.now)
    c.loop-at.offsets.items c.loop-at.counts.items c.next_run.new.run.values c.loop-at.invariant within run (ap length c.values.ensures.values))

pub invariant_of-result : goal.invariant_of-result
invariant_of-result c =
    let places : Places = record { offsets = c.push-2.new.self.items; counts = c.push-3.new.self.items } in
    let are : ArePlaces IsByteRun c.args.bytes.now places =
    walk_ends IsByteRun c.args.bytes.now c.loop-at.at c.loop-at.before c.loop-at.offsets.items c.loop-at.counts.items places c.loop-at.invariant
    c.loop-at-test.false c.in_ok-push-3.ensures.items c.in_ok-push-4.ensures.items in
    places_go_up IsByteRun byte_run_some c.args.bytes.now places are

pub returns-clause-found : goal.returns-clause-found
returns-clause-found c =
    walk_ends IsByteRun c.args.bytes.now c.loop-at.at c.loop-at.before c.loop-at.offsets.items c.loop-at.counts.items _ c.loop-at.invariant
    c.loop-at-test.false c.in_ok-push-3.ensures.items c.in_ok-push-4.ensures.items

pub returns-in-Err-clause-refused : goal.returns-in-Err-clause-refused
returns-in-Err-clause-refused c = λ fault other few.
    let w = c.loop-at.invariant in
    let fails = rw c.split_at.ensures.back at c.in-Err.ensures.fault in
    let stops = within_no_run IsByteRun NoByteRun 18446744073709551615 c.args.bytes.now c.loop-at.at w.values c.in-Err.fault c.with_place.result c.loop-at-test.true (w.runs, w.stream)
    (omega (arith, w.counted, c.loop-at.auto.before-fits)) fails c.with_place.ensures in
    inl (one_stop_within IsByteRun NoByteRun one_byte_run byte_run_some no_byte_run one_byte_fault 18446744073709551615 c.args.bytes.now _ fault stops other)

pub returns-then-before-found-clause-refused : goal.returns-then-before-found-clause-refused
returns-then-before-found-clause-refused c = λ fault other few.
    let w = c.loop-at.invariant in
    let past = rw c.split_at.ensures.back at c.in-Ok.ensures.found in
    let stops = within_many IsByteRun NoByteRun 18446744073709551615 c.args.bytes.now c.loop-at.at c.in-Ok.len w.values c.next_run.new.run.values (TooMany c.loop-at.at) c.loop-at-test.true
    (w.runs, w.stream) (omega (arith, w.counted, c.loop-at.auto.before-fits)) past (omega (arith, w.counted, c.if-before-found.true, ap length c.values.ensures.values)) refl in
    inl (one_stop_within IsByteRun NoByteRun one_byte_run byte_run_some no_byte_run one_byte_fault 18446744073709551615 c.args.bytes.now (TooMany c.loop-at.at) fault stops other)

pub returns-clause-refused : goal.returns-clause-refused
returns-clause-refused c = λ fault stops other.
    walk_stops IsByteRun NoByteRun one_byte_run byte_run_some no_byte_run one_byte_fault 18446744073709551615 c.args.bytes.now
    c.loop-at.at c.loop-at.before c.loop-at.offsets.items c.loop-at.counts.items fault c.loop-at.invariant c.loop-at-test.false (omega (arith, c.loop-at.auto.before-fits)) stops other

use Rattle.std.proofs.Common.{length, subst, arith}
use Rattle.orc_values.specs.Cells.{values}
use Rattle.orc_row_index.specs.RunStreams.{RunStream}
use Rattle.orc_theorems.specs.SoughtGroups.{IsSought}
use Rattle.orc_theorems.proofs.SoughtLemmas.{column_sought, long_enough}
use Rattle.orc_theorems.proofs.seeking.seek_places.Goals as goal

pub returns : goal.returns
returns c = λ s x before are places.
    let both = column_sought s x before c.args.placed.now c.args.positions.now c.position_size-size.result c.split_at.result.0.now c.split_at.result.1.now are places
    c.position_size-size.ensures c.split_at.ensures.front c.split_at.ensures.back in
    record {
      present = subst (λ (r : RunStream). IsSought r (length before) c.in_ok-present.present) are.present_is (c.in_ok-present.ensures (length before) both.0);
      own = subst (λ (r : RunStream). IsSought r (length (values before)) c.in_ok-own.own) are.own_is
          (c.in_ok-own.ensures (length (values before)) (both.1 c.behind_octets.result.now c.behind_octets.ensures));
    }

pub returns-then-positions-size : goal.returns-then-positions-size
returns-then-positions-size c = λ s x before are places.
    let long = long_enough s x before c.args.placed.now c.args.positions.now c.position_size-size.result are places c.position_size-size.ensures in
    absurd (omega (arith, long, c.if-positions-size.true))

pub returns-in_err-present : goal.returns-in_err-present
returns-in_err-present c = λ s x before are places.
    let both = column_sought s x before c.args.placed.now c.args.positions.now c.position_size-size.result c.split_at.result.0.now c.split_at.result.1.now are places
    c.position_size-size.ensures c.split_at.ensures.front c.split_at.ensures.back in
    absurd (c.in_err-present.ensures (length before) both.0)

pub returns-in_err-own : goal.returns-in_err-own
returns-in_err-own c = λ s x before are places.
    let both = column_sought s x before c.args.placed.now c.args.positions.now c.position_size-size.result c.split_at.result.0.now c.split_at.result.1.now are places
    c.position_size-size.ensures c.split_at.ensures.front c.split_at.ensures.back in
    absurd (c.in_err-own.ensures (length (values before)) (both.1 c.behind_octets.result.now c.behind_octets.ensures))

use Rattle.std.proofs.Common.{◌≤◌, ℕ, List, length, drop, ap, sym, subst}
use Rattle.std.proofs.lemmas.Bool.{false≢true}
use Rattle.orc_theorems.proofs.SoughtLemmas.{bit_sought, bits_there, bits_lead, bits_sought}
use Rattle.orc_theorems.proofs.seeking.seek_bits.Goals as goal

pub returns-in-Ok : goal.returns-in-Ok
returns-in-Ok c = λ n place.
    let pos = c.in-Some.pos in
    let bytes = c.args.bytes.now in
    record {
      one_run = bit_sought bytes c.args.positions.now pos.offset pos.skip pos.bits n c.new-run.result.count c.seek.new.run.count
          c.in-Some.ensures.found place c.new-run.ensures.count (record { count = c.seek.ensures.count; one_run = c.seek.ensures.one_run });
      leads = λ all stream le.
          let there = bits_there c.bit_seek_laws.ensures.place bytes c.args.positions.now pos.offset pos.skip pos.bits n (length all) c.in-Some.ensures.found place le in
          let found = bits_sought bytes pos.offset pos.skip pos.bits c.seek.result c.seek.new.run.values (drop n all)
          (c.bit_seek_laws.ensures.sought bytes pos.offset pos.skip pos.bits n all there.0 stream) c.seek.ensures.only in
          bits_lead pos.bits n c.seek.new.run.values (drop found.0 bytes) all there.1 found.2;
    }

pub returns-in-Err : goal.returns-in-Err
returns-in-Err c = λ n place.
    let pos = c.in-Some.pos in
    let bytes = c.args.bytes.now in
    let has = place.4.has in
    let le : n ≤ length has.0 = subst (λ (k : ℕ). n ≤ k) (sym has.2) place.4.place.there in
    let there = bits_there c.bit_seek_laws.ensures.place bytes c.args.positions.now pos.offset pos.skip pos.bits n (length has.0) c.in-Some.ensures.found place le in
    let found = bits_sought bytes pos.offset pos.skip pos.bits c.seek.result c.seek.new.run.values (drop n has.0)
    (c.bit_seek_laws.ensures.sought bytes pos.offset pos.skip pos.bits n has.0 there.0 has.1) c.seek.ensures.only in
    let done = found.1 in
    let failed = c.in-Err.is in
    cc

pub returns-in_default : goal.returns-in_default
returns-in_default c = λ n place. absurd (false≢true (c.in_default.ensures.some (ap (λ (l : List ℕ). length l) place.3)))

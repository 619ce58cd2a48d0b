use Rattle.orc_rle.specs.Seeking.{bytes_needed}
use Rattle.orc_rle.specs.ByteRun.{IsByteRun}
use Rattle.orc_group_reader.proofs.RunStarts.{runs_to}
use Rattle.std.proofs.Common.{ℕ, drop, refl, sym, subst}
use Rattle.orc_positions.specs.BitPosition.{BitsPending}
use Rattle.orc_column_reader.specs.Bits as reader
use Rattle.orc_column_reader.specs.declared.bits.Bits.{Bits}
use Rattle.orc_group_reader.specs.ReadersAt.{BitsAt}
use Rattle.orc_group_reader.proofs.SoughtBits.{bits_there, bits_not_refused, held_left, none_left, made_of, none_passed, holds_first, holds_none}
use Rattle.orc_group_reader.proofs.bits.bits_at.Goals as goal

pub returns-in-Err-clause-enters : goal.returns-in-Err-clause-enters
returns-in-Err-clause-enters c = λ other all n b stream agree.
    bits_not_refused c.args.bytes.now other all c.args.pos.offset c.args.pos.skip c.args.pos.bits n b stream agree (λ at left s. let k = (c.in-Err.ensures.only at left s).0 in cc)

pub returns-in-Some-clause-enters : goal.returns-in-Some-clause-enters
returns-in-Some-clause-enters c = λ other all n b stream agree.
    let left = c.seek.new.run.values in
    let is = made_of c.behind.result c.behind-after.result _ _ _ c.behind.ensures c.behind-after.ensures in
    subst (λ (r : Bits). reader.BitsLeft r (drop n all)) (sym is)
    (held_left _ left (drop c.in-Ok.at c.args.bytes.now) c.args.pos.bits (drop n all) c.in-Ok.ensures.found.0 c.in-Some.ensures.there.1 refl refl refl
    (bits_there c.args.bytes.now other all left c.args.pos.offset c.args.pos.skip c.args.pos.bits n c.in-Ok.at b stream agree c.in-Ok.ensures.found))

pub returns-in-None-clause-enters : goal.returns-in-None-clause-enters
returns-in-None-clause-enters c = λ other all n b stream agree.
    let left = c.seek.new.run.values in
    let rest = drop c.in-Ok.at c.args.bytes.now in
    let none = none_passed c.args.bytes.now left c.args.pos.offset c.args.pos.skip c.args.pos.bits c.in-Ok.at c.in-None.ensures.none c.in-Ok.ensures.found in
    let is = made_of c.behind-in-None.result c.behind-after-in-None.result _ _ _ c.behind-in-None.ensures c.behind-after-in-None.ensures in
    subst (λ (r : Bits). reader.BitsLeft r (drop n all)) (sym is)
    (none_left _ left rest (drop n all) refl refl refl
    (subst (λ (k : ℕ). BitsPending left rest k (drop n all)) none (bits_there c.args.bytes.now other all left c.args.pos.offset c.args.pos.skip c.args.pos.bits n c.in-Ok.at b stream agree c.in-Ok.ensures.found)))

pub last_byte_start-start-requires : goal.last_byte_start-start-requires
last_byte_start-start-requires c =
    runs_to IsByteRun c.args.bytes.now c.args.pos.offset c.args.pos.skip (bytes_needed c.args.pos.skip c.args.pos.bits) c.in-Ok.at c.seek.new.run.values c.in-Ok.ensures.found.1

pub returns-in-Some-clause-at : goal.returns-in-Some-clause-at
returns-in-Some-clause-at c =
    let is = made_of c.behind.result c.behind-after.result _ _ _ c.behind.ensures c.behind-after.ensures in
    subst (λ (r : Bits). BitsAt c.args.bytes.now c.args.pos.offset c.args.pos.skip c.args.pos.bits r) (sym is) (record {
      bytes_are = refl;
      left = c.seek.new.run.values;
      seeks = c.in-Ok.ensures.found;
      holds = holds_first c.seek.new.run.values c.args.pos.bits _ c.in-Some.ensures.there.0 c.in-Some.ensures.there.1 refl refl;
      last = c.last_byte_start-start.ensures;
    })

pub returns-in-None-clause-at : goal.returns-in-None-clause-at
returns-in-None-clause-at c =
    let left = c.seek.new.run.values in
    let none = none_passed c.args.bytes.now left c.args.pos.offset c.args.pos.skip c.args.pos.bits c.in-Ok.at c.in-None.ensures.none c.in-Ok.ensures.found in
    let is = made_of c.behind-in-None.result c.behind-after-in-None.result _ _ _ c.behind-in-None.ensures c.behind-after-in-None.ensures in
    subst (λ (r : Bits). BitsAt c.args.bytes.now c.args.pos.offset c.args.pos.skip c.args.pos.bits r) (sym is) (record {
      bytes_are = refl;
      left = left;
      seeks = c.in-Ok.ensures.found;
      holds = holds_none left c.args.pos.bits _ none refl refl;
      last = c.last_byte_start-start.ensures;
    })

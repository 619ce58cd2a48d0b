use Rattle.std.specs.Prelude.{IfOk, IfErr}
use Rattle.std.proofs.Common.{◌≡◌, ℕ, ℤ, List, Ok, sym, subst}
use Rattle.orc_rle.specs.Seeking.{Seeks, SeekFails}
use Rattle.orc_column_reader.specs.Numbers.{is_run}
use Rattle.orc_column_reader.specs.RunFaults.{no_run}
use Rattle.orc_rle.specs.declared.sign.Rle.{Rle}
use Rattle.orc_group_reader.proofs.numbers.seek.Goals as goal

pub returns-in-One-clause-found : goal.returns-in-One-clause-found
returns-in-One-clause-found c =
    subst (λ (r : Rle). IfOk c.seek.result (λ at. Seeks (is_run r c.args.sign) c.args.bytes.now c.args.pos.offset c.args.pos.skip c.args.pos.skip at c.seek.new.run.values)) (sym c.in-One.is) c.seek.ensures.found

pub returns-in-One-clause-only : goal.returns-in-One-clause-only
returns-in-One-clause-only c =
    subst (λ (r : Rle). (at : ℕ) (left : List ℤ) → Seeks (is_run r c.args.sign) c.args.bytes.now c.args.pos.offset c.args.pos.skip c.args.pos.skip at left → (c.seek.result ≡ Ok at) × (c.seek.new.run.values ≡ left))
    (sym c.in-One.is) c.seek.ensures.only

pub returns-in-One-clause-fault : goal.returns-in-One-clause-fault
returns-in-One-clause-fault c =
    subst (λ (r : Rle). IfErr c.seek.result (SeekFails (is_run r c.args.sign) (no_run r c.args.sign) c.args.bytes.now c.args.pos.offset c.args.pos.skip)) (sym c.in-One.is) c.seek.ensures.fault

pub returns-in-Two-clause-found : goal.returns-in-Two-clause-found
returns-in-Two-clause-found c =
    subst (λ (r : Rle). IfOk c.seek-in-Two.result (λ at. Seeks (is_run r c.args.sign) c.args.bytes.now c.args.pos.offset c.args.pos.skip c.args.pos.skip at c.seek-in-Two.new.run.values)) (sym c.in-Two.is)
    c.seek-in-Two.ensures.found

pub returns-in-Two-clause-only : goal.returns-in-Two-clause-only
returns-in-Two-clause-only c =
    subst (λ (r : Rle). (at : ℕ) (left : List ℤ) → Seeks (is_run r c.args.sign) c.args.bytes.now c.args.pos.offset c.args.pos.skip c.args.pos.skip at left → (c.seek-in-Two.result ≡ Ok at) × (c.seek-in-Two.new.run.values ≡ left))
    (sym c.in-Two.is) c.seek-in-Two.ensures.only

pub returns-in-Two-clause-fault : goal.returns-in-Two-clause-fault
returns-in-Two-clause-fault c =
    subst (λ (r : Rle). IfErr c.seek-in-Two.result (SeekFails (is_run r c.args.sign) (no_run r c.args.sign) c.args.bytes.now c.args.pos.offset c.args.pos.skip)) (sym c.in-Two.is) c.seek-in-Two.ensures.fault

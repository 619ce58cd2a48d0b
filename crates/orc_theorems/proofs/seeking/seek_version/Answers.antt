use Rattle.std.proofs.Common.{◌≡◌, ℕ, ℤ, List, Ok, drop, sym, subst}
use Rattle.orc_rle.specs.Stream.{IsStream, RunsLeft}
use Rattle.orc_rle.specs.declared.sign.Rle.{Rle}
use Rattle.orc_rle.specs.declared.sign.Rle.TheVariants.{One, Two}
use Rattle.orc_positions.specs.Position.{Begins}
use Rattle.orc_column_reader.specs.Numbers.{is_run}
use Rattle.orc_theorems.specs.OneRunPositions.{SeekCounts}
use Rattle.orc_theorems.proofs.SoughtLemmas.{sought_at}
use Rattle.orc_theorems.proofs.seeking.seek_version.Goals as goal

pub returns-in-One-clause-counts : goal.returns-in-One-clause-counts
returns-in-One-clause-counts c =
    subst (λ (r : Rle). SeekCounts (is_run r c.args.sign) c.args.bytes.now c.args.pos.offset c.args.pos.skip c.args.run.now.count c.seek.new.run.count) (sym c.in-One.is)
    (record { count = c.seek.ensures.count; one_run = c.seek.ensures.one_run })

pub returns-in-Two-clause-counts : goal.returns-in-Two-clause-counts
returns-in-Two-clause-counts c =
    subst (λ (r : Rle). SeekCounts (is_run r c.args.sign) c.args.bytes.now c.args.pos.offset c.args.pos.skip c.args.run.now.count c.seek-in-Two.new.run.count) (sym c.in-Two.is)
    (record { count = c.seek-in-Two.ensures.count; one_run = c.seek-in-Two.ensures.one_run })

pub returns-in-One-clause-leads : goal.returns-in-One-clause-leads
returns-in-One-clause-leads c =
    let bytes = c.args.bytes.now in
    let pos = c.args.pos in
    let left = c.seek.new.run.values in
    subst (λ (r : Rle). (n : ℕ) (all : List ℤ) → Begins (is_run r c.args.sign) bytes pos.offset pos.skip n → IsStream (is_run r c.args.sign) bytes all
    → (at : ℕ) × (c.seek.result ≡ Ok at) × RunsLeft (is_run r c.args.sign) left (drop at bytes) (drop n all)) (sym c.in-One.is)
    (λ n all begins stream. sought_at (is_run One c.args.sign) bytes pos.offset pos.skip c.seek.result left (drop n all)
    (c.seek_laws.ensures.sought c.args.sign bytes pos.offset pos.skip n all begins stream) c.seek.ensures.only)

pub returns-in-Two-clause-leads : goal.returns-in-Two-clause-leads
returns-in-Two-clause-leads c =
    let bytes = c.args.bytes.now in
    let pos = c.args.pos in
    let left = c.seek-in-Two.new.run.values in
    subst (λ (r : Rle). (n : ℕ) (all : List ℤ) → Begins (is_run r c.args.sign) bytes pos.offset pos.skip n → IsStream (is_run r c.args.sign) bytes all
    → (at : ℕ) × (c.seek-in-Two.result ≡ Ok at) × RunsLeft (is_run r c.args.sign) left (drop at bytes) (drop n all)) (sym c.in-Two.is)
    (λ n all begins stream. sought_at (is_run Two c.args.sign) bytes pos.offset pos.skip c.seek-in-Two.result left (drop n all)
    (c.seek_laws-2.ensures.sought c.args.sign bytes pos.offset pos.skip n all begins stream) c.seek-in-Two.ensures.only)

use Rattle.std.proofs.Common.{◌-◌, sym, subst}
use Rattle.orc_rle.specs.declared.sign.Rle.{Rle}
use Rattle.orc_column_reader.specs.Numbers.{is_run}
use Rattle.orc_positions.specs.Position.{IsWriterPosition, HasValues}
use Rattle.orc_positions.specs.RunStarts.{IsRunStart}
use Rattle.orc_row_index.proofs.run_bytes.number_run_start.Goals as goal

pub run_start_at-requires-clause-there : goal.run_start_at-requires-clause-there
run_start_at-requires-clause-there c = subst (λ (r : Rle). HasValues (is_run r c.args.sign) c.args.bytes.now c.args.n) c.in-One.is c.requires.there

pub run_start_at-requires-clause-from : goal.run_start_at-requires-clause-from
run_start_at-requires-clause-from c = subst (λ (r : Rle). IsRunStart (is_run r c.args.sign) c.args.bytes.now c.args.from) c.in-One.is c.requires.from

pub returns-in-One-clause-place : goal.returns-in-One-clause-place
returns-in-One-clause-place c = subst (λ (r : Rle). IsWriterPosition (is_run r c.args.sign) c.args.bytes.now c.run_start_at.result.offset (c.args.n - c.run_start_at.result.before) c.args.n) (sym c.in-One.is) c.run_start_at.ensures.place

pub returns-in-One-clause-run_start : goal.returns-in-One-clause-run_start
returns-in-One-clause-run_start c = subst (λ (r : Rle). IsRunStart (is_run r c.args.sign) c.args.bytes.now c.run_start_at.result) (sym c.in-One.is) c.run_start_at.ensures.run_start

pub run_start_at-requires-in-Two-clause-there : goal.run_start_at-requires-in-Two-clause-there
run_start_at-requires-in-Two-clause-there c = subst (λ (r : Rle). HasValues (is_run r c.args.sign) c.args.bytes.now c.args.n) c.in-Two.is c.requires.there

pub run_start_at-requires-in-Two-clause-from : goal.run_start_at-requires-in-Two-clause-from
run_start_at-requires-in-Two-clause-from c = subst (λ (r : Rle). IsRunStart (is_run r c.args.sign) c.args.bytes.now c.args.from) c.in-Two.is c.requires.from

pub returns-in-Two-clause-place : goal.returns-in-Two-clause-place
returns-in-Two-clause-place c = subst (λ (r : Rle). IsWriterPosition (is_run r c.args.sign) c.args.bytes.now c.run_start_at-in-Two.result.offset (c.args.n - c.run_start_at-in-Two.result.before) c.args.n) (sym c.in-Two.is) c.run_start_at-in-Two.ensures.place

pub returns-in-Two-clause-run_start : goal.returns-in-Two-clause-run_start
returns-in-Two-clause-run_start c = subst (λ (r : Rle). IsRunStart (is_run r c.args.sign) c.args.bytes.now c.run_start_at-in-Two.result) (sym c.in-Two.is) c.run_start_at-in-Two.ensures.run_start

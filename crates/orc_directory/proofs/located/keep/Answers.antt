use Rattle.std.proofs.Common.{refl, arith}
use Rattle.orc_directory.proofs.LocatedLemmas.{finds_one}
use Rattle.orc_directory.proofs.located.keep.Goals as goal

pub returns-then-column-columns : goal.returns-then-column-columns
returns-then-column-columns c =
    finds_one c.args.columns c.args.stream.now c.args.bytes.now c.args.slices.now.items _ (record { bytes = c.args.bytes }) c.requires.len
    (omega (arith, c.if-kind-lt-KINDS.true)) (omega (arith, c.if-column-columns.true)) refl refl

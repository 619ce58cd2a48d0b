use Rattle.std.proofs.Common.{refl, arith}
use Rattle.orc_column_walk.proofs.PassedLemmas.{passed_padded}
use Rattle.orc_column_walk.proofs.passed.Passed.pad.Goals as goal

pub returns-clause-passed : goal.returns-clause-passed
returns-clause-passed c = λ s front part long many h.
    passed_padded s c.args.self _ front part c.args.cells c.args.values long many c.requires.few h (omega (arith, c.requires.few)) refl refl refl

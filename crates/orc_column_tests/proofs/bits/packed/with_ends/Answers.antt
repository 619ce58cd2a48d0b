use Rattle.std.proofs.Common.{◌^◌, ◌≤◌, arith}
use Rattle.std.proofs.Math.Nat.{pow-le-pow_right}
use Rattle.orc_column_tests.proofs.bits.packed.with_ends.Goals as goal

pub returns-in-1 : goal.returns-in-1
returns-in-1 c =
    let h : 2 ^ 1 ≤ 2 ^ c.args.width = pow-le-pow_right (omega arith) c.requires.some in
    omega (arith, h)

use Rattle.std.proofs.Common.{sym, subst, arith}
use Rattle.std.specs.Prelude.{MatchResult}
use Rattle.orc_row_index.specs.Walking.{runs}
use Rattle.orc_row_index.specs.declared.run_bytes.RunBytes.{RunBytes}
use Rattle.orc_theorems.specs.OneRunPositions.{IsOneRunPosition}
use Rattle.orc_theorems.specs.SoughtGroups.{IsSought}
use Rattle.orc_theorems.specs.declared.seeking.Sought.TheVariants as sought
use Rattle.orc_theorems.proofs.seeking.seek_stream.Goals as goal

pub returns-in-Nothing : goal.returns-in-Nothing
returns-in-Nothing c = λ n place.
    subst (λ (r : RunBytes). IsSought (runs r) n sought.Nothing) (sym c.in-Nothing.is) (record { one_run = omega arith; leads = tt })

pub returns-in-Bits : goal.returns-in-Bits
returns-in-Bits c = λ n place.
    subst (λ (r : RunBytes). MatchResult c.seek_bits.result (IsSought (runs r) n) (λ _. ⊥)) (sym c.in-Bits.is)
    (c.seek_bits.ensures n (subst (λ (r : RunBytes). IsOneRunPosition (runs r) n c.args.positions.now) c.in-Bits.is place))

pub returns-in-Bytes : goal.returns-in-Bytes
returns-in-Bytes c = λ n place.
    subst (λ (r : RunBytes). MatchResult c.seek_bytes.result (IsSought (runs r) n) (λ _. ⊥)) (sym c.in-Bytes.is)
    (c.seek_bytes.ensures n (subst (λ (r : RunBytes). IsOneRunPosition (runs r) n c.args.positions.now) c.in-Bytes.is place))

pub returns-in-Numbers : goal.returns-in-Numbers
returns-in-Numbers c = λ n place.
    subst (λ (r : RunBytes). MatchResult c.seek_numbers.result (IsSought (runs r) n) (λ _. ⊥)) (sym c.in-Numbers.is)
    (c.seek_numbers.ensures n (subst (λ (r : RunBytes). IsOneRunPosition (runs r) n c.args.positions.now) c.in-Numbers.is place))

use Rattle.std.proofs.Common.{ℕ, ◌+◌, ◌≤◌, subst, arith, inl, inr, Result}
use Rattle.std.specs.Prelude.{IfOk}
use Rattle.orc_rle.specs.declared.fault.RunFault.{RunFault}
use Rattle.orc_rle.specs.ByteRun.{IsByteRun}
use Rattle.orc_rle.proofs.ByteLaws.{byte_run_some}
use Rattle.orc_rle.specs.Seeking.{CountsRuns}
use Rattle.orc_positions.proofs.PositionLemmas.{place_run, place_found, counts_exact}
use Rattle.orc_positions.proofs.laws.byte_seek_position.Goals as goal

pub returns-clause-count : goal.returns-clause-count
returns-clause-count c =
    let found = place_found IsByteRun c.args.bytes.now c.args.pos.offset c.args.pos.skip c.requires.0 c.requires.1.begins in
    let answer = c.seek.ensures.only found.at found.left found.seeks in
    let counts = subst (λ (r : Result ℕ RunFault). IfOk r (λ at. CountsRuns IsByteRun c.args.bytes.now c.args.pos.offset at c.args.run.now.count c.seek.new.run.count)) answer.0 c.seek.ensures.counted in
    let few : c.seek.new.run.count ≤ c.args.run.now.count + 1 =
    elim (place_run IsByteRun c.args.bytes.now c.args.pos.offset c.args.pos.skip c.requires.1.inside) [
      | inl none ↦ omega (arith, none, c.seek.ensures.count)
      | inr run ↦ c.seek.ensures.one_run run.0 run.1 run.2 run.3 run.4 run.5
    ] in
    counts_exact IsByteRun byte_run_some c.args.bytes.now c.args.pos.offset c.args.pos.skip c.args.pos.skip found.at _ _ found.left found.seeks counts few

use Rattle.std.proofs.Common.{ℕ, ◌+◌, ◌≤◌, sym, subst, arith, inl, inr, Result}
use Rattle.std.specs.Prelude.{IfOk}
use Rattle.orc_rle.specs.declared.fault.RunFault.{RunFault}
use Rattle.orc_rle.specs.ByteRun.{IsByteRun}
use Rattle.orc_rle.proofs.ByteLaws.{byte_run_some}
use Rattle.orc_rle.specs.Seeking.{CountsRuns, bytes_needed}
use Rattle.orc_positions.specs.BitPosition.{BeginsBits}
use Rattle.orc_positions.proofs.PositionLemmas.{counts_exact}
use Rattle.orc_positions.proofs.BitPositionLemmas.{bit_place_run, bit_place_begins, bits_sought}
use Rattle.orc_positions.proofs.laws.bit_seek_position.Goals as goal

pub returns-clause-count : goal.returns-clause-count
returns-clause-count c =
    let r = c.requires in
    let pos = c.args.pos in
    let begins = subst (λ (total : ℕ). BeginsBits c.args.bytes.now total pos.offset pos.skip pos.bits r.1) (sym r.2.2) (bit_place_begins c.args.bytes.now r.0 pos.offset pos.skip pos.bits r.1 r.3) in
    let found = bits_sought c.args.bytes.now pos.offset pos.skip pos.bits r.1 r.2.0 begins r.2.1 in
    let answer = c.seek.ensures.only found.at found.left found.seeks in
    let counts = subst (λ (r : Result ℕ RunFault). IfOk r (λ at. CountsRuns IsByteRun c.args.bytes.now pos.offset at c.args.run.now.count c.seek.new.run.count)) answer.0 c.seek.ensures.counted in
    let few : c.seek.new.run.count ≤ c.args.run.now.count + 1 =
    elim (bit_place_run c.args.bytes.now r.0 pos.offset pos.skip pos.bits r.1 r.2 r.3) [
      | inl none ↦ omega (arith, none, c.seek.ensures.count)
      | inr run ↦ c.seek.ensures.one_run run.0 run.1 run.2 run.3 run.4 run.5
    ] in
    counts_exact IsByteRun byte_run_some c.args.bytes.now pos.offset pos.skip (bytes_needed pos.skip pos.bits) found.at _ _ found.left found.seeks.1 counts few

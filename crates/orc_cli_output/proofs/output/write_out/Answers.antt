use Rattle.std.proofs.Common.{arith, take, take-add}
use Rattle.orc_cli_output.proofs.OutputLemmas.{appends_more}
use Rattle.orc_cli_output.proofs.output.write_out.Goals as goal

pub loop-at-preserved : goal.loop-at-preserved
loop-at-preserved g c =
    let rest = rw c.split_at.ensures.back at c.in-Ok.ensures.bytes in
    let more = appends_more _ _ _ (take c.loop-at.at c.args.bytes.now) _ c.loop-at.invariant.written rest in
    record {
      within = omega (arith, c.in-Ok.ensures.bound, c.split_at.ensures.back_len);
      written = rw (take-add c.loop-at.at c.in-Ok.count c.args.bytes.now) more;
    }

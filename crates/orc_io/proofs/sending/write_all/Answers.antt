use Rattle.std.proofs.Common.{rules, arith}
use Rattle.std.proofs.lemmas.Grind.{common_steps}
use Rattle.orc_io.proofs.Appended.{appended_more}
use Rattle.orc_io.proofs.sending.write_all.Goals as goal

pub loop-at-preserved : goal.loop-at-preserved
loop-at-preserved g c = record {
  in_range = search rules;
  told = appended_more _ _ _ c.loop-at.at c.in-Ok.n _ c.args.bytes.now (omega arith) c.loop-at.invariant.told c.in-Ok.ensures.told;
  kept = grind (arith, common_steps);
}

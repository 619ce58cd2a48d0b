use Rattle.std.proofs.Common.{rules, arith}
use Rattle.std.proofs.lemmas.Grind.{common_steps}
use Rattle.orc_merger.proofs.CopiedParts.{Copied_more, CopiedSome_more}
use Rattle.orc_merger.proofs.copying.copy_range.Goals as goal

pub returns-in-Err-write_all-clause-prefix : goal.returns-in-Err-write_all-clause-prefix
returns-in-Err-write_all-clause-prefix g c =
    CopiedSome_more _ _ _ _ _ c.args.at c.loop-done.done c.min-n.result _ c.args.len c.in-Err-write_all.field-0 _ c.loop-done.invariant.copied c.loop-done.invariant.told (grind (arith, common_steps)) c.in-Ok.ensures.bytes (grind (arith, common_steps)) (omega arith) c.in-Err-write_all.ensures.some

pub loop-done-preserved : goal.loop-done-preserved
loop-done-preserved g c = record {
  in_range = omega arith;
  size = search rules;
  told = search rules;
  source_kept = search rules;
  out_kept = search rules;
  copied = Copied_more _ _ _ _ _ c.args.at c.loop-done.done c.min-n.result _ _ c.loop-done.invariant.copied c.loop-done.invariant.told (grind (arith, common_steps)) c.in-Ok.ensures.bytes c.in-Ok-write_all.ensures.all;
}

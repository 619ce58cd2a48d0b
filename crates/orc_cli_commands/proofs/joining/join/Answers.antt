use Rattle.std.proofs.Common.{refl, length, map}
use Rattle.std.proofs.lemmas.List.{length-map}
use Rattle.std.proofs.lemmas.Result.{err_from_is_err_and}
use Rattle.orc_cli_commands.proofs.PlaceLemmas.{same_fault}
use Rattle.orc_cli_commands.proofs.joining.join.Goals as goal

pub returns-in_err-merge : goal.returns-in_err-merge
returns-in_err-merge g c =
    let e = c.in_err-merge.ensures in
    let p = err_from_is_err_and c.from_residual.result c.from_residual.ensures.1 in
    rw (p.1, p.2) (record {
      done = tt;
      merged = tt;
      refused = e.refused;
      nothing = e.nothing;
      some = e.some;
      memory = λ q. e.memory (same_fault _ _ q);
      source = λ i q. (c.args.sources.now, c.merge.new.inputs, e.source_failed i (same_fault _ _ q));
      file = λ i why q. e.file i why (same_fault _ _ q);
      named = rw (length-map c.args.sources.now g.I.Source.told) e.named;
      output = λ q. (c.args.out.now, c.merge.new.out, e.output.failed (same_fault _ _ q));
    })

pub returns : goal.returns
returns g c =
    let e = c.in_ok-merge.ensures in record {
      done = refl;
      merged = λ files is. (c.in_ok-merge.field-0, e.merged files is);
      refused = tt;
      nothing = tt;
      some = tt;
      memory = λ q. cc;
      source = λ i q. cc;
      file = λ i why q. cc;
      named = tt;
      output = λ q. cc;
    }

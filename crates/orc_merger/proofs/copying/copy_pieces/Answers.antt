use Rattle.std.proofs.Common.{arith, ◌∙◌, ◌<◌, ◌≤◌, ℕ, length, ap, subst}
use Rattle.orc_io.proofs.Leaving.{kept_then}
use Rattle.orc_merger.specs.Copies.{IsOfCopy}
use Rattle.orc_merger.specs.Outcomes.{counts_after}
use Rattle.orc_merger.proofs.InputsRead.{as_long}
use Rattle.orc_merger.proofs.BytesOut.{copied_more, some_more, all_pieces}
use Rattle.orc_merger.proofs.copying.copy_pieces.Goals as goal

pub returns-in-Err-clause-some : goal.returns-in-Err-clause-some
returns-in-Err-clause-some g c = λ files same.
    let lt : c.loop-i.i < length c.args.pieces.now = omega arith in
    some_more files c.args.pieces.now c.loop-i.i _ _ _ lt
    (c.copy_piece.ensures.some files (c.loop-i.invariant.told ∙ same)) (c.loop-i.invariant.copied files same)

pub loop-i-preserved : goal.loop-i-preserved
loop-i-preserved g c = record {
  in_range = omega arith;
  told = c.copy_piece.ensures.told ∙ c.loop-i.invariant.told;
  sizes = c.copy_piece.ensures.sizes ∙ c.loop-i.invariant.sizes;
  failures = c.in-Ok.ensures.kept ∙ c.loop-i.invariant.failures;
  kept = c.in-Ok.ensures.output.kept ∙ c.loop-i.invariant.kept;
  copied = λ files same.
      let lt : c.loop-i.i < length c.args.pieces.now = omega arith in
      copied_more files c.args.pieces.now c.loop-i.i _ _ _ lt
      (c.in-Ok.ensures.all files (c.loop-i.invariant.told ∙ same)) (c.loop-i.invariant.copied files same);
}

pub returns-clause-some : goal.returns-clause-some
returns-clause-some g c = λ files same.
    let le : length c.args.pieces.now ≤ c.loop-i.i = omega arith in
    all_pieces files c.args.pieces.now c.loop-i.i _ _ le (c.loop-i.invariant.copied files same)

pub returns-in-Err-clause-named : goal.returns-in-Err-clause-named
returns-in-Err-clause-named g c =
    subst (λ (n : ℕ). IsOfCopy n c.in-Err.fault) (as_long g.S.Source.told c.args.inputs.now c.loop-i.inputs c.loop-i.invariant.told) c.in-Err.ensures.named

pub returns-in-Err-clause-sources : goal.returns-in-Err-clause-sources
returns-in-Err-clause-sources g c = c.in-Err.ensures.sources ∙ ap (counts_after c.in-Err.fault) c.loop-i.invariant.failures

pub returns-in-Err-clause-output : goal.returns-in-Err-clause-output
returns-in-Err-clause-output g c = kept_then c.loop-i.invariant.kept c.in-Err.ensures.output

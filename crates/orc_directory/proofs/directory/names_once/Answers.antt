use Rattle.std.proofs.Common.{sym, ◌∙◌}
use Rattle.std.proofs.lemmas.Bool.{not-true, not-false}
use Rattle.std.specs.BTreeSet.{contains}
use Rattle.orc_directory.proofs.DirectoryLemmas.{pair_cmp, twice, once_more, named_more}
use Rattle.orc_directory.proofs.directory.names_once.Goals as goal

pub returns-then-not-branch-clause-once : goal.returns-then-not-branch-clause-once
returns-then-not-branch-clause-once c =
    let xs = c.args.streams.now in
    let i = c.loop-stream.stream-index in
    let found = not-false _ (sym c.in_ok-insert.ensures.added ∙ c.if-not-branch.true) in
    sym (twice xs i _ c.loop-stream-test.true (sym (c.loop-stream.invariant.1 _ _) ∙ found))

pub loop-stream-preserved : goal.loop-stream-preserved
loop-stream-preserved c =
    let xs = c.args.streams.now in
    let i = c.loop-stream.stream-index in
    let none = not-true _ (sym c.in_ok-insert.ensures.added ∙ c.if-not-branch.false) in (
      once_more xs i _ c.loop-stream-test.true c.loop-stream.invariant.0 (sym (c.loop-stream.invariant.1 _ _) ∙ none),
      λ column kind. named_more xs i _ column kind (contains pair_cmp c.loop-stream.named (column, kind)) (contains pair_cmp c.insert.new.self (column, kind)) c.loop-stream-test.true
          (c.loop-stream.invariant.1 column kind) (c.in_ok-insert.ensures.updates.0 (column, kind)),
    )

use Rattle.std.proofs.Common.{◌≢◌, ℕ, List, ◌++◌, subst, add-one, arith}
use Rattle.orc_trees.proofs.TextFronts.{all_kinds, kinds_more, kinds_all}
use Rattle.orc_trees.proofs.schema_text.kind_from.Goals as goal

pub loop-kind-init : goal.loop-kind-init
loop-kind-init c = all_kinds c.args.text.now

pub loop-kind-preserved : goal.loop-kind-preserved
loop-kind-preserved c =
    let none = subst (λ (w : List ℕ). (rest : List ℕ) → c.args.text.now ≢ w ++ rest) c.kind_name.ensures (c.in_default.ensures) in
    rw add-one (kinds_more c.args.text.now _ c.loop-kind.kind-index _ (omega arith) none c.loop-kind.invariant)

pub returns-clause-none : goal.returns-clause-none
returns-clause-none c = kinds_all c.args.text.now _ c.loop-kind.kind-index c.loop-kind-test.false c.loop-kind.invariant

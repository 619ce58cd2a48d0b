use Rattle.std.proofs.Common.{◌*◌, ap, ◌∙◌, List, ℕ, [], ◌∷◌, ◌++◌}
use Rattle.orc_row_groups.proofs.GroupLemmas.{starts_more}
use Rattle.orc_row_groups.proofs.starts.group_starts.Goals as goal

pub loop-group-preserved : goal.loop-group-preserved
loop-group-preserved c =
    c.in_ok-push.ensures.items ∙ ap (λ (xs : List ℕ). xs ++ c.loop-group.group * c.args.stride ∷ []) c.loop-group.invariant ∙ starts_more c.args.stride c.loop-group.group

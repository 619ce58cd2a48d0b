use Rattle.std.proofs.Common.{◌≡◌, ◌+◌, ◌<◌, ◌++◌, ◌∷◌, [], List, length, take, sym, ap, ◌∙◌, subst, append_assoc, arith}
use Rattle.std.proofs.lemmas.List.{take_more}
use Rattle.orc_stats.specs.declared.stat.Stat.{Stat}
use Rattle.orc_merger.specs.Counts.{AreCounts}
use Rattle.orc_merger.proofs.value_counts.add_counts.Goals as goal

pub loop-stats-preserved : goal.loop-stats-preserved
loop-stats-preserved c = λ before h.
    let stripes : List (List Stat) = c.args.stripes.now in
    let i = c.loop-stats.stats-index in
    let d : List Stat = c.stats-item.result in
    let lt : i < length stripes = omega (arith, c.loop-stats-test.true) in
    let whole : take (i + 1) stripes ≡ take i stripes ++ d ∷ [] = take_more stripes i d lt ∙ ap (λ x. take i stripes ++ x ∷ []) (sym c.stats-item.is) in
    let more = c.in_ok-add_stripe.ensures (before ++ take i stripes) (c.loop-stats.invariant before h) in
    subst (AreCounts c.add_stripe.new.counts.items) (append_assoc before (take i stripes) (c.as_slice.result.now ∷ []) ∙ ap (λ x. before ++ (take i stripes ++ x ∷ [])) c.as_slice.ensures ∙ ap (λ x. before ++ x) (sym whole)) more

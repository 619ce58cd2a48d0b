use Rattle.std.proofs.Common.{ℕ, ◌<◌, ◌≤◌}
use Rattle.orc_check.specs.Needed.{MayBeWhole}
use Rattle.orc_check.proofs.needed.need_groups.Given as goal

-- none of the columns so far
abbrev pub invariant-loop-column : goal.invariant-loop-column
invariant-loop-column l = (c : ℕ) → l.first ≤ c → c < l.column → MayBeWhole l.stripe.view.now c → ⊥

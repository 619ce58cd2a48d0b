use Rattle.std.proofs.Common.{◌≡◌, ◌≤◌, length, drop}
use Rattle.orc_stats.specs.Statistics.{text_cmp}
use Rattle.orc_stats.proofs.text_order.compare.Given as goal

abbrev pub invariant-loop-place : goal.invariant-loop-place
invariant-loop-place l =
    (l.few ≤ length l.x) × (l.few ≤ length l.y) × (l.place ≤ l.few) × (text_cmp (drop l.place l.x) (drop l.place l.y) ≡ text_cmp l.x l.y)

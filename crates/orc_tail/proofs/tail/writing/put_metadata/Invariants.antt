use Rattle.std.proofs.Common.{◌≡◌, ◌++◌, drop}
use Rattle.std.specs.List.{AllByRecursion}
use Rattle.orc_wire.specs.Fields.{sized}
use Rattle.orc_wire.specs.CanonicalText.{KeepsFront, list_text}
use Rattle.orc_wire.specs.CanonicalMessages.{stripe_stats_text}
use Rattle.orc_tail.specs.Statistics.{stripe_message}
use Rattle.orc_tail.proofs.tail.writing.put_metadata.Given as goal

-- what is written and what is left to write are the whole
abbrev pub invariant-loop-one : goal.invariant-loop-one
invariant-loop-one l = record {
  front : KeepsFront l.initial.out.items l.out.items;
  whole : l.out.items ++ list_text (λ xs. sized (stripe_stats_text.text (stripe_message xs))) 1 (drop l.one-index l.stats) ≡ l.initial.out.items ++ list_text (λ xs. sized (stripe_stats_text.text (stripe_message xs))) 1 l.stats;
  bounded : AllByRecursion (λ xs. stripe_stats_text.bounded (stripe_message xs)) (drop l.one-index l.stats) → AllByRecursion (λ xs. stripe_stats_text.bounded (stripe_message xs)) l.stats;
}

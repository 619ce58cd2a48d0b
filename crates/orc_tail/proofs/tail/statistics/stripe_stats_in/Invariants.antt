use Rattle.std.proofs.Common.{◌≡◌, ◌++◌, drop, true}
use Rattle.std.specs.List.{list_all}
use Rattle.orc_values.specs.Shapes.{width}
use Rattle.orc_stats.specs.Messages.{in_limits}
use Rattle.orc_tail.specs.Statistics.{stripe_stats_read, have_few}
use Rattle.orc_tail.proofs.tail.statistics.stripe_stats_in.Given as goal

-- what is read and what is left to read are all of it, and those that are left decide
abbrev pub invariant-loop-message : goal.invariant-loop-message
invariant-loop-message l = record {
  whole : l.stats.items ++ stripe_stats_read l.schema (drop l.message-index l.messages) ≡ stripe_stats_read l.schema l.messages;
  decides : list_all (list_all in_limits) (stripe_stats_read l.schema (drop l.message-index l.messages)) ≡ list_all (list_all in_limits) (stripe_stats_read l.schema l.messages);
  few : have_few (width l.schema) (drop l.message-index l.messages) ≡ true;
}

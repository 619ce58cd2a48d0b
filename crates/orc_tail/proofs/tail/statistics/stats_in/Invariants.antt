use Rattle.std.proofs.Common.{◌≡◌, ◌++◌, drop}
use Rattle.std.specs.List.{list_all}
use Rattle.orc_stats.specs.Messages.{in_limits}
use Rattle.orc_tail.specs.Statistics.{stats_read}
use Rattle.orc_tail.proofs.tail.statistics.stats_in.Given as goal

-- what is read and what is left to read are all of it, and those that are left decide
abbrev pub invariant-loop-column : goal.invariant-loop-column
invariant-loop-column l = record {
  whole : l.stats.items ++ stats_read l.schema l.column (drop l.column l.messages) ≡ stats_read l.schema 0 l.messages;
  decides : list_all in_limits (stats_read l.schema l.column (drop l.column l.messages)) ≡ list_all in_limits (stats_read l.schema 0 l.messages);
}

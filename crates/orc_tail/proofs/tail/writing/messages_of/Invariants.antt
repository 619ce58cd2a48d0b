use Rattle.std.proofs.Common.{◌≡◌, ◌++◌, drop, map}
use Rattle.orc_stats.specs.Messages.{message_of}
use Rattle.orc_tail.proofs.tail.writing.messages_of.Given as goal

-- the messages made and those left to make are all of them
abbrev pub invariant-loop-stat : goal.invariant-loop-stat
invariant-loop-stat l = l.messages.items ++ map message_of (drop l.stat-index l.stats) ≡ map message_of l.stats

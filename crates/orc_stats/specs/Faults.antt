-- Why a statistic can't be made (the limits are this project's).
use Rattle.std.specs.Prelude.{◌≡◌, ◌^◌, ◌<◌, ◌≤◌, true, false, List, sum_by}
use Rattle.orc_wire.specs.declared.column_stats.ColumnStats.{ColumnStats}
use Rattle.orc_stats.specs.declared.fault.StatFault.{StatFault}
use Rattle.orc_stats.specs.declared.fault.StatFault.TheVariants.{CountTooLarge, OutOfMemory}
use Rattle.orc_stats.specs.declared.kind.StatKind.{StatKind}
use Rattle.orc_stats.specs.declared.kind.StatKind.TheVariants as kind
use Rattle.orc_stats.specs.declared.stat.Stat.{Stat}
use Rattle.orc_stats.specs.Messages.{stat_read, in_limits}

-- for several statistics: they have too many values in all; or there was no memory, if any is taken
abbrev pub JoinFault : Type 0 → List Stat → StatFault → Type 0
JoinFault memory ss CountTooLarge = 2 ^ 62 < sum_by (λ s. s.count) ss
JoinFault memory ss OutOfMemory = memory × (sum_by (λ s. s.count) ss ≤ 2 ^ 62)

-- for a message of a kind of column: it counts too much; or there was no memory, for texts
abbrev pub MessageFault : StatKind → ColumnStats → StatFault → Type 0
MessageFault k m CountTooLarge = in_limits (stat_read k m) ≡ false
MessageFault k m OutOfMemory = (k ≡ kind.Texts) × (in_limits (stat_read k m) ≡ true)

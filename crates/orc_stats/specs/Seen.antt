-- What was seen of a part of a statistic, and what two such parts give together.
use Rattle.std.specs.Prelude.{Option, Some, None}
use Rattle.std.specs.Borrow.{Bor}
use Rattle.orc_stats.specs.declared.seen.Seen.{Seen}
use Rattle.orc_stats.specs.declared.seen.Seen.TheVariants.{Nothing, Known, Unknown}

-- two parts together: with no value seen the other part stays, and what is unknown stays unknown
abbrev pub both : {A : Type 0} → (A → A → A) → Seen A → Seen A → Seen A
both op Nothing q = q
both op (Known x) Nothing = Known x
both op (Known x) (Known y) = Known (op x y)
both op _ _ = Unknown

-- a part of a statistic with values: known if the statistic knows it
abbrev pub seen_of : {A : Type 0} → Option A → Seen A
seen_of None = Unknown
seen_of (Some x) = Known x

-- the part, if it is known
abbrev pub known_of : {A : Type 0} → Seen A → Option A
known_of Nothing = None
known_of Unknown = None
known_of (Known x) = Some x

-- the part that one value gives, if there is one
abbrev pub value_seen : {A : Type 0} → Option A → Seen A
value_seen None = Nothing
value_seen (Some x) = Known x

-- a borrowed part, as it is now
abbrev pub seen_now : {A : Type 0} → Seen (Bor A) → Seen A
seen_now Nothing = Nothing
seen_now Unknown = Unknown
seen_now (Known r) = Known r.now

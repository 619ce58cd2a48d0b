-- The columns whose groups are needed, of a type and of its parts.
use Rattle.std.proofs.Common.{ℕ, ◌<◌, ◌≤◌, arith}
use Rattle.orc_stripe_reader.specs.Opened.{Opened}
use Rattle.orc_check.specs.Needed.{MayBeWhole, NeedGroups}

-- what a part needs, the whole needs
pub need_within : (view : Opened) (c d e f : ℕ) → c ≤ d → e ≤ f → NeedGroups view d e → NeedGroups view c f
need_within view c d e f before behind h = (h.0, omega (arith, before, h.1), omega (arith, behind, h.2), h.3)

pub need_here : (view : Opened) (c end : ℕ) → c < end → MayBeWhole view c → NeedGroups view c end
need_here view c end lt may = (c, omega arith, lt, may)

-- The groups of rows that the bold rule keeps, by a column's row index (ORC specification, "Row Group Index").
use Rattle.std.specs.Prelude.{◌≡◌, ℕ, suc, true, Bool, if◌then◌else◌, List, [], ◌∷◌, IfSome}
use Rattle.std.specs.Option.{option_map}
use Rattle.orc_wire.specs.declared.row_index.RowIndexEntry.{RowIndexEntry}
use Rattle.orc_stats.specs.declared.kind.StatKind.{StatKind}
use Rattle.orc_stats.specs.Messages.{stat_read, in_limits}
use Rattle.orc_skipping.specs.Predicates.{Predicate}
use Rattle.orc_skipping.specs.Rules.{bold}
use Rattle.orc_skipping.specs.declared.keeping_groups.GroupPlace.{GroupPlace}

-- an entry counts no more than a statistic may
abbrev pub CountsFew : StatKind → RowIndexEntry → Type 0
CountsFew k entry = IfSome entry.statistics (λ message. in_limits (stat_read k message) ≡ true)

-- the rule keeps the group of an entry, by this entry alone
abbrev pub keeps_entry : StatKind → Predicate → RowIndexEntry → Bool
keeps_entry k p entry = bold (λ _. option_map (stat_read k) entry.statistics) p

-- of a stripe's entries from group g on, the groups that the rule keeps
abbrev pub groups_kept : StatKind → Predicate → ℕ → ℕ → List RowIndexEntry → List GroupPlace
groups_kept k p stripe g [] = []
groups_kept k p stripe g (e ∷ es) =
    if keeps_entry k p e then record { stripe = stripe; group = g } ∷ groups_kept k p stripe (suc g) es
    else groups_kept k p stripe (suc g) es

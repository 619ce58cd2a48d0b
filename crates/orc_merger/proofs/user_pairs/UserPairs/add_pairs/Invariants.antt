use Rattle.std.proofs.Common.{◌≡◌, List, ◌++◌}
use Rattle.orc_wire.specs.declared.footer.UserMetadataItem.{UserMetadataItem}
use Rattle.orc_merger.specs.Gathering.{HasPairs}
use Rattle.orc_merger.proofs.user_pairs.UserPairs.add_pairs.Given as goal

abbrev pub invariant-loop-pair : goal.invariant-loop-pair
invariant-loop-pair l = record {
  whole : l.yielded ++ l.pair-iterator.rest.items ≡ l.fn.more.items;
  pairs : (before : List UserMetadataItem) → HasPairs before l.initial.self → HasPairs (before ++ l.yielded) l.self;
}

use Rattle.std.proofs.Common.{rules}
use Rattle.std.specs.HashMap.{get}
use Rattle.orc_stripe_writer.specs.EntryIndexes.{same_bytes}
use Rattle.orc_stripe_writer.proofs.PlacesLemmas.{places_more, all_places}
use Rattle.orc_stripe_writer.proofs.dictionary.entry_places.Goals as goal

pub loop-place-preserved : goal.loop-place-preserved
loop-place-preserved c =
    places_more (get same_bytes c.loop-place.places) (get same_bytes c.insert.new.self) c.args.entries.now.items c.loop-place.place c.index.result.now (search rules) c.index.ensures c.loop-place.invariant c.in_ok-insert.ensures.updates.0

pub returns : goal.returns
returns c = all_places (get same_bytes c.loop-place.places) c.args.entries.now.items c.loop-place.place (search rules) c.loop-place.invariant

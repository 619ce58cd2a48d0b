use Rattle.std.specs.HashMap.{get}
use Rattle.orc_stripe_writer.specs.EntryIndexes.{same_bytes}
use Rattle.orc_stripe_writer.proofs.PlacesLemmas.{ArePlacesOf}
use Rattle.orc_stripe_writer.proofs.dictionary.entry_places.Given as goal

abbrev pub invariant-loop-place : goal.invariant-loop-place
invariant-loop-place l = ArePlacesOf (get same_bytes l.places) l.entries.items l.place

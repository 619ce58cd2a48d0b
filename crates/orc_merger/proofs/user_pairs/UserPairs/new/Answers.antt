use Rattle.std.proofs.Common.{List, sym, subst, arith}
use Rattle.orc_wire.specs.declared.footer.UserMetadataItem.{UserMetadataItem}
use Rattle.orc_merger.specs.PairPlaces.{ArePairPlaces}
use Rattle.orc_merger.proofs.FoundPairs.{no_places}
use Rattle.orc_merger.proofs.user_pairs.UserPairs.new.Goals as goal

pub returns : goal.returns
returns c = record {
  agree = λ p q has other n. absurd (omega (arith, has.1));
  kept_are = c.new.ensures.items;
  places = subst (λ (xs : List UserMetadataItem). ArePairPlaces xs c.new-2.result) (sym c.new.ensures.items) (no_places c.new-2.result c.new-2.ensures.empty);
}

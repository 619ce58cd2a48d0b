use Rattle.std.proofs.Common.{◌≡◌, length, sym, ◌∙◌, subst, arith}
use Rattle.orc_merger.specs.PairPlaces.{ArePairPlaces}
use Rattle.orc_merger.proofs.FoundPairs.{places_push}
use Rattle.orc_merger.proofs.user_pairs.UserPairs.push.Goals as goal

pub returns-clause-places : goal.returns-clause-places
returns-clause-places c = λ are.
    let old = c.args.self.now in
    let place : c.len-place.result ≡ length old.pairs.items = omega (arith, c.len-place.ensures, old.pairs.ok.0) in
    subst (λ xs. ArePairPlaces xs c.insert.new.self) (sym c.in_ok-push.ensures.items)
    (places_push old.pairs.items c.args.pair old.places c.insert.new.self c.in_ok-name.name c.len-place.result (c.in_ok-name.ensures.items ∙ c.as_slice.ensures) place c.in_ok-insert.ensures.entries are)

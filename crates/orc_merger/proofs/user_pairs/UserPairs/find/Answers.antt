use Rattle.std.proofs.Common.{sym}
use Rattle.orc_merger.proofs.FoundPairs.{named_there, some_there, none_named}
use Rattle.orc_merger.proofs.user_pairs.UserPairs.find.Goals as goal

pub returns-in-Some-clause-found : goal.returns-in-Some-clause-found
returns-in-Some-clause-found c = λ are.
    let pairs = c.args.self.now.pairs.items in
    named_there pairs c.args.name.now c.in-Some.place.now _ (rw c.as_slice.ensures.value at c.get-in-Some.ensures.lookup) (are.found c.args.name.now c.in-Some.place.now (sym c.in-Some.ensures.value))

pub returns-in-Some-clause-none : goal.returns-in-Some-clause-none
returns-in-Some-clause-none c = λ are.
    let pairs = c.args.self.now.pairs.items in
    some_there pairs c.in-Some.place.now _ _ (rw c.as_slice.ensures.value at c.get-in-Some.ensures.lookup) (are.found c.args.name.now c.in-Some.place.now (sym c.in-Some.ensures.value)).0

pub returns-in-None-clause-none : goal.returns-in-None-clause-none
returns-in-None-clause-none c = λ are. none_named c.args.self.now.pairs.items c.args.self.now.places c.args.name.now are c.in-None.ensures.value

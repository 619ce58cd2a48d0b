use Rattle.std.proofs.lemmas.Result.{IfOk-weaker, MatchResult-weaker}
use Rattle.orc_tail.specs.Caps.{no_cap}
use Rattle.orc_tail.proofs.CapLemmas.{told_few, told_tail, told_fault}
use Rattle.orc_tail.proofs.tail.reading.read_tail.Goals as goal

pub returns-clause-found : goal.returns-clause-found
returns-clause-found g c =
    let told = g.S.Source.told c.args.source.now in
    IfOk-weaker c.read_capped_tail.result _ _ (λ tail is. told_tail told no_cap tail is) c.read_capped_tail.ensures.found

pub returns-clause-fault : goal.returns-clause-fault
returns-clause-fault g c =
    let told = g.S.Source.told c.args.source.now in
    let few = told_few told _ (g.met.S.Source.told_size c.args.source.now) c.read_capped_tail.ensures.sized in
    MatchResult-weaker c.read_capped_tail.result c.read_capped_tail.ensures.fault (λ tail is. tt) (λ fault is. told_fault told fault few is)

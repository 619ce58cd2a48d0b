use Rattle.std.proofs.lemmas.Result.{IfOk-weaker, MatchResult-weaker}
use Rattle.orc_tail.specs.Caps.{no_cap}
use Rattle.orc_tail.proofs.CapLemmas.{told_few, told_tail, told_fault, told_only}
use Rattle.orc_file_reader.proofs.file.OrcFile.open.Goals as goal

pub returns-clause-found : goal.returns-clause-found
returns-clause-found g c =
    IfOk-weaker c.open_capped.result _ _ (λ file is. told_tail (g.S.Source.told c.args.source) no_cap file.tail is) c.open_capped.ensures.found

pub returns-clause-only : goal.returns-clause-only
returns-clause-only g c =
    let told = g.S.Source.told c.args.source in
    told_only told c.open_capped.result _ _ (told_few told _ (g.met.S.Source.told_size c.args.source) c.open_capped.ensures.sized) c.open_capped.ensures.only

pub returns-clause-fault : goal.returns-clause-fault
returns-clause-fault g c =
    let told = g.S.Source.told c.args.source in
    let few = told_few told _ (g.met.S.Source.told_size c.args.source) c.open_capped.ensures.sized in
    MatchResult-weaker c.open_capped.result c.open_capped.ensures.fault (λ file is. tt) (λ refused is. told_fault told refused.0 few is)

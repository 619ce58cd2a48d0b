use Rattle.orc_wire.proofs.SizedLemmas.{keeps_less}
use Rattle.orc_wire.proofs.canonical.end_some.Goals as goal

pub returns-else-len-place-clause-front : goal.returns-else-len-place-clause-front
returns-else-len-place-clause-front c =
    keeps_less c.args.out.now.items c.end_sized.new.out.items c.args.start c.args.place c.requires.ordered c.end_sized.ensures.front

use Rattle.std.proofs.Common.{refl}
use Rattle.orc_wire.proofs.SizedLemmas.{keeps_taken}
use Rattle.orc_wire.proofs.canonical.end_long.Goals as goal

pub returns-in_err-content-clause-front : goal.returns-in_err-content-clause-front
returns-in_err-content-clause-front c = keeps_taken c.args.out.now.items c.args.out.now.items c.args.place refl

use Rattle.orc_cli_rows.proofs.PieceLemmas.{given_new}
use Rattle.orc_cli_rows.proofs.pieces.Pieces.new.Goals as goal

pub returns : goal.returns
returns g c = given_new c.args.out.ghost_name (g.W.Write.contents c.args.out.now) c.new.result.items c.new.ensures

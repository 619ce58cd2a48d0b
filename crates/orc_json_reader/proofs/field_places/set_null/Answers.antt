use Rattle.std.proofs.Common.{◌≡◌, ℕ, None, add-one, sym, ap, ◌∙◌, arith}
use Rattle.std.proofs.Math.ListN.{length-set}
use Rattle.orc_json_reader.specs.Frontier.{read_up_to}
use Rattle.orc_json_reader.proofs.FrontierLemmas.{read_up_to-next, read_up_to-null}
use Rattle.orc_json_reader.proofs.field_places.set_null.Goals as goal

pub loop-place-preserved : goal.loop-place-preserved
loop-place-preserved c =
    let i = c.loop-place.place in
    let rows = c.loop-place.rows.items in (
      rw add-one (read_up_to-next i rows None ∙ read_up_to-null i rows ∙ c.loop-place.invariant.0),
      length-set rows i None ∙ c.loop-place.invariant.1,
    )

pub returns-clause-rows : goal.returns-clause-rows
returns-clause-rows c =
    let ended : c.loop-place.place ≡ c.args.to = omega (arith, c.loop-place.auto.place-end c.requires.order) in
    ap (λ (n : ℕ). read_up_to n c.loop-place.rows.items) (sym ended) ∙ c.loop-place.invariant.0

use Rattle.std.proofs.Common.{List, Option, add-one, ap, ◌∙◌}
use Rattle.std.proofs.Math.ListN.{set}
use Rattle.orc_values.specs.declared.value.Value.{Value}
use Rattle.orc_json_reader.proofs.FrontierLemmas.{read_up_to-next, read_up_to-before}
use Rattle.orc_json_reader.proofs.field_places.pass_to.Goals as goal

pub returns-then-place-next-clause-rows : goal.returns-then-place-next-clause-rows
returns-then-place-next-clause-rows c = λ row. read_up_to-before c.args.next c.args.place c.args.rows.now.items row c.if-place-next.true

pub returns-clause-rows : goal.returns-clause-rows
returns-clause-rows c = λ row.
    rw add-one (read_up_to-next c.args.place c.set_null.new.rows.items row ∙ ap (λ (xs : List (Option Value)). set xs c.args.place row) c.set_null.ensures.rows)

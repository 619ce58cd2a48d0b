use Rattle.std.proofs.Common.{add-one}
use Rattle.orc_json_reader.proofs.FrontierLemmas.{read_up_to-next}
use Rattle.orc_json_reader.proofs.field_places.come_to.Goals as goal

pub returns-then-is_named-clause-rows : goal.returns-then-is_named-clause-rows
returns-then-is_named-clause-rows c = λ row. rw add-one (read_up_to-next c.args.next.now c.args.rows.now.items row)

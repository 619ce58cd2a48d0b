use Rattle.std.proofs.Common.{◌≡◌, length}
use Rattle.orc_json_reader.specs.Frontier.{read_up_to}
use Rattle.orc_json_reader.proofs.field_places.set_null.Given as goal

abbrev pub invariant-loop-place : goal.invariant-loop-place
invariant-loop-place l = (read_up_to l.place l.rows.items ≡ read_up_to l.from l.initial.rows.items) × (length l.rows.items ≡ length l.initial.rows.items)

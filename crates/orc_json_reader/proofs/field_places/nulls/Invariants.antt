use Rattle.std.proofs.Common.{◌≡◌, replicate, None}
use Rattle.orc_json_reader.proofs.field_places.nulls.Given as goal

abbrev pub invariant-loop : goal.invariant-loop
invariant-loop l = l.rows.items ≡ replicate l.counter None

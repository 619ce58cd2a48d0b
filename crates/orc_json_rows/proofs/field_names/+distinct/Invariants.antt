use Rattle.std.proofs.Common.{◌≡◌, drop}
use Rattle.orc_values.specs.Views.{fields}
use Rattle.orc_json_rows.specs.FieldNames as spec
use Rattle.orc_json_rows.proofs.field_names.+distinct.Given as goal

abbrev pub invariant-are_distinct-loop-field : goal.invariant-are_distinct-loop-field
invariant-are_distinct-loop-field l = spec.are_distinct (fields (drop l.field-index l.fields)) ≡ spec.are_distinct (fields l.fields)

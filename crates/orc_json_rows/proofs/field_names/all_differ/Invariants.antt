use Rattle.std.proofs.Common.{◌≡◌, drop}
use Rattle.serde_json.specs.View.{members_view}
use Rattle.orc_values.specs.Shapes.{names_of}
use Rattle.orc_values.specs.Views.{fields}
use Rattle.orc_json_rows.specs.FieldNames as spec
use Rattle.orc_json_rows.proofs.Names.{differ_after}
use Rattle.orc_json_rows.proofs.field_names.all_differ.Given as goal

abbrev pub invariant-loop-field : goal.invariant-loop-field
invariant-loop-field l = differ_after (members_view l.seen.entries) (names_of (fields (drop l.field-index l.fields))) ≡ spec.all_differ (names_of (fields l.fields))

use Rattle.std.proofs.Common.{ap, ◌∙◌}
use Rattle.std.specs.Prelude.{is_some}
use Rattle.serde_json.specs.View.{view as json_view}
use Rattle.serde_json.proofs.Views.{view-lookup}
use Rattle.orc_json_rows.proofs.Names.{some_map}
use Rattle.orc_json_rows.proofs.field_names.has_key.Goals as goal

pub returns : goal.returns
returns c = c.contains_key.ensures ∙ (some_map json_view _ ∙ ap is_some (view-lookup c.args.key.now c.args.members.now.entries))

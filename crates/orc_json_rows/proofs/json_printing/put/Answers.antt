use Rattle.std.proofs.Common.{ap, ◌∙◌}
use Rattle.serde_json.specs.Data.{put}
use Rattle.serde_json.specs.View.{view as json_view, members_view}
use Rattle.serde_json.proofs.Views.{members_view-insert_entry}
use Rattle.orc_json_rows.proofs.json_printing.put.Goals as goal

pub returns : goal.returns
returns c = ap members_view c.in_ok-insert.ensures.entries ∙ members_view-insert_entry c.args.object.now.entries c.in_ok-key.key c.args.json ∙ ap (λ n. put n (json_view c.args.json) (members_view c.args.object.now.entries)) c.in_ok-key.ensures.ok

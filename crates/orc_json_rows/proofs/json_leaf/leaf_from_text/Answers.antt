use Rattle.std.specs.String.{string_bytes}
use Rattle.std.proofs.lemmas.Str.{is_utf8-from_IsUtf8}
use Rattle.orc_json_rows.proofs.JsonLeaves.{text_spells}
use Rattle.orc_values.proofs.Views.{view-Text}
use Rattle.orc_json_rows.proofs.json_leaf.leaf_from_text.Goals as goal

pub returns-in_ok-from_str-in-String-clause-found : goal.returns-in_ok-from_str-in-String-clause-found
returns-in_ok-from_str-in-String-clause-found c =
    let utf8 = is_utf8-from_IsUtf8 c.args.text.now c.utf8.text in
    rw view-Text (text_spells c.args.kind c.args.text.now (string_bytes c.in_ok-from_str-in-String.field-0) c.in-String.is c.in_ok-from_str-in-String.ensures.ok utf8)

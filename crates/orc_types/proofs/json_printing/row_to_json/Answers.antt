use Rattle.std.proofs.Common.{◌≡◌, true, sym, ◌∙◌}
use Rattle.orc_values.specs.Views.{view}
use Rattle.orc_json_rows.specs.FieldNames.{is_distinct}
use Rattle.orc_json_rows.proofs.JsonBack.{reads_back}
use Rattle.orc_types.proofs.json_printing.row_to_json.Goals as goal

pub returns-clause-again : goal.returns-clause-again
returns-clause-again c =
    let distinct : is_distinct c.args.schema.now ≡ true = sym c.has_distinct_names.ensures ∙ c.if-not-has_distinct_names.false in
    rw (c.in_ok-json_of.ensures, c.tree.ensures.same) (reads_back c.args.schema.now (view c.args.row.now) distinct c.requires)

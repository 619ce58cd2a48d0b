-- How rows are printed (own).
use Rattle.std.specs.Prelude.{◌≡◌, true, false}
use Rattle.orc_values.specs.Shapes.{Shape}
use Rattle.orc_json_rows.specs.FieldNames.{is_distinct}
use Rattle.orc_json_printer.specs.LaidOut.{IsLaidOut}
use Rattle.orc_json_printer.specs.Layouts.{text_by}
use Rattle.orc_json_printer.specs.Texts.{Prints}
use Rattle.orc_cli_rows.specs.declared.plan.Plan.{Plan}
use Rattle.orc_cli_rows.specs.declared.plan.Plan.TheVariants as plan

-- rows of this type are printed so: by a layout of the type, or not at all, because a struct names a field twice
abbrev pub IsPlanOf : Shape → Plan → Type 0
IsPlanOf s (plan.Straight layout) =
    (is_distinct s ≡ true) × Prints (text_by layout.now) s × IsLaidOut s layout.now
IsPlanOf s plan.Refused = is_distinct s ≡ false

use Rattle.std.proofs.Common.{◌≡◌, ◌∙◌, true, ap, ap₂, codes}
use Rattle.std.proofs.lemmas.Result.{IfOk-at_ok, IfOk-weaker}
use Rattle.clap.specs.Simple.{App, app_of, app_of_fields, new_app, with_subcommand}
use Rattle.orc_cli_parser.specs.Commands.{Choices}
use Rattle.orc_cli_parser.proofs.commands.orcm.Goals as goal

abbrev needing_a_command : App → App
needing_a_command a = record a { top = record a.top { subcommand_required = true } }

abbrev with_version : App → App
with_version a = record a { top = record a.top { has_version = true } }

pub returns-clause-table : goal.returns-clause-table
returns-clause-table c =
    let new : app_of c.in_ok-bin_name.field-0 ≡ new_app (codes "orcm") = ap app_of_fields c.in_ok-bin_name.ensures.0 ∙ c.new.ensures.app in
    let versioned : app_of c.version.result ≡ with_version (new_app (codes "orcm")) = ap app_of_fields c.version.ensures ∙ ap with_version new in
    let told : app_of c.after_help.result ≡ with_version (new_app (codes "orcm")) = ap app_of_fields c.after_help.ensures ∙ (ap app_of_fields c.about.ensures ∙ versioned) in
    let none : app_of c.subcommand_required-program.result ≡ needing_a_command (with_version (new_app (codes "orcm"))) =
    ap app_of_fields c.subcommand_required-program.ensures ∙ ap needing_a_command told in
    let ints = c.in_ok-program.ensures.added in
    let ints_line = IfOk-at_ok _ ints.1 c.ints_command.ensures.shape in
    let one = ints.2 (IfOk-at_ok _ ints.1 c.ints_command.ensures.local) ∙ ap₂ with_subcommand none ints_line.4 in
    let rows = c.in_ok-program-2.ensures.added in
    let two = rows.2 (IfOk-at_ok _ rows.1 c.rows_command.ensures.local) ∙ ap₂ with_subcommand one (IfOk-at_ok _ rows.1 c.rows_command.ensures.shape) in
    let show = c.in_ok-program-3.ensures.added in
    let three = show.2 (IfOk-at_ok _ show.1 c.show_command.ensures.local) ∙ ap₂ with_subcommand two (IfOk-at_ok _ show.1 c.show_command.ensures.shape) in
    let check = c.in_ok-program-4.ensures.added in
    let four = check.2 (IfOk-at_ok _ check.1 c.check_command.ensures.local) ∙ ap₂ with_subcommand three (IfOk-at_ok _ check.1 c.check_command.ensures.shape) in
    let write = c.in_ok-program-5.ensures.added in
    let write_line = IfOk-at_ok _ write.1 c.write_command.ensures.shape in
    let five = write.2 (IfOk-at_ok _ write.1 c.write_command.ensures.local) ∙ ap₂ with_subcommand four write_line.2 in
    let choices : Choices = record {
      ints_versions = ints_line.0;
      ints_signs = ints_line.1;
      write_versions = write_line.0;
      of_ints = ints_line.2;
      of_sign = ints_line.3;
      of_write = write_line.1;
    } in
    IfOk-weaker c.with_command-6.result _ _ (λ program merge.
    (choices, merge.2 (IfOk-at_ok _ merge.1 c.merge_command.ensures.local) ∙ ap₂ with_subcommand five (IfOk-at_ok _ merge.1 c.merge_command.ensures.shape))) c.with_command-6.ensures.added

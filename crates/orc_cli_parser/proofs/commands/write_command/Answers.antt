use Rattle.std.proofs.Common.{◌≡◌, ◌∙◌, Bool, false, ap, ap₂, codes}
use Rattle.clap.specs.Simple.{App, app_of, app_of_fields, new_app, with_rule}
use Rattle.clap.specs.declared.builder.command.Command.{Command}
use Rattle.clap.specs.declared.builder.command.Command.TheOpen.{Command-F}
use Rattle.clap.specs.declared.builder.command.Command.TheViews.{out-Command}
use Rattle.orc_cli_parser.proofs.commands.write_command.Goals as goal
use Rattle.std.proofs.lemmas.Bool.{or_from}

pub returns-clause-shape : goal.returns-clause-shape
returns-clause-shape c =
    let versions = c.version_option.ensures.rule in
    let none : app_of c.after_help.result ≡ new_app (codes "write") =
    ap app_of_fields c.after_help.ensures ∙ (ap app_of_fields c.about.ensures ∙ c.new.ensures.app) in
    let one = c.in_ok-arg.ensures.shape c.schema_option.ensures.local ∙ ap₂ with_rule none c.schema_option.ensures.rule in
    let two = c.in_ok-arg-2.ensures.shape c.version_option.ensures.local ∙ ap₂ with_rule one versions.2 in
    let three = c.in_ok-arg-3.ensures.shape c.stride_option.ensures.local ∙ ap₂ with_rule two c.stride_option.ensures.rule in
    let four = c.in_ok-arg-4.ensures.shape c.stripe_rows_option.ensures.local ∙ ap₂ with_rule three c.stripe_rows_option.ensures.rule in
    let five = c.in_ok-arg-5.ensures.shape c.progress_flag.ensures.local ∙ ap₂ with_rule four c.progress_flag.ensures.rule in
    let six = c.in_ok-arg-6.ensures.shape c.needed_argument.ensures.local ∙ ap₂ with_rule five c.needed_argument.ensures.rule in
    let seven = c.in_ok-arg-7.ensures.shape c.needed_argument-2.ensures.local ∙ ap₂ with_rule six c.needed_argument-2.ensures.rule in
    (versions.0, versions.1, ap (λ (a : App). a.top) seven)

abbrev has_globals : Command-F Command → Bool
has_globals fields = fields.has_globals

pub returns-clause-local : goal.returns-clause-local
returns-clause-local c =
    let none : (out-Command c.after_help.result).has_globals ≡ false =
    ap has_globals c.after_help.ensures ∙ (ap has_globals c.about.ensures ∙ c.new.ensures.local) in
    let one = c.in_ok-arg.ensures.globals ∙ or_from _ _ none c.schema_option.ensures.local in
    let two = c.in_ok-arg-2.ensures.globals ∙ or_from _ _ one c.version_option.ensures.local in
    let three = c.in_ok-arg-3.ensures.globals ∙ or_from _ _ two c.stride_option.ensures.local in
    let four = c.in_ok-arg-4.ensures.globals ∙ or_from _ _ three c.stripe_rows_option.ensures.local in
    let five = c.in_ok-arg-5.ensures.globals ∙ or_from _ _ four c.progress_flag.ensures.local in
    let six = c.in_ok-arg-6.ensures.globals ∙ or_from _ _ five c.needed_argument.ensures.local in
    c.in_ok-arg-7.ensures.globals ∙ or_from _ _ six c.needed_argument-2.ensures.local

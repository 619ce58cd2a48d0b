use Rattle.std.proofs.Common.{◌≡◌, ◌∙◌, true, false, Some, sym, ap, refl}
use Rattle.clap.specs.declared.parser.matches.ValueSource.TheVariants.{CommandLine, DefaultValue}
use Rattle.clap.specs.Matches.{found_of}
use Rattle.orc_cli_args.proofs.RequestLemmas.{source-rows}
use Rattle.orc_cli_args.proofs.request.is_given.Goals as goal

pub returns-in-Some-CommandLine : goal.returns-in-Some-CommandLine
returns-in-Some-CommandLine c =
    let same = c.value_source.ensures ∙ source-rows (found_of c.args.found.now) c.args.flag.now in
    let given = sym same ∙ (c.in-Some-CommandLine.is ∙ ap Some c.in-Some-CommandLine.field-0-is) in ((λ yes. given), (λ is. refl))

pub returns-in-Some-DefaultValue : goal.returns-in-Some-DefaultValue
returns-in-Some-DefaultValue c =
    let same = c.value_source.ensures ∙ source-rows (found_of c.args.found.now) c.args.flag.now in
    let is = c.in-Some-DefaultValue.is ∙ ap Some c.in-Some-DefaultValue.field-0-is in
    ((λ yes. let e : false ≡ true = yes in cc), (λ given. let got : Some DefaultValue ≡ Some CommandLine = sym is ∙ (same ∙ given) in cc))

pub returns-in-None : goal.returns-in-None
returns-in-None c =
    let same = c.value_source.ensures ∙ source-rows (found_of c.args.found.now) c.args.flag.now in
    let is = c.in-None.is in
    ((λ yes. let e : false ≡ true = yes in cc), (λ given. let got : c.value_source.result ≡ Some CommandLine = same ∙ given in cc))

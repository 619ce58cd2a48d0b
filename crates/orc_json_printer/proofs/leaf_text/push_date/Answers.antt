use Rattle.std.proofs.Common.{◌≡◌, Bool, true, sym, ap, ◌∙◌, arith, rules, FitsSigned, w32}
use Rattle.std.specs.Prelude.{if◌then◌else◌}
use Rattle.std.proofs.lemmas.Int.{ints, to_z-of_z}
use Rattle.jiff.specs.Words.{epoch_day}
use Rattle.json.specs.Print.{quoted}
use Rattle.serde_json.specs.Data.{string, number}
use Rattle.serde_json.specs.Find.{of_integer}
use Rattle.serde_json.specs.Written.{compact_text}
use Rattle.orc_json_rows.specs.Days.{has_text, day_text}
use Rattle.orc_json_rows.proofs.Days.{day_text-date}
use Rattle.orc_json_printer.proofs.Outputs.{puts_last_is}
use Rattle.orc_json_printer.proofs.leaf_text.push_date.Goals as goal

pub returns-clause-found : goal.returns-clause-found
returns-clause-found g c =
    let day : epoch_day c.in-Ok.date ≡ c.args.day = c.in-Ok.ensures.value ∙ omega (arith, ints) in
    let fits : FitsSigned w32 c.args.day = search rules in
    let tested = simp to_z-of_z at c.has_text.ensures in
    let has : has_text c.args.day ≡ true = cc (c.if-not-has_text.false) in
    let text = c.as_str.ensures.value ∙ c.date_text-text.ensures ∙ day_text-date c.in-Ok.date (ap has_text day ∙ has) ∙ ap day_text day in
    puts_last_is g.T.TextOutput.holds c.push_quoted.result c.args.out.now c.push_quoted.new.out _ _
    (ap quoted text ∙ ap (λ (b : Bool). compact_text (if b then string (day_text c.args.day) else number (of_integer c.args.day))) (sym has)) c.push_quoted.ensures.found

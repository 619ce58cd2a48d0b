use Rattle.std.proofs.Common.{◌≡◌, true, ap, ◌∙◌, arith}
use Rattle.std.proofs.lemmas.Result.{IfOk-weaker}
use Rattle.std.proofs.lemmas.Int.{ints}
use Rattle.jiff.specs.Words.{epoch_day, date_text}
use Rattle.orc_json_rows.specs.Days.{has_text, day_text}
use Rattle.orc_json_rows.proofs.Days.{day_text-date}
use Rattle.orc_json_rows.proofs.day_text.day_text.Goals as goal

pub returns : goal.returns
returns c =
    let day : epoch_day c.in-Ok.plain ≡ c.args.day = c.in-Ok.ensures.value ∙ omega (arith, ints) in
    let known : has_text (epoch_day c.in-Ok.plain) ≡ true = ap has_text day ∙ c.requires in
    record { found = IfOk-weaker c.to_string.result _ _ (λ s e. e ∙ ap date_text c.from_plain.ensures ∙ day_text-date c.in-Ok.plain known ∙ ap day_text day) c.to_string.ensures.ok }

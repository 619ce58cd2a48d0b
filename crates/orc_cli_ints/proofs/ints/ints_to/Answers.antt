use Rattle.std.proofs.Common.{◌≡◌, List, ℕ, ℤ, refl, ap, subst, ◌∙◌, Result, Ok, Err, IfErr, inr}
use Rattle.std.proofs.lemmas.Result.{err_from_is_err_and, IfErr-weaker}
use Rattle.orc_rle.specs.declared.sign.Rle.{Rle}
use Rattle.orc_rle.specs.declared.sign.Sign.{Sign}
use Rattle.orc_cli_ints.specs.Ints.{number_line, DigitsSpellInts, RefusesInts}
use Rattle.orc_cli_output.specs.Output.{AppendsPart, write_failed}
use Rattle.orc_cli_output.specs.declared.fault.CliFault.{CliFault}
use Rattle.orc_cli_output.proofs.OutputLemmas.{outside_from}
use Rattle.orc_cli_ints.proofs.IntsLemmas.{digits_want, output_want}
use Rattle.orc_cli_ints.proofs.ints.ints_to.Goals as goal

output_refused : (r : Result (Unit {0}) CliFault) (rle : Rle) (sign : Sign) (text : List ℕ) (values : List ℤ) → DigitsSpellInts rle sign text values → IfErr r (λ fault. fault ≡ write_failed)
    → IfErr r (RefusesInts rle sign text)
output_refused (Ok _) rle sign text values is failed = tt
output_refused (Err fault) rle sign text values is failed = inr (failed, (values, is))

pub returns-clause-refused : goal.returns-clause-refused
returns-clause-refused g c =
    output_refused c.write_out.result c.args.rle c.args.sign c.args.text.now c.in_ok-values.values.items c.in_ok-values.ensures.found c.write_out.ensures.refused

pub returns-in_err-values-clause-only : goal.returns-in_err-values-clause-only
returns-in_err-values-clause-only g c = λ values spells.
    outside_from c.from_residual.result c.in_err-values.field-0.0 (c.in_err-values.ensures.only values spells) c.from_residual.ensures.1

pub returns-clause-part : goal.returns-clause-part
returns-clause-part g c = λ values spells failed.
    let same = ap number_line (c.deref.ensures.value ∙ c.in_ok-values.ensures.same values spells) in
    let whole : c.as_bytes.result.now ≡ number_line values = c.as_bytes.ensures.value ∙ (c.in_ok-line.ensures ∙ same) in
    let part = rw failed at c.write_out.ensures.part in
    subst (λ (t : List ℕ). AppendsPart (g.W.Write.contents c.args.out.now) (g.W.Write.contents c.write_out.new.out) t) whole part

pub returns-in_err-values-clause-layer : goal.returns-in_err-values-clause-layer
returns-in_err-values-clause-layer g c =
    let p = err_from_is_err_and c.from_residual.result c.from_residual.ensures.1 in
    rw (p.1, p.2) (λ want. digits_want c.args.rle c.args.sign c.args.text.now c.in_err-values.field-0.0 c.in_err-values.ensures.refused want)

pub returns-in_err-line-clause-layer : goal.returns-in_err-line-clause-layer
returns-in_err-line-clause-layer g c =
    let p = err_from_is_err_and c.from_residual-in_err-line.result c.from_residual-in_err-line.ensures.1 in
    rw (p.1, p.2) (λ want. inr refl)

pub returns-clause-layer : goal.returns-clause-layer
returns-clause-layer g c = IfErr-weaker c.write_out.result _ _ (λ fault failed want. output_want fault failed want) c.write_out.ensures.refused

use Rattle.std.proofs.Common.{◌≡◌, ◌++◌, List, ℕ, true, false, refl, ap, ◌∙◌}
use Rattle.std.specs.Prelude.{codes}
use Rattle.std.specs.Str.{is_utf8}
use Rattle.std.proofs.lemmas.Bool.{false_from_ne_true}
use Rattle.std.proofs.lemmas.Result.{IfOk-weaker}
use Rattle.std.proofs.lemmas.Str.{IsUtf8-from_is_utf8, is_utf8-from_IsUtf8}
use Rattle.hex.specs.Hex.{encode_lower}
use Rattle.serde_json.specs.Data.{string}
use Rattle.serde_json.specs.Written.{has_float, compact_text}
use Rattle.orc_cli_show.specs.Show.{name_text}
use Rattle.orc_cli_show.proofs.ShowLemmas.{view-String}
use Rattle.orc_cli_show.proofs.show.name_of.Goals as goal

pub returns-in_ok-from_str-in-Ok : goal.returns-in_ok-from_str-in-Ok
returns-in_ok-from_str-in-Ok c =
    let bytes = c.args.bytes.now in
    let is_text : is_utf8 bytes ≡ true = is_utf8-from_IsUtf8 bytes c.in-Ok.ensures.cases.1 in
    let seen = view-String c.in_ok-from_str-in-Ok.field-0 ∙ ap string (c.in_ok-from_str-in-Ok.ensures.ok ∙ c.in-Ok.ensures.cases.0) in
    let named : compact_text (string bytes) ≡ name_text bytes = rw is_text refl in
    IfOk-weaker c.to_string.result _ _ (λ text h. h (ap has_float seen) ∙ (ap compact_text seen ∙ named)) c.to_string.ensures.text

pub returns-in_ok-push_str-in-Err : goal.returns-in_ok-push_str-in-Err
returns-in_ok-push_str-in-Err c =
    let bytes = c.args.bytes.now in
    let no_text : is_utf8 bytes ≡ false = false_from_ne_true (is_utf8 bytes) (λ t. c.in-Err.ensures.cases.0 (IsUtf8-from_is_utf8 bytes t)) in
    let digits = c.deref.ensures ∙ c.in_ok-encode-in-Err.ensures in
    let named : codes "hex:" ++ encode_lower bytes ≡ name_text bytes = rw no_text refl in
    c.in_ok-push_str-in-Err.ensures.bytes ∙ (ap (λ (t : List ℕ). t ++ c.deref.result.now) c.in_ok-text-in-Err.ensures.ok ∙ (ap (λ (t : List ℕ). codes "hex:" ++ t) digits ∙ named))

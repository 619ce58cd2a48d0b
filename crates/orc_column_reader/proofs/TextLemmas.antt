-- The text that bytes are, and that an entry has.
use Rattle.std.proofs.Common.{◌≡◌, Bool, true, false, Some, None, Result, Ok, Err, List, ℕ, if◌then◌else◌, option_map, refl, sym, ap, ◌∙◌}
use Rattle.std.proofs.lemmas.Bool.{false_from_ne_true}
use Rattle.std.proofs.lemmas.Str.{is_utf8-from_IsUtf8, IsUtf8-from_is_utf8}
use Rattle.std.specs.Borrow.{Bor}
use Rattle.std.specs.Result.{MatchResult, result_ok}
use Rattle.std.specs.Str.{IsUtf8, is_utf8}
use Rattle.orc_column_reader.specs.Texts.{utf8_text}
use Rattle.orc_column_reader.specs.declared.entry.Entry.{Entry}

pub text_read : {E : Type 0} (P : E → Type 0) (r : Result (Bor (List ℕ)) E) (bs : List ℕ) → MatchResult r (λ s. (s.now ≡ bs) × IsUtf8 bs) (λ e. ¬ (IsUtf8 bs) × P e) → option_map (λ t. t.now) (result_ok r) ≡ utf8_text bs
text_read P (Ok s) bs h = rw (is_utf8-from_IsUtf8 bs h.1) (ap Some h.0)
text_read P (Err e) bs h = rw (false_from_ne_true (is_utf8 bs) (λ t. h.0 (IsUtf8-from_is_utf8 bs t))) refl

some_if : (b : Bool) (t bs : List ℕ) → Some t ≡ (if b then Some bs else None) → (t ≡ bs) × (b ≡ true)
some_if true t bs e = (cc, refl)
some_if false t bs e = cc

none_if : (b : Bool) (bs : List ℕ) → None ≡ (if b then Some bs else None) → b ≡ false
none_if true bs e = cc
none_if false bs e = refl

pub entry_text : (e : Entry) (t : Bor (List ℕ)) → e.text ≡ Some t → (t.now ≡ e.bytes.now) × (is_utf8 e.bytes.now ≡ true)
entry_text e t is = some_if (is_utf8 e.bytes.now) t.now e.bytes.now (sym (ap (option_map (λ t. t.now)) is) ∙ e.text_is)

pub entry_no_text : (e : Entry) → e.text ≡ None → is_utf8 e.bytes.now ≡ true → ⊥
entry_no_text e is utf8 =
    let none = none_if (is_utf8 e.bytes.now) e.bytes.now (sym (ap (option_map (λ t. t.now)) is) ∙ e.text_is) in
    cc

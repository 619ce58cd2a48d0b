use Rattle.std.proofs.Common.{◌≡◌, ℕ, ℤ, List, Bool, true, false, not, refl, sym, ap, ◌∙◌, bytes_eq, rules, FitsSigned, w32}
use Rattle.std.proofs.lemmas.Int.{to_z-of_z}
use Rattle.std.proofs.lemmas.Slice.Eq.{bytes_eq-Decides}
use Rattle.jiff.specs.Words.{epoch_day, date_text, date_parts}
use Rattle.orc_json_rows.specs.Days.{has_text, day_text, IsDayText}
use Rattle.orc_json_rows.proofs.Days.{day_text-date, parts_read, same_text, same_day}
use Rattle.orc_json_rows.proofs.day_text.day_of_text.Goals as goal

unequal : (xs ys : List ℕ) → xs ≡ ys → true ≡ not (bytes_eq xs ys) → ⊥
unequal xs ys h e = let same : bytes_eq xs ys ≡ true = (bytes_eq-Decides xs ys).1 h in let f : true ≡ false = e ∙ ap not same in cc

equal_by : (xs ys : List ℕ) (b : Bool) → bytes_eq xs ys ≡ b → false ≡ not b → xs ≡ ys
equal_by xs ys true h q = (bytes_eq-Decides xs ys).0 h
equal_by xs ys false h q = cc

equal : (xs ys : List ℕ) → false ≡ not (bytes_eq xs ys) → xs ≡ ys
equal xs ys e = equal_by xs ys (bytes_eq xs ys) refl e

pub returns-in_default : goal.returns-in_default
returns-in_default c = λ (n : ℤ) (h : IsDayText c.args.text.now n).
    let read = (parts_read c.args.text.now n h).3 in
    let other = c.in_default.ensures.value in cc

pub returns-then-not-has_text : goal.returns-then-not-has_text
returns-then-not-has_text c = λ (n : ℤ) (h : IsDayText c.args.text.now n).
    let read = parts_read c.args.text.now n h in
    let found = c.in-Ok.ensures.value in
    let of_text = read.3 in
    let parts : date_parts c.in-Ok.date ≡ date_parts read.0 = cc in
    let day : c.to_unix_epoch_day-day.result ≡ n = c.to_unix_epoch_day-day.ensures.value ∙ ap epoch_day c.to_plain-plain.ensures ∙ same_day c.in-Ok.date read.0 parts ∙ read.1 in
    let fits : FitsSigned w32 c.to_unix_epoch_day-day.result = search rules in
    let none = simp to_z-of_z at c.has_text.ensures in
    let some : has_text c.to_unix_epoch_day-day.result ≡ true = ap has_text day ∙ h.0 in
    cc (c.if-not-has_text.true)

pub returns-then-ne : goal.returns-then-ne
returns-then-ne c = λ (n : ℤ) (h : IsDayText c.args.text.now n).
    let read = parts_read c.args.text.now n h in
    let found = c.in-Ok.ensures.value in
    let of_text = read.3 in
    let parts : date_parts c.in-Ok.date ≡ date_parts read.0 = cc in
    unequal c.as_str.result.now c.args.text.now (c.as_str.ensures.value ∙ c.date_text-printed.ensures ∙ ap date_text c.to_plain-plain.ensures ∙ same_text c.in-Ok.date read.0 parts ∙ sym read.2) c.if-ne.ensures

pub returns : goal.returns
returns c =
    let fits : FitsSigned w32 c.to_unix_epoch_day-day.result = search rules in
    let day : c.to_unix_epoch_day-day.result ≡ epoch_day c.in-Ok.date = c.to_unix_epoch_day-day.ensures.value ∙ ap epoch_day c.to_plain-plain.ensures in
    let tested = simp to_z-of_z at c.has_text.ensures in
    let known : has_text c.to_unix_epoch_day-day.result ≡ true = cc (c.if-not-has_text.false) in
    let spelled = equal c.as_str.result.now c.args.text.now c.if-ne.ensures in
    let printed : c.args.text.now ≡ date_text c.in-Ok.date = sym spelled ∙ c.as_str.ensures.value ∙ c.date_text-printed.ensures ∙ ap date_text c.to_plain-plain.ensures in
    let text : c.args.text.now ≡ day_text c.to_unix_epoch_day-day.result = printed ∙ day_text-date c.in-Ok.date (ap has_text (sym day) ∙ known) ∙ ap day_text (sym day) in
    simp to_z-of_z (known, text)

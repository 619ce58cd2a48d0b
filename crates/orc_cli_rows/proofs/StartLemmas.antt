-- A text that names a place is cut at its first colon.
use Rattle.std.proofs.Common.{◌≡◌, ◌∙◌, ℕ, suc, ◌+◌, ◌<◌, Bool, false, ◌==◌, List, [], ◌∷◌, ◌++◌, length, take, drop, get_or, refl, sym, ap, subst, arith, length-append}
use Rattle.std.specs.List.{before_first, after_first, position_or_len}
use Rattle.std.specs.Str.Parse.{AllDigits}
use Rattle.std.specs.Char.{digit_value}
use Rattle.std.proofs.lemmas.Bool.{eqb-true, ne_eqb}
use Rattle.std.proofs.lemmas.List.Sums.{split_at_first, passes_at_first}
use Rattle.orc_cli_rows.specs.FromGroup.{IsStartText}

abbrev pub is_colon : ℕ → Bool
is_colon c = c == 58

no_colon : (c : ℕ) → digit_value c < 10 → is_colon c ≡ false
no_colon c h = ne_eqb c 58 (λ e. let colon : digit_value 58 < 10 = subst (λ (k : ℕ). digit_value k < 10) e h in absurd (omega (arith, colon)))

first_colon : (a b : List ℕ) → AllDigits 10 a → position_or_len is_colon (a ++ 58 ∷ b) ≡ length a
first_colon [] b h = refl
first_colon (c ∷ a) b h = let one : 1 + length a ≡ suc (length a) = omega arith in rw (no_colon c h.0) (ap (λ (k : ℕ). 1 + k) (first_colon a b h.1) ∙ one)

take_front : (a b : List ℕ) → take (length a) (a ++ b) ≡ a
take_front [] b = refl
take_front (c ∷ a) b = ap (λ (t : List ℕ). c ∷ t) (take_front a b)

drop_past : (a b : List ℕ) → drop (length a + 1) (a ++ 58 ∷ b) ≡ b
drop_past [] b = refl
drop_past (c ∷ a) b = let one : suc (length a) + 1 ≡ suc (length a + 1) = omega arith in ap (λ (k : ℕ). drop k (c ∷ (a ++ 58 ∷ b))) one ∙ drop_past a b

-- two numbers with a colon between are what stands before it and behind it
pub cut_there : (a b : List ℕ) → AllDigits 10 a → (before_first is_colon (a ++ 58 ∷ b) ≡ a) × (after_first is_colon (a ++ 58 ∷ b) ≡ b) × (position_or_len is_colon (a ++ 58 ∷ b) < length (a ++ 58 ∷ b))
cut_there a b h =
    let at = first_colon a b h in
    let long = length-append a (58 ∷ b) in (
      ap (λ (k : ℕ). take k (a ++ 58 ∷ b)) at ∙ take_front a (58 ∷ b),
      ap (λ (k : ℕ). drop (k + 1) (a ++ 58 ∷ b)) at ∙ drop_past a b,
      omega (arith, at, long),
    )

-- a text that is cut at its first colon is both parts, with it between
pub joined_again : (text : List ℕ) → position_or_len is_colon text < length text → text ≡ before_first is_colon text ++ 58 ∷ after_first is_colon text
joined_again text there =
    let at = position_or_len is_colon text in
    let colon : get_or text at 0 ≡ 58 = eqb-true (get_or text at 0) 58 (passes_at_first is_colon text 0 there) in
    split_at_first is_colon text 0 there ∙ ap (λ (c : ℕ). before_first is_colon text ++ c ∷ after_first is_colon text) colon

-- the parts of a text that names a place
pub start_parts : (text : List ℕ) (stripe group : ℕ) (h : IsStartText text stripe group) → (before_first is_colon text ≡ h.before) × (after_first is_colon text ≡ h.behind) × (position_or_len is_colon text < length text)
start_parts text stripe group h =
    subst (λ (t : List ℕ). (before_first is_colon t ≡ h.before) × (after_first is_colon t ≡ h.behind) × (position_or_len is_colon t < length t)) (sym h.parts) (cut_there h.before h.behind h.stripe_is.numeral.1)

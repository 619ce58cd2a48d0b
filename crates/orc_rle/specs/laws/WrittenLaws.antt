-- Laws of what the writer makes of values (ORC specification, "Integer Run Length Encoding, version 1").
-- It is a stream of the values, and the values have no other text.
use Rattle.std.proofs.Common.{◌≡◌, ℕ, suc, ◌-◌, List, [], ◌∷◌, ◌++◌, length, refl, sym, ap, subst, ◌∙◌, arith, inl, inr, ℤ, pos, ◌+ℤ◌}
use Rattle.std.proofs.Math.IntN.{◌-ℤ◌, +ℤ_comm, +ℤ-neg_ℤ_cancel}
use Rattle.orc_bits.specs.Varint.{varint_text}
use Rattle.orc_bits.proofs.VarintLaws.{one_shortest}
use Rattle.orc_rle.specs.declared.sign.Sign.{Sign}
use Rattle.orc_rle.specs.declared.sign.Sign.TheVariants.{Signed, Unsigned}
use Rattle.orc_rle.specs.Values.{Stands, AllInRange, IsSpelled, IsSpelledShortest}
use Rattle.orc_rle.specs.RunOne.{progression, IsSteps, IsShape, IsRunOne}
use Rattle.orc_rle.specs.Cut.{IsPiece}
use Rattle.orc_rle.specs.laws.CutLaws as cut
use Rattle.orc_rle.specs.WrittenOne.{IsStepText, IsLiteralText, rule_one, IsWrittenOne}
use Rattle.orc_rle.specs.Stream.{IsStream}

pub text_spelled : (sign : Sign) (vs : List ℤ) (text : List ℕ) → IsSpelledShortest sign vs text → IsSpelled sign vs text
text_spelled sign [] text h = h
text_spelled sign (v ∷ vs) text h = (h.0, h.1, h.2, h.3, h.4.varint, h.5, text_spelled sign vs h.2 h.6)

pub AllInRange-parts : (sign : Sign) (vs ws : List ℤ)
    → AllInRange sign (vs ++ ws) → AllInRange sign vs × AllInRange sign ws
AllInRange-parts sign [] ws h = (tt, h)
AllInRange-parts sign (x ∷ vs) ws h = let r = AllInRange-parts sign vs ws h.1 in ((h.0, r.0), r.1)

pub one_number : (sign : Sign) (v : ℤ) (m n : ℕ) → Stands sign v m → Stands sign v n → m ≡ n
one_number Signed v m n p q = sym p ∙ q
one_number Unsigned v m n p q = let h : pos m ≡ pos n = sym p ∙ q in cc

-- values have one text of shortest varints
pub one_spelled : (sign : Sign) (vs : List ℤ) (a b : List ℕ)
    → IsSpelledShortest sign vs a → IsSpelledShortest sign vs b → a ≡ b
one_spelled sign [] a b p q = p ∙ sym q
one_spelled sign (v ∷ vs) a b p q =
    let number = one_number sign v p.0 q.0 p.3 q.3 in
    let front : p.1 ≡ q.1 = one_shortest p.1 p.0 p.4 ∙ (ap varint_text number ∙ sym (one_shortest q.1 q.0 q.4)) in
    let rest = one_spelled sign vs p.2 q.2 p.6 q.6 in
    p.5 ∙ (ap (λ (t : List ℕ). t ++ p.2) front ∙ ap (λ (t : List ℕ). q.1 ++ t) rest) ∙ sym q.5

-- two runs of steps in front of one list
pub record SameSteps (a d b e : ℤ) : Type 0 where
  pub first : a ≡ b
  pub step : d ≡ e

pub cancel : (a d e : ℤ) → a +ℤ d ≡ a +ℤ e → d ≡ e
cancel a d e h = sym (+ℤ-neg_ℤ_cancel d a) ∙ (ap (λ (t : ℤ). t -ℤ a) (+ℤ_comm d a ∙ h ∙ +ℤ_comm a e) ∙ +ℤ-neg_ℤ_cancel e a)

pub same_steps : (a d b e : ℤ) (f g x y : List ℤ) → IsSteps a d f → IsSteps b e g → f ++ x ≡ g ++ y → SameSteps a d b e
same_steps a d b e f g x y p q h =
    let k : length f ≡ suc (suc (length f - 2)) = omega (arith, p.few) in
    let l : length g ≡ suc (suc (length g - 2)) = omega (arith, q.few) in
    let fs : f ≡ a ∷ (a +ℤ d) ∷ progression ((a +ℤ d) +ℤ d) d (length f - 2) = p.values_are ∙ ap (progression a d) k in
    let gs : g ≡ b ∷ (b +ℤ e) ∷ progression ((b +ℤ e) +ℤ e) e (length g - 2) = q.values_are ∙ ap (progression b e) l in
    let both = sym (ap (λ (t : List ℤ). t ++ x) fs) ∙ (h ∙ ap (λ (t : List ℤ). t ++ y) gs) in
    let first : a ≡ b = cc in
    let second : a +ℤ d ≡ b +ℤ e = cc in
    record { first = first; step = cancel a d e (second ∙ ap (λ (t : ℤ). t +ℤ e) (sym first)) }

one_step_text : (sign : Sign) (values : List ℤ) (a b : List ℕ)
    → IsStepText sign values a → IsStepText sign values b → a ≡ b
one_step_text sign values a b p q =
    let same = same_steps p.first p.step q.first q.step values values [] [] p.steps q.steps refl in
    let spelled = subst (λ (t : ℤ). IsSpelledShortest sign (t ∷ []) p.first_text) same.first p.spelled in
    let first_text = one_spelled sign (q.first ∷ []) p.first_text q.first_text spelled q.spelled in
    p.text_is ∙ (rw (same.step, first_text) refl) ∙ sym q.text_is

one_literal_text : (sign : Sign) (values : List ℤ) (a b : List ℕ)
    → IsLiteralText sign values a → IsLiteralText sign values b → a ≡ b
one_literal_text sign values a b p q =
    p.text_is ∙ (ap (λ (t : List ℕ). (256 - length values) ∷ t) (one_spelled sign values p.value_texts q.value_texts p.spelled q.spelled) ∙ sym q.text_is)

-- values have one text
pub one_text_one : (sign : Sign) (values : List ℤ) (a b : List ℕ)
    → IsWrittenOne sign values a → IsWrittenOne sign values b → a ≡ b
one_text_one sign = cut.one_text (rule_one sign) (λ piece p. omega (arith, p.2.few)) (one_step_text sign) (one_literal_text sign)

piece_shape : (sign : Sign) (piece rest : List ℤ) (text : List ℕ)
    → IsPiece (rule_one sign) piece rest text → IsShape sign text piece
piece_shape sign piece rest text (inl p) = inl (record {
  first = p.1.first;
  step = p.1.step;
  text = p.1.first_text;
  steps = p.1.steps;
  spelled = text_spelled sign (p.1.first ∷ []) p.1.first_text p.1.spelled;
  bytes_are = p.1.text_is;
})
piece_shape sign piece rest text (inr p) = inr (record {
  text = p.1.value_texts;
  few = p.0.few;
  most = p.0.many;
  spelled = text_spelled sign piece p.1.value_texts p.1.spelled;
  bytes_are = p.1.text_is;
})

-- what was written is a stream of the values
pub written_one_is_stream : (sign : Sign) (values : List ℤ) (bytes : List ℕ)
    → IsWrittenOne sign values bytes → AllInRange sign values → IsStream (IsRunOne sign) bytes values
written_one_is_stream sign =
    cut.written_is_stream (rule_one sign) (AllInRange sign) (IsRunOne sign) (λ v w. AllInRange-parts sign v w)
    (λ piece rest text p range. record { shape = piece_shape sign piece rest text p; in_range = range })

-- What is put behind the findings so far.
use Rattle.std.specs.Prelude.{MatchBool}
use Rattle.std.proofs.Common.{◌≡◌, ◌∙◌, ℕ, suc, ◌+◌, Bool, true, false, List, [], ◌++◌, refl, sym, ap, subst, arith, append_assoc, append-nil, inl, inr}
use Rattle.orc_check.specs.declared.finding.Finding.{Finding}
use Rattle.orc_check.specs.Findings.{Unless, reported, Both, OfEach, AddsFindings}

unless : (P : Type 0) (b : Bool) (f : Finding) → MatchBool b P (P → ⊥) → Unless P f (reported b f)
unless P true f h = inl (h, refl)
unless P false f h = inr (h, refl)

pub adds_report : (P : Type 0) (b : Bool) (f : Finding) (before after : List Finding) → MatchBool b P (P → ⊥) → after ≡ before ++ reported b f → AddsFindings (Unless P f) before after
adds_report P b f before after h e = (reported b f, unless P b f h, e)

pub adds_both : (P Q : List Finding → Type 0) (a b c : List Finding) → AddsFindings P a b → AddsFindings Q b c → AddsFindings (Both P Q) a c
adds_both P Q a b c p q =
    (p.0 ++ q.0, (p.0, q.0, p.1, q.1, refl), q.2 ∙ ap (λ (t : List Finding). t ++ q.0) p.2 ∙ append_assoc a p.0 q.0)

pub adds_none : (Of : ℕ → List Finding → Type 0) (a : List Finding) → AddsFindings (OfEach Of 0) a a
adds_none Of a = ([], refl, sym (append-nil a))

pub adds_next : (Of : ℕ → List Finding → Type 0) (n : ℕ) (a b c : List Finding) → AddsFindings (OfEach Of n) a b → AddsFindings (Of n) b c → AddsFindings (OfEach Of (n + 1)) a c
adds_next Of n a b c p q =
    let one : n + 1 ≡ suc n = omega arith in
    subst (λ m. AddsFindings (OfEach Of m) a c) (sym one) (adds_both (OfEach Of n) (Of n) a b c p q)

-- Bytes in front of others (ORC specification, "Integer Run Length Encoding, version 2").
use Rattle.std.proofs.Common.{List, ℕ, ◌≡◌, ◌++◌, sym, ap, ◌∙◌, ◌∷◌, length, ◌<◌, arith, length-append}
use Rattle.orc_rle.specs.laws.OneLaws.{parts_of}

-- each of two fronts, in other words
pub both : (a b x y s t : List ℕ) → a ≡ s → b ≡ t → a ++ x ≡ b ++ y → s ++ x ≡ t ++ y
both a b x y s t p q e = sym (ap (λ (k : List ℕ). k ++ x) p) ∙ (e ∙ ap (λ (k : List ℕ). k ++ y) q)

-- the first bytes of two fronts
pub heads : (a b x y s t : List ℕ) (g h : ℕ) → a ≡ g ∷ s → b ≡ h ∷ t → a ++ x ≡ b ++ y → g ≡ h
heads a b x y s t g h p q e = (parts_of g h (s ++ x) (t ++ y) (both a b x y (g ∷ s) (h ∷ t) p q e)).0

-- a front and its first byte
pub after_one : (g h : ℕ) (rest s a x : List ℕ) → a ≡ h ∷ s → g ∷ rest ≡ a ++ x → (g ≡ h) × (rest ≡ s ++ x)
after_one g h rest s a x p e = parts_of g h rest (s ++ x) (e ∙ ap (λ (k : List ℕ). k ++ x) p)

pub too_short : (n : ℕ) (rest a x : List ℕ) → length a ≡ n → rest ≡ a ++ x → length rest < n → ⊥
too_short n rest a x l e lt = omega (arith, l, ap length e, length-append a x, lt)

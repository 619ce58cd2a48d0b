-- Inputs that are stored one after the other (own).
use Rattle.std.specs.Prelude.{ℕ, List, [], ◌∷◌, take, drop}

-- bytes cut into inputs of these lengths, one after the other
abbrev pub cut : List ℕ → List ℕ → List (List ℕ)
cut [] bytes = []
cut (n ∷ lengths) bytes = take n bytes ∷ cut lengths (drop n bytes)

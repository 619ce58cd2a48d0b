-- Texts of cells that come one after the other (RFC 8259, "Arrays" and "Objects").
use Rattle.std.specs.Prelude.{ℕ, List, [], ◌∷◌, ◌++◌, Bool, true}
use Rattle.serde_json.specs.Written.{comma_if}

-- with a comma between two of them, and before the first where something stands before it
abbrev pub comma_texts : {X : Type 0} → (X → List ℕ) → Bool → List X → List ℕ
comma_texts f later [] = []
comma_texts f later (x ∷ xs) = comma_if later ++ (f x ++ comma_texts f true xs)

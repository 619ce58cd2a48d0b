-- The lines of a text, and the rows that they spell as JSON, one per line.
use Rattle.std.specs.Prelude.{◌≡◌, ◌≢◌, ℕ, List, [], ◌∷◌, ◌++◌}
use Rattle.std.specs.List.{flat_map, AllByRecursion}
use Rattle.orc_values.specs.Shapes.{Shape}
use Rattle.orc_values.specs.Cells.{Cell}
use Rattle.orc_json.specs.RowTexts.{TextSpells}

-- the line has no line end in it
abbrev pub IsLine : List ℕ → Type 0
IsLine line = AllByRecursion (λ b. b ≢ 10) line

-- Each line but the last one has a line end, the byte 0a. The last one has none: it is empty if the bytes end with a
-- line end.
pub record AreLines (bytes : List ℕ) (ended : List (List ℕ)) (last : List ℕ) : Type 0 where
  pub plain : AllByRecursion IsLine ended
  pub plain_last : IsLine last
  pub joined : bytes ≡ flat_map (λ (line : List ℕ). line ++ 10 ∷ []) ended ++ last

-- the line is JSON that spells the row
abbrev pub LineSpells : Shape → List ℕ → Cell → Type 0
LineSpells s line row = TextSpells s line row

-- each line spells a row, except empty lines, which are skipped
abbrev pub LinesSpell : Shape → List (List ℕ) → List Cell → Type 0
LinesSpell s [] rows = rows ≡ []
LinesSpell s ([] ∷ lines) rows = LinesSpell s lines rows
LinesSpell s ((b ∷ bs) ∷ lines) [] = ⊥
LinesSpell s ((b ∷ bs) ∷ lines) (row ∷ rows) = LineSpells s (b ∷ bs) row × LinesSpell s lines rows

-- the rows of one line: none if it is empty, and otherwise the one that it spells
abbrev pub LineSpellsRows : Shape → List ℕ → List Cell → Type 0
LineSpellsRows s line rows = LinesSpell s (line ∷ []) rows

-- the rows are those that the bytes' lines spell
pub record AreRowsOfLines (s : Shape) (bytes : List ℕ) (rows : List Cell) : Type 0 where
  pub ended : List (List ℕ)
  pub last : List ℕ
  pub lines : AreLines bytes ended last
  pub spell : LinesSpell s (ended ++ last ∷ []) rows
